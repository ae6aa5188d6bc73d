-- A word that is begun counts, unless it is a filler.
use Rattle.std.specs.Prelude.{◌≡◌}
use Rattle.laws.proofs.Common.{Bool, true, false, not, refl, by_case, when◌then◌else◌}
use mir.Val.{bool_byte}
use Rattle.word_order.proofs.WordBits.{bit_most}
use Rattle.word_rules.specs.Word.{words_in}
use Rattle.word_calls.proofs.words_in.Goals as goal

one_unless : (filler : Bool) → bool_byte (not filler) ≡ (when filler then 0 else 1)
unfolding when◌then◌else◌
one_unless true = refl
one_unless false = refl

pub returns-in-Begun : goal.returns-in-Begun
returns-in-Begun c = (by_case words_in c.in-Begun.is (one_unless c.in-Begun.p.filler), bit_most (not c.in-Begun.p.filler))
