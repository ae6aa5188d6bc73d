-- What is sampled is taken from the width.
use Rattle.std.specs.Prelude.{◌+◌, ◌/◌}
use Rattle.laws.proofs.Common.{Bool, ap, ◌∙◌, arith}
use mir.Val.{bool_byte}
use Rattle.module_rules.specs.Settings.{cke_of}
use Rattle.module_rules.proofs.Sizes.{width_most}
use Rattle.word_rules.specs.Word.{bits_left}
use Rattle.word_calls.proofs.Making.{sampled_sum}
use Rattle.word_calls.proofs.bits_left.Goals as goal

pub returns : goal.returns
unfolding bits_left
returns c = let g = (ap (λ (b : Bool). (c.args.edges + bool_byte b) / 2) c.cke.ensures ∙ sampled_sum (cke_of c.args.s) c.args.edges) in let most = width_most c.args.s in (omega (arith, c.saturating_sub.ensures), omega (arith, c.saturating_sub.ensures))
