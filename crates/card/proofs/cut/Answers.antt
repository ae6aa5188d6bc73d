-- Each arm keeps the low bits of its length; a number of 32 bits keeps all of them.
use Rattle.std.specs.Prelude.{◌%◌, ◌^◌}
use Rattle.laws.proofs.Common.{ℕ, mod-eq_of_lt, sym, ap, ◌∙◌, arith}
use Rattle.card_rules.specs.Calls.{sample_of}
use Rattle.card.proofs.Frames.{bits_16, bits_24, bits_32}
use Rattle.card.proofs.cut.Goals as goal

pub returns-in-0 : goal.returns-in-0
unfolding sample_of
returns-in-0 c = ap (λ (b : ℕ). c.args.v % 2 ^ b) (bits_16 _ (omega arith))

pub returns-in-2 : goal.returns-in-2
unfolding sample_of
returns-in-2 c = ap (λ (b : ℕ). c.args.v % 2 ^ b) (bits_24 _ c.in-2.is)

pub returns-in_default : goal.returns-in_default
unfolding sample_of
returns-in_default c = sym (mod-eq_of_lt c.ranges.v.fits) ∙ ap (λ (b : ℕ). c.args.v % 2 ^ b) (bits_32 _ (omega arith))
