-- The shift and the remainder are the definition; a word has no bit at 16 or above.
use Rattle.laws.proofs.Common.{refl, sym, ◌∙◌, le-ltb}
use Rattle.word_order.specs.Bits.{bit_of}
use Rattle.module_rules.proofs.Sizes.{no_bit_above}
use Rattle.module_bits.proofs.bit.Goals as goal

pub returns-then-i-lt16 : goal.returns-then-i-lt16
unfolding bit_of
returns-then-i-lt16 c = refl

pub returns-else-i-lt16 : goal.returns-else-i-lt16
returns-else-i-lt16 c =
    le-ltb c.args.i 16 c.if-i-lt16.false ∙ sym (no_bit_above c.args.word 16 c.args.i c.ranges.word.fits c.if-i-lt16.false)
