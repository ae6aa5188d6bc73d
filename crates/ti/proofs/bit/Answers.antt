-- The shift and the remainder are the definition.
use Rattle.laws.proofs.Common.{refl}
use Rattle.word_order.specs.Bits.{bit_of}
use Rattle.ti.proofs.bit.Goals as goal

pub returns : goal.returns
unfolding bit_of
returns c = refl
