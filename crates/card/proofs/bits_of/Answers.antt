-- Each arm is a value of the choice.
use Rattle.laws.proofs.Common.{arith}
use Rattle.card.proofs.Frames.{bits_16, bits_24, bits_32}
use Rattle.card.proofs.bits_of.Goals as goal

pub returns-in-0-clause-bits : goal.returns-in-0-clause-bits
returns-in-0-clause-bits c = bits_16 _ (omega arith)

pub returns-in-2-clause-bits : goal.returns-in-2-clause-bits
returns-in-2-clause-bits c = bits_24 _ c.in-2.is

pub returns-in_default-clause-bits : goal.returns-in_default-clause-bits
returns-in_default-clause-bits c = bits_32 _ (omega arith)
