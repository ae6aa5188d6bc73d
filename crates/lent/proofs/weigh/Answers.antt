-- The branch is the choice of the clause.
use Rattle.laws.proofs.Common.{arith, refl, so, not_so}
use Rattle.lent.proofs.weigh.Goals as goal

pub returns-then-bit : goal.returns-then-bit
returns-then-bit c = record { value = so _ _ _ c.if-bit.true refl; bound = omega arith }

pub returns-else-bit : goal.returns-else-bit
returns-else-bit c = record { value = not_so _ _ _ c.if-bit.false refl; bound = omega arith }
