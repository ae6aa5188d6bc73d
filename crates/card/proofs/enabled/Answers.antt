-- The lowest bit of the first number tells it.
use Rattle.laws.proofs.Common.{refl, arith}
use Rattle.card.proofs.CallsHold.{on_unless, off_if}
use Rattle.card.proofs.enabled.Goals as goal

pub returns-in-0 : goal.returns-in-0
returns-in-0 c = (off_if _ c.in-0.is, refl)

pub returns-in_default : goal.returns-in_default
returns-in_default c = on_unless _ (λ e. omega arith)
