-- Refused while enabled, and if they are not named; else one number is written.
use Rattle.laws.proofs.Common.{arith}
use Rattle.card.proofs.CallsHold.{exits, length_small, length_refused, length_unnamed, length_done}
use Rattle.card.proofs.set_length.Goals as goal

pub returns-in_err-disabled : goal.returns-in_err-disabled
returns-in_err-disabled c =
    exits _ c.from_residual.ensures.1 c.in_err-disabled.ensures.1 (length_refused _ _ _ c.in_err-disabled.ensures.0)

pub returns-in_default : goal.returns-in_default
returns-in_default c = length_unnamed _ _ _ c.in_ok-disabled.ensures c.in_default.ensures

pub overflow_mul-w : goal.overflow_mul-w
overflow_mul-w c = omega (arith, length_small _ _ c.in-Some.ensures)

pub overflow_add-w : goal.overflow_add-w
overflow_add-w c = omega (arith, length_small _ _ c.in-Some.ensures)

pub returns : goal.returns
returns c = length_done _ _ _ _ c.told-w c.in_ok-disabled.ensures c.in-Some.ensures
