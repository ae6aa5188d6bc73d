-- The number of the answer, with the levels after it, is told.
use Rattle.laws.proofs.Common.{refl}
use Rattle.module_by_number.specs.Told.{step_number}
use Rattle.module_by_number.proofs.Answers.{step-told}
use Rattle.module_by_number.proofs.clock_step.Goals as goal

pub returns-then-step_within : goal.returns-then-step_within
unfolding step_number
returns-then-step_within c = step-told (c.step_within.ensures.taken c.if-step_within.true) c.levels.ensures.0 refl

pub returns : goal.returns
returns c =
    rw (c.step_within.ensures.left c.if-step_within.false) at
    (step-told c.clock_step-answer.ensures c.levels-seen.ensures.0 c.step_number.ensures)
