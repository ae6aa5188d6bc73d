-- A clock step by the short way, or what the whole call tells, its levels being numbers.
use Rattle.laws.proofs.Common.{refl}
use Rattle.module_by_number.specs.Told.{step_number, level_in}
use Rattle.module_by_number.proofs.Answers.{step-told}
use Rattle.thurafeqa.proofs.thurafeqa_clock_step.Goals as goal

pub returns-then-own_within : goal.returns-then-own_within
unfolding step_number level_in
returns-then-own_within c = step-told (c.own_within.ensures.shortly.taken c.if-own_within.true) c.levels.ensures.0 refl

pub returns : goal.returns
unfolding level_in
returns c = rw (c.own_within.ensures.shortly.left c.if-own_within.false) at c.clock_step.ensures
