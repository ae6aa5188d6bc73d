-- By a short way, or the number of the answer is told.
use Rattle.laws.proofs.Common.{refl}
use Rattle.module_by_number.specs.Told.{answer_number}
use Rattle.module_by_number.proofs.Answers.{told}
use Rattle.module_by_number.proofs.tick.Goals as goal

pub returns-then-frame_within : goal.returns-then-frame_within
unfolding answer_number
returns-then-frame_within c = told (c.frame_within.ensures.taken c.if-frame_within.true) refl

pub returns : goal.returns
returns c =
    rw (c.frame_within.ensures.left c.if-frame_within.false) at (told c.tick.ensures c.answer_number.ensures)
