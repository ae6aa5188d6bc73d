-- By the short way, or the number of the answer is told.
use Rattle.laws.proofs.Common.{refl}
use Rattle.module_by_number.specs.Told.{answer_number}
use Rattle.module_by_number.proofs.Answers.{told}
use Rattle.module_by_number.proofs.pins.Goals as goal

pub returns-then-pins_within : goal.returns-then-pins_within
unfolding answer_number
returns-then-pins_within c = told (c.pins_within.ensures.taken c.if-pins_within.true) refl

pub returns : goal.returns
returns c =
    rw (c.pins_within.ensures.left c.if-pins_within.false) at (told c.pins.ensures c.answer_number.ensures)
