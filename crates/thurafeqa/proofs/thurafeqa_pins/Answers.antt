-- A pin call by the short way, by the way of a word's ends, or what the whole call tells, its levels being numbers.
use Rattle.laws.proofs.Common.{refl, ◌∙◌}
use Rattle.module_by_number.specs.Told.{answer_number, level_in}
use Rattle.module_by_number.proofs.Answers.{told}
use Rattle.thurafeqa.proofs.thurafeqa_pins.Goals as goal

pub returns-then-low_within : goal.returns-then-low_within
unfolding answer_number level_in
returns-then-low_within c = told (c.low_within.ensures.taken c.if-low_within.true) refl

pub returns-then-low_edge : goal.returns-then-low_edge
unfolding answer_number level_in
returns-then-low_edge c =
    rw (c.low_within.ensures.left c.if-low_within.false) at (told (c.low_edge.ensures.taken c.if-low_edge.true) refl)

pub returns : goal.returns
unfolding level_in
returns c =
    rw (c.low_edge.ensures.left c.if-low_edge.false ∙ c.low_within.ensures.left c.if-low_within.false) at c.pins.ensures
