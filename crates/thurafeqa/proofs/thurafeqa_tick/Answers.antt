-- A tick by the short way, by the way of a word's ends, or what the whole call tells, its levels being numbers.
use Rattle.laws.proofs.Common.{refl, ◌∙◌}
use Rattle.module_by_number.specs.Told.{answer_number, level_in}
use Rattle.module_by_number.proofs.Answers.{told}
use Rattle.thurafeqa.proofs.thurafeqa_tick.Goals as goal

pub returns-then-tick_within : goal.returns-then-tick_within
unfolding answer_number level_in
returns-then-tick_within c = told (c.tick_within.ensures.taken c.if-tick_within.true) refl

pub returns-then-own_edge : goal.returns-then-own_edge
unfolding answer_number level_in
returns-then-own_edge c =
    rw (c.tick_within.ensures.left c.if-tick_within.false) at (told (c.own_edge.ensures.taken c.if-own_edge.true) refl)

pub returns : goal.returns
unfolding level_in
returns c =
    rw (c.own_edge.ensures.left c.if-own_edge.false ∙ c.tick_within.ensures.left c.if-tick_within.false) at c.tick.ensures
