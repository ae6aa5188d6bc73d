-- By the short way, or to the other level.
use Rattle.module_memory.proofs.Taken.{alike}
use Rattle.module_answers.specs.Answered.{turned}
use Rattle.module_calls.proofs.turn.Goals as goal

pub returns-else-not-turn_within : goal.returns-else-not-turn_within
returns-else-not-turn_within c = c.turn_within.ensures.steps c.if-not-turn_within.false

pub returns-then-not-turn_within : goal.returns-then-not-turn_within
unfolding turned
returns-then-not-turn_within c =
    rw (c.turn_within.ensures.left c.if-not-turn_within.true) at (alike {g = λ s. turned s c.args.sdi} c.edge.ensures (rw c.pins_in-pins.ensures))
