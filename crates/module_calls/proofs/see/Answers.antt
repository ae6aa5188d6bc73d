-- By the short way, or whole.
use Rattle.module_calls.proofs.see.Goals as goal

pub returns-else-not-see_within : goal.returns-else-not-see_within
returns-else-not-see_within c = c.see_within.ensures.steps c.if-not-see_within.false

pub returns-then-not-see_within : goal.returns-then-not-see_within
returns-then-not-see_within c = rw (c.see_within.ensures.left c.if-not-see_within.true) at c.see_any.ensures
