-- Both modules go into memory and come back.
use Rattle.module_by_value.proofs.linked.Goals as goal

pub returns : goal.returns
returns c =
    rw (c.module_in-host.ensures, c.module_in-client.ensures) (rw (c.memory_of-h.ensures, c.memory_of-c.ensures) at c.linked-answer.ensures.outcome)
