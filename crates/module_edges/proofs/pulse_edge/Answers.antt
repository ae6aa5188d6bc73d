-- The pulse is that of the definition.
use Rattle.module_memory.proofs.Taken.{alike}
use Rattle.module_edges.proofs.pulse_edge.Goals as goal

pub returns : goal.returns
returns c = alike c.store_pulse.ensures (rw c.pulse_after-pulse.ensures)
