-- The module that memory holds after power-up.
use Rattle.module_by_value.proofs.power_up.Goals as goal

pub returns : goal.returns
returns c = rw c.power_up.ensures at c.module_in.ensures
