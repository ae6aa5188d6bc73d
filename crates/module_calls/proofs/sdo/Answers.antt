-- By the settings and the pins that memory holds.
use Rattle.module_rules.specs.Calls.{undriven, sdo_of}
use Rattle.module_calls.proofs.sdo.Goals as goal

pub returns : goal.returns
unfolding undriven sdo_of
returns c = rw (c.settings_in-s.ensures, c.pins_in-pins.ensures) at c.sdo_by.ensures
