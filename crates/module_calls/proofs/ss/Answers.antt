-- By the settings and the pins that memory holds.
use Rattle.module_rules.specs.Calls.{ss_of}
use Rattle.module_calls.proofs.ss.Goals as goal

pub returns : goal.returns
unfolding ss_of
returns c = rw (c.settings_in-s.ensures, c.pins_in-pins.ensures) at c.ss_by.ensures
