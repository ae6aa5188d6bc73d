-- The tests are those of the definition.
use Rattle.module_rules.specs.Edge.{awaits_pulse}
use Rattle.module_edges.proofs.begins_none.Goals as goal

pub returns : goal.returns
unfolding awaits_pulse
returns c = rw (c.settings_in-s.ensures, c.pins_in-pins.ensures)
