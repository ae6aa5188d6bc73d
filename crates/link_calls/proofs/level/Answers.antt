-- The definition, with what is looked up.
use Rattle.link_calls.specs.Wire.{open_level}
use Rattle.link_calls.proofs.level.Goals as goal

pub returns : goal.returns
unfolding open_level
returns c = rw (c.settings_in-s.ensures, c.pins_in-pins.ensures)
