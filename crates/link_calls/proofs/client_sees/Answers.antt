-- What the callees ensure, put together.
use Rattle.laws.proofs.Common.{◌∙◌}
use Rattle.module_memory.proofs.Taken.{module_after}
use Rattle.link_calls.proofs.Turns.{shown}
use Rattle.link_calls.proofs.client_sees.Goals as goal

pub returns : goal.returns
returns c = rw (c.level-sdi.ensures, c.pins_in-pins.ensures) at (module_after c.see.ensures) ∙ shown _ _ c.requires
