-- The module that memory holds after power-up.
use Rattle.laws.proofs.Common.{ap}
use Rattle.module_types.specs.declared.Module.{Module}
use Rattle.script_rules.specs.Session.{started}
use Rattle.script_player.proofs.start.Goals as goal

pub returns : goal.returns
unfolding started
returns c = ap (λ (m : Module). record { spi = m; lines = 0; at = 0 }) c.power_up.ensures
