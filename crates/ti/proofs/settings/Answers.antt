-- The weights are the definition.
use Rattle.ti.specs.Memory.{settings_number, ti_in}
use Rattle.ti.proofs.settings.Goals as goal

pub returns : goal.returns
unfolding settings_number ti_in
returns c = cc
