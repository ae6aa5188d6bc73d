-- The weight and the two bits are the definition.
use Rattle.ti.specs.Memory.{levels_number, ti_in}
use Rattle.ti.proofs.levels.Goals as goal

pub returns : goal.returns
unfolding levels_number ti_in
returns c = cc
