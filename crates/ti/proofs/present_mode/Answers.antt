-- The four flags are the definition.
use Rattle.laws.proofs.Common.{refl}
use Rattle.ti.specs.Memory.{ti_in}
use Rattle.ti.proofs.present_mode.Goals as goal

pub returns : goal.returns
unfolding ti_in
returns c = refl
