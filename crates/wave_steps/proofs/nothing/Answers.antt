-- The definition, number by number.
use mathlib.Core.Path.{refl}
use Rattle.wave_steps.specs.Wave.{unshown}
use Rattle.wave_steps.proofs.nothing.Goals as goal

pub returns : goal.returns
unfolding unshown
returns c = refl
