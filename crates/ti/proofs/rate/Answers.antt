-- One division of the two floats.
use Rattle.laws.proofs.Common.{refl}
use Rattle.ti_rules.specs.Clock.{rate_of}
use Rattle.ti.proofs.rate.Goals as goal

pub returns : goal.returns
unfolding rate_of
returns c = rw (c.from.ensures, c.from-2.ensures, c.divider.ensures) refl
