-- Every number but the level of select is 0.
use Rattle.laws.proofs.Common.{refl, when◌then◌else◌}
use Rattle.ti_rules.specs.Settings.{rested_at, powered_up}
use Rattle.ti.specs.Memory.{ti_in}
use Rattle.ti.proofs.power_up.Goals as goal

pub returns : goal.returns
unfolding ti_in when◌then◌else◌ powered_up rested_at
returns c = record { holds = refl }
