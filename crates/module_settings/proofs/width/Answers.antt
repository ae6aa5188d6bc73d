-- By MODE16.
use Rattle.laws.specs.Choice.{when◌then◌else◌}
use Rattle.module_settings.proofs.width.Goals as goal

pub returns-then-s : goal.returns-then-s
unfolding when◌then◌else◌
returns-then-s c = cc

pub returns-else-s : goal.returns-else-s
unfolding when◌then◌else◌
returns-else-s c = cc
