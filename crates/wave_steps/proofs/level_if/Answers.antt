-- Each branch is a value of the choice.
use Rattle.laws.proofs.Common.{so, not_so}
use Rattle.wave_steps.specs.Wave.{level_if}
use Rattle.wave_steps.proofs.level_if.Goals as goal

pub returns-then-enabled : goal.returns-then-enabled
unfolding level_if
returns-then-enabled c = so _ _ _ (cc) (cc)

pub returns-else-enabled : goal.returns-else-enabled
unfolding level_if
returns-else-enabled c = not_so _ _ _ (cc) (cc)
