-- The branch is the choice of the definition.
use Rattle.laws.proofs.Choices.{so, not_so}
use Rattle.module_settings.proofs.is_silent.Goals as goal

pub returns-then-s : goal.returns-then-s
returns-then-s c = so _ _ _ (cc) (cc)

pub returns-else-s : goal.returns-else-s
returns-else-s c = not_so _ _ _ (cc) (cc)
