-- Each branch is a value of the choice.
use Rattle.laws.proofs.Common.{so, not_so}
use Rattle.module_settings.proofs.first_cause.Goals as goal

pub returns-then-is_undivided : goal.returns-then-is_undivided
returns-then-is_undivided c = so _ _ _ (cc) (cc)

pub returns-then-samples_late : goal.returns-then-samples_late
returns-then-samples_late c = not_so _ _ _ (cc) (so _ _ _ (cc) (cc))

pub returns-else-samples_late : goal.returns-else-samples_late
returns-else-samples_late c = not_so _ _ _ (cc) (not_so _ _ _ (cc) (cc))
