-- The test is the definition's.
use Rattle.laws.proofs.Common.{refl, so, not_so}
use Rattle.clock_rate_rules.specs.Rate.{better}
use Rattle.clock_rate.proofs.better.Goals as goal

pub returns-then-fits-divider_at : goal.returns-then-fits-divider_at
unfolding better
returns-then-fits-divider_at c = so _ _ _ (cc) refl

pub returns : goal.returns
unfolding better
returns c = not_so _ _ _ (cc) refl
