-- The definition is run on examples.
--     rate_examples_hold
-- Assumes nothing.
use Rattle.std.specs.Prelude.{◌≡◌}
use Rattle.laws.proofs.Common.{true, refl, when◌then◌else◌}
use Rattle.clock_rules.specs.Clock.{quartered, primary_of, secondary_of}
use Rattle.clock_rate_rules.specs.Rate.{divider_at, fits, to_beat, better, best_of, in_con1, prescalers_for}
use Rattle.clock_rate_rules.specs.RateExamples.{rate_examples}

pub rate_examples_hold : rate_examples ≡ true
unfolding when◌then◌else◌ quartered primary_of secondary_of divider_at fits to_beat better best_of in_con1 prescalers_for rate_examples
rate_examples_hold = refl
