-- The demands of specs/ClockDemands.antt, all of them.
--     clock_reports_lem   what the buyer signs for, of the clock report
-- Assumes nothing.
use mathlib.Core.Path.{refl, sym, ◌∙◌}
use lib.Ieee.{of_int}
use Rattle.clock_rules.specs.ClockDemands.{ClockReports}
use Rattle.clock_rules.proofs.ClockExact.{rate_0_is_refused, disabled_has_none, own_clock_says, pin_clock_says, rate_rounds_once, rate_exact, divider_tabled}

pub clock_reports_lem : ClockReports
unfolding of_int
clock_reports_lem =
    record {
      refused = rate_0_is_refused;
      none = disabled_has_none;
      internal = own_clock_says;
      exact = λ m f q h e. sym (rate_rounds_once m.settings f h) ∙ (rate_exact m.settings f q h e).0;
      external = pin_clock_says;
      as_tabled = divider_tabled;
      told_as0 = refl;
      one_outcome = λ m f x y e g. e ∙ sym g;
    }
