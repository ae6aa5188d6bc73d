-- What is found is below 31, so that it is not the definition's 32.
use Rattle.std.specs.Prelude.{Option}
use Rattle.laws.proofs.Common.{refl, by_case, arith, not_so_eq, when◌then◌else◌}
use Rattle.clock_rate_rules.specs.Rate.{in_con1}
use Rattle.clock_rate.specs.declared.setting.Setting.{Setting}
use Rattle.clock_rate.specs.Found.{setting_in}
use Rattle.clock_rate.proofs.in_con1.Goals as goal

pub returns-in-Some : goal.returns-in-Some
unfolding in_con1
returns-in-Some c =
    by_case (λ (o : Option Setting). in_con1 (setting_in o)) c.in-Some.is (not_so_eq c.in-Some.setting.k 32 _ _ (λ e. absurd (omega (arith, c.in-Some.setting.is_one, e))) refl)

pub returns-in-None : goal.returns-in-None
unfolding in_con1 when◌then◌else◌
returns-in-None c = by_case (λ (o : Option Setting). in_con1 (setting_in o)) c.in-None.is refl
