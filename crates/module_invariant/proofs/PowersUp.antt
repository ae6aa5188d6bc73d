-- Document 02, Twelve: power-up with a depth, and the depth after every call.
--     powers_up_lem   what the page says of it
-- Assumes nothing.
use Rattle.std.specs.Prelude.{◌||◌, ◌≡◌}
use Rattle.laws.proofs.Common.{ℕ, Bool, true, false, refl, sym, eqb-true, eqb, when◌then◌else◌, clash}
use Rattle.module_rules.proofs.Types.{Four, Eight, Sixteen, Module, Outcome, NoSuchDepth, Done, Call}
use Rattle.module_rules.specs.InBits.{chosen}
use Rattle.module_rules.specs.Refusals.{number_of, said_of, is_done}
use Rattle.module_rules.specs.Registers.{stat_settings}
use Rattle.module_rules.specs.Calls.{refuse, answering, powered_at, power_up_of, clear_of, perform_of}
use Rattle.module_rules.specs.Demands.{PowersUp}
use Rattle.module_rules.proofs.ExamplesHold.{power_up_zero}
use Rattle.module_invariant.proofs.CallCases.{call_cases}

-- By the three tests.
abbrev powered : Bool → Bool → Bool → Module → Outcome
powered four eight sixteen m =
    when four then record { answer = Done; after = powered_at Four }
    else when eight then record { answer = Done; after = powered_at Eight }
    else when sixteen then record { answer = Done; after = powered_at Sixteen }
    else refuse m NoSuchDepth

refused_so : (a b c : Bool) (m : Module) → (said_of (powered a b c m).answer).number ≡ (when a || (b || (c || false)) then 0 else 25)
unfolding when◌then◌else◌ refuse number_of
refused_so true b c m = refl
refused_so false true c m = refl
refused_so false false true m = refl
refused_so false false false m = refl

unchanged_so : (a b c : Bool) (m : Module) → (a || (b || (c || false))) ≡ false → (powered a b c m).after ≡ m
unfolding when◌then◌else◌ refuse
unchanged_so true b c m e = clash true refl e
unchanged_so false true c m e = clash true refl e
unchanged_so false false true m e = clash true refl e
unchanged_so false false false m e = refl

done_so : (a b c : Bool) (m : Module) (words : ℕ) → (a ≡ true → words ≡ 4) → (b ≡ true → words ≡ 8) → (c ≡ true → words ≡ 16) →
    (a || (b || (c || false))) ≡ true →
    (is_done (powered a b c m).answer ≡ true) × (chosen (powered a b c m).after.settings.depth ≡ words)
    × ((powered a b c m).after ≡ powered_at (powered a b c m).after.settings.depth)
unfolding when◌then◌else◌ powered_at
done_so true b c m words four eight sixteen e = (refl, sym (four refl), refl)
done_so false true c m words four eight sixteen e = (refl, sym (eight refl), refl)
done_so false false true m words four eight sixteen e = (refl, sym (sixteen refl), refl)
done_so false false false m words four eight sixteen e = clash false e refl

-- A call leaves the depth.
depth_stays : (m : Module) (c : Call) → (perform_of m c).after.settings.depth ≡ m.settings.depth
unfolding answering clear_of stat_settings
depth_stays m =
    call_cases m (λ (o : Outcome). o.after.settings.depth ≡ m.settings.depth)
    (record {
      same = λ a. refl;
      taken = λ on plain v. refl;
      enables = λ off v up good. refl;
      disables = λ on v down. refl;
      rewrites = λ v same. refl;
      configures = λ off c d spre ppre. refl;
      written = λ on v. refl;
      seen = λ on a ok x busy. refl;
      cleared = refl;
    })

pub powers_up_lem : PowersUp
unfolding power_up_of
powers_up_lem =
    record {
      refused_exactly = λ m words. refused_so (eqb words 4) (eqb words 8) (eqb words 16) m;
      refused_unchanged = λ m words. unchanged_so (eqb words 4) (eqb words 8) (eqb words 16) m;
      done = λ m words. done_so (eqb words 4) (eqb words 8) (eqb words 16) m words (eqb-true words 4) (eqb-true words 8) (eqb-true words 16);
      all_zero = power_up_zero;
      without = refl;
      stays = depth_stays;
    }
