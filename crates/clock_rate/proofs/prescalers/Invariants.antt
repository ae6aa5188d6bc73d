-- What is found is the best of the settings seen so far.
use Rattle.std.specs.Prelude.{◌≤◌, ◌≡◌}
use Rattle.clock_rate_rules.specs.Rate.{best_of}
use Rattle.clock_rate.specs.Found.{setting_in}
use Rattle.clock_rate.proofs.prescalers.Given as goal

abbrev pub invariant-loop-k : goal.invariant-loop-k
invariant-loop-k l = (setting_in l.found ≡ best_of l.f l.wanted l.k) × (l.k ≤ 31)
