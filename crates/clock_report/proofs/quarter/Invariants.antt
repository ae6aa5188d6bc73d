-- What is left to divide, so many times as are left, comes to the whole.
use Rattle.std.specs.Prelude.{◌≤◌, ◌-◌, ◌≡◌}
use Rattle.clock_rules.specs.Clock.{quartered}
use Rattle.clock_report.proofs.quarter.Given as goal

abbrev pub invariant-loop : goal.invariant-loop
invariant-loop l = (quartered (l.steps - l.counter) l.left ≡ quartered l.steps l.n) × (l.counter ≤ l.steps)
