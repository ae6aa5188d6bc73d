use Rattle.std.specs.Prelude.{◌+◌, ◌*◌, ◌≤◌, ◌≡◌}
use Rattle.laws.proofs.Common.{true}
use Rattle.trace_rules.specs.Trace.{place_of, gapless}
use Rattle.trace_right.proofs.gapless_end.Given as goal

abbrev pub invariant-loop-k : goal.invariant-loop-k
invariant-loop-k l = (l.at ≤ 1048576 + 4294967295 * l.k) × (l.at ≡ place_of l.f l.k) × (gapless l.f l.k ≡ true)
