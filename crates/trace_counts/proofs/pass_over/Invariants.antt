use Rattle.std.specs.Prelude.{◌+◌, ◌*◌, ◌≡◌}
use Rattle.trace_counts.specs.Idle.{landing_of, PassedFrom}
use Rattle.trace_counts.proofs.pass_over.Given as goal

abbrev pub invariant-loop-i : goal.invariant-loop-i
invariant-loop-i l =
    (l.to ≡ landing_of l.f (l.odd + 4 * l.i)) × PassedFrom l.f (l.odd + 4 * l.i) l.next
