use Rattle.std.specs.Prelude.{◌≡◌}
use Rattle.laws.proofs.Common.{true}
use Rattle.trace_rules.specs.Trace.{entries_of, all_below, all_of}
use Rattle.trace_right.specs.Levels.{LevelsAt}
use Rattle.trace_right.proofs.records_right.Given as goal

abbrev pub invariant-loop-k : goal.invariant-loop-k
invariant-loop-k l =
    LevelsAt (entries_of l.f) l.k l.levels × (all_below (λ j. all_of l.f j (entries_of l.f j)) l.k ≡ true)
