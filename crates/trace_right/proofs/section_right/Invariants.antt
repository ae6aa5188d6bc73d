use Rattle.std.specs.Prelude.{◌+◌, ◌*◌, ◌-◌}
use Rattle.trace_right.proofs.Levels.{Looking}
use Rattle.trace_right.proofs.section_right.Given as goal

abbrev pub invariant-loop-i : goal.invariant-loop-i
invariant-loop-i l = Looking l.f l.k l.level l.initial.levels l.levels (l.first + 4 * l.i) (l.records - l.i)
