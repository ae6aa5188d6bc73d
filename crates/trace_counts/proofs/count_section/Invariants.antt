use Rattle.std.specs.Prelude.{◌+◌, ◌*◌}
use Rattle.laws.proofs.Common.{get_or}
use Rattle.trace_counts.proofs.Counts.{Counting}
use Rattle.trace_counts.proofs.count_section.Given as goal

abbrev pub invariant-loop-i : goal.invariant-loop-i
invariant-loop-i l = Counting l.file.bytes.now l.k (λ j. get_or l.counts j 0) l.i (l.first + 4 * l.i) l.total
