use Rattle.trace_counts.specs.Counts.{CountsFrom}
use Rattle.trace_counts.proofs.count_sections.Given as goal

abbrev pub invariant-loop-k : goal.invariant-loop-k
invariant-loop-k l = CountsFrom l.file.bytes.now l.k l.counts
