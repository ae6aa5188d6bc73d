use Rattle.std.specs.Prelude.{◌+◌}
use Rattle.laws.proofs.Common.{length}
use Rattle.trace_rules.specs.TraceBytes.{joined, sections_from}
use Rattle.trace_writer.specs.Heads.{part_of, put_parts}
use Rattle.trace_writer.proofs.Placing.{Writing, parts_from}
use Rattle.trace_writer.proofs.put_parts.Given as goal

abbrev pub invariant-loop-k : goal.invariant-loop-k
invariant-loop-k l =
    let n = length l.sizes in
    Writing (put_parts l.f n l.sizes l.from l.initial.out) (l.from + length (joined (sections_from (part_of l.f l.sizes) n 0))) (parts_from l.f l.sizes n l.k) l.out l.place
