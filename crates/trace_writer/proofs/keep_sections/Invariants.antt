use Rattle.trace_writer.proofs.Salvaging.{Keeping}
use Rattle.trace_writer.proofs.keep_sections.Given as goal

abbrev pub invariant-loop-k : goal.invariant-loop-k
invariant-loop-k l = Keeping l.f l.n l.sizes l.levels l.cut l.end l.k
