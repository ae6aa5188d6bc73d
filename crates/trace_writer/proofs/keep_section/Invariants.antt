use Rattle.std.specs.Prelude.{◌*◌}
use Rattle.trace_rules.specs.Trace.{section_count}
use Rattle.trace_writer.proofs.Salvaging.{Going}
use Rattle.trace_writer.proofs.keep_section.Given as goal

abbrev pub invariant-loop-i : goal.invariant-loop-i
invariant-loop-i l = Going (section_count l.f) l.level l.k l.body l.initial.levels l.levels (4 * l.i)
