use Rattle.std.specs.Prelude.{◌+◌, ◌*◌}
use Rattle.laws.proofs.Common.{length}
use Rattle.script_rules.specs.Texts.{put}
use Rattle.trace_writer.specs.Heads.{table_of}
use Rattle.trace_writer.proofs.Placing.{Heading}
use Rattle.trace_writer.proofs.put_head.Given as goal

abbrev pub invariant-loop-size : goal.invariant-loop-size
invariant-loop-size l =
    let n = length l.sizes in
    Heading l.sizes (put l.initial.out l.initial.place (table_of l.sizes (2 + 8 * n) n 0)) n l.size-index l.at l.out l.place
