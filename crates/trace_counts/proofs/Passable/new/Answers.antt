-- A right file is short enough for its table to be filled.
use Rattle.laws.proofs.Common.{arith}
use Rattle.trace_page.proofs.TraceContents.{contents_laid}
use Rattle.trace_counts.proofs.Passable.new.Goals as goal

pub invariant_of-result : goal.invariant_of-result
invariant_of-result c =
    record { is_passed = c.pass_over.ensures (omega (arith, (contents_laid c.args.file.bytes.now c.args.file.is_right.0).size)) }
