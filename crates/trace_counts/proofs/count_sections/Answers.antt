-- `trace_counts::count_sections` meets its contract. The loop's invariant: from the section reached on, the counts are right.
-- Assumes nothing.
use Rattle.std.specs.Prelude.{◌-◌}
use Rattle.laws.proofs.Common.{arith}
use Rattle.trace_rules.specs.Trace.{file_count}
use Rattle.trace_page.proofs.TraceContents.{contents_laid}
use Rattle.trace_numbers.proofs.Records.{section_below}
use Rattle.trace_counts.proofs.Counts.{counts_first, counts_next}
use Rattle.trace_counts.proofs.count_sections.Goals as goal

pub loop-k-init : goal.loop-k-init
loop-k-init c = counts_first _ _ (omega arith)

pub count_section-total-requires : goal.count_section-total-requires
count_section-total-requires c = omega arith

pub bounds-counts-k : goal.bounds-counts-k
bounds-counts-k c = section_below c.args.file.bytes.now c.args.file.is_right.0 (c.loop-k.k - 1) (omega arith)

pub loop-k-preserved : goal.loop-k-preserved
loop-k-preserved c =
    counts_next _ c.args.file.is_right.0 c.args.file.is_right.1 (c.loop-k.k - 1) (omega arith) c.loop-k.counts _ c.loop-k.invariant
    (omega arith) c.count_section-total.ensures

pub returns : goal.returns
unfolding file_count
returns c = c.loop-k.invariant.each 0 (omega arith) (contents_laid c.args.file.bytes.now c.args.file.is_right.0).some
