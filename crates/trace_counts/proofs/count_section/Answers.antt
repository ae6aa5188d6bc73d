-- `trace_counts::count_section` meets its contract. The loop's invariant: from the place reached on, the records of the section are
-- counted. Each counts so little that the total fits. Assumes nothing.
use Rattle.std.specs.Prelude.{◌+◌, ◌*◌, ◌/◌, ◌%◌, ◌≤◌}
use Rattle.laws.proofs.Common.{ap, ◌∙◌, arith}
use Rattle.trace_rules.specs.Trace.{size_of}
use Rattle.trace_counts.specs.Counts.{capped}
use Rattle.trace_numbers.specs.Places.{entry_at}
use Rattle.trace_numbers.proofs.Records.{section_at}
use Rattle.trace_counts.proofs.Counts.{counting_first, counting_on, counting_same, counting_ends}
use Rattle.trace_counts.proofs.count_section.Goals as goal
use Rattle.trace_counts.proofs.count_section.Goals.{After-record_count-records}

-- Where the section ends, and how many bytes its records have.
short : (c : After-record_count-records) →
    (c.first_record-first.result + 4 * c.record_count-records.result ≤ 65535) × (size_of c.args.file.bytes.now c.args.k / 4 % 65536 ≤ 16383)
short c =
    let s = section_at c.args.file.bytes.now c.args.file.is_right.0 c.args.k c.requires in
    (omega (arith, c.first_record-first.ensures, c.record_count-records.ensures, s.short), omega (arith, s.short))

pub loop-i-init : goal.loop-i-init
loop-i-init c =
    counting_first _ _ _ (omega (arith, c.record_count-records.ensures)) (omega (arith, c.first_record-first.ensures, c.record_count-records.ensures))

pub overflow_mul-i : goal.overflow_mul-i
overflow_mul-i c = omega (arith, short (goal.at.overflow_mul-i c).After-record_count-records)

pub overflow_add-first : goal.overflow_add-first
overflow_add-first c = omega (arith, short (goal.at.overflow_add-first c).After-record_count-records)

pub overflow_add-total : goal.overflow_add-total
overflow_add-total c =
    omega (arith, short (goal.at.overflow_add-total c).After-record_count-records, c.loop-i.invariant.low, c.loop-i.invariant.few, c.weight-total.ensures.1)

pub loop-i-preserved : goal.loop-i-preserved
loop-i-preserved c =
    counting_same (counting_on c.loop-i.invariant c.loop-i-test.true (c.entry_at-e.ensures ∙ ap (entry_at c.args.file.bytes.now) (omega arith))
    c.weight-total.ensures.0 c.weight-total.ensures.1) (omega arith)

pub returns : goal.returns
returns c = c.cap.ensures ∙ ap capped (counting_ends c.loop-i.invariant c.args.file.is_right.0 c.requires (omega arith))
