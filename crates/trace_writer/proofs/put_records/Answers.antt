-- Line by line, and the records that are left complete the buffer.
use Rattle.laws.proofs.Common.{sym, ap, ◌∙◌, arith, length}
use Rattle.script_rules.proofs.Texts.{written_case}
use Rattle.trace_save_rules.specs.Save.{kept_of, record_bytes}
use Rattle.script_lines.specs.declared.Lines.{Lines}
use Rattle.trace_writer.proofs.Files.{records_first, records_more, records_none}
use Rattle.trace_writer.proofs.Placing.{writing_room, writing_on, writing_ends}
use Rattle.trace_writer.proofs.put_records.Goals as goal

pub loop-line-init : goal.loop-line-init
loop-line-init c =
    let same = c.into_iter-line-iterator.ensures.into_iter_gives in
    records_first (ap (λ (s : Lines). s.script.now) same ∙ c.of-line-items.ensures.0) (ap (λ (s : Lines). s.at) same ∙ c.of-line-items.ensures.1) c.requires

pub put-place-requires : goal.put-place-requires
put-place-requires c =
    omega (
      arith,
      writing_room c.loop-line.invariant (record_bytes (kept_of c.in-Some.line)) _ (records_more c.in-Some.ensures.steps),
      ap length c.in-Some-line_record.ensures.1,
    )

pub loop-line-preserved-in-Some-line_record : goal.loop-line-preserved-in-Some-line_record
loop-line-preserved-in-Some-line_record c =
    writing_on c.loop-line.invariant (record_bytes (kept_of c.in-Some.line)) _ (records_more c.in-Some.ensures.steps)
    (written_case (λ bytes. bytes) (sym c.in-Some-line_record.ensures.1) c.put-place.ensures)

pub returns : goal.returns
returns c = (writing_ends c.loop-line.invariant (records_none c.in-None.ensures.steps.0)).0
