use Rattle.std.specs.Prelude.{◌+◌}
use Rattle.laws.proofs.Common.{length}
use Rattle.script_rules.specs.Script.{lines_of}
use Rattle.trace_save_rules.specs.Save.{kept_from, record_bytes}
use Rattle.script_lines.specs.Lines.{lines_left}
use Rattle.trace_writer.specs.Heads.{put_records}
use Rattle.trace_writer.proofs.Files.{records_in}
use Rattle.trace_writer.proofs.Placing.{Writing}
use Rattle.trace_writer.proofs.put_records.Given as goal

abbrev pub invariant-loop-line : goal.invariant-loop-line
invariant-loop-line l =
    let left = records_in (lines_left l.line-iterator.script.now l.line-iterator.at) in
    Writing (put_records l.initial.out l.from l.session) (l.from + length (record_bytes (kept_from (lines_of l.session)))) left l.out l.place
