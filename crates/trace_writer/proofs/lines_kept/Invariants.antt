use Rattle.std.specs.Prelude.{◌+◌, ◌≡◌}
use Rattle.laws.proofs.Common.{length}
use Rattle.script_rules.specs.Script.{lines_of}
use Rattle.trace_save_rules.specs.Save.{kept_from}
use Rattle.script_lines.specs.Lines.{lines_left}
use Rattle.trace_writer.proofs.Kept.{kept_in}
use Rattle.trace_writer.proofs.lines_kept.Given as goal

abbrev pub invariant-loop-line : goal.invariant-loop-line
invariant-loop-line l =
    l.kept + length (kept_in (lines_left l.line-iterator.script.now l.line-iterator.at)) ≡ length (kept_from (lines_of l.session))
