-- Past the last byte there is no line; otherwise the line is a part of the script.
use Rattle.std.specs.Prelude.{◌+◌, ◌≤◌, ◌≡◌}
use Rattle.laws.proofs.Common.{List, ℕ, sym, ap, ◌∙◌, arith, length, drop}
use Rattle.script_rules.specs.Script.{reading_of}
use Rattle.script_rules.specs.Session.{first_line}
use Rattle.script_lines.proofs.FirstLines.{from_place, runs_out, within, part, no_line}
use Rattle.script_lines.proofs.next_line.Goals as goal
use Rattle.script_lines.proofs.next_line.Goals.{After-line_length-length}

-- The bytes that are measured are those from the place on.
measured : (c : After-line_length-length) → c.line_length-length.result ≡ length (first_line (drop c.args.at c.args.script.now))
measured c = c.line_length-length.ensures ∙ ap (λ (bs : List ℕ). length (first_line bs)) (from_place c.args.script.now c.args.at)

ends : (c : After-line_length-length) → c.args.at + c.line_length-length.result ≤ length c.args.script.now
ends c = within _ _ _ (measured c) c.if-script-at.false

pub returns-then-script-at : goal.returns-then-script-at
returns-then-script-at c =
    record { line_value = sym (no_line c.args.script.now c.args.at c.if-script-at.true); end_value = omega (arith, runs_out c.args.script.now c.args.at c.if-script-at.true) }

pub overflow_add-result : goal.overflow_add-result
overflow_add-result c = omega (arith, ends (goal.at.overflow_add-result c).After-line_length-length)

pub slice_bounds-reading-end : goal.slice_bounds-reading-end
slice_bounds-reading-end c =
    let same = measured (goal.at.slice_bounds-reading-end c).After-line_length-length in
    rw (from_place, part c.args.script.now c.args.at _ same) same

pub returns : goal.returns
returns c =
    let same = measured (goal.at.returns c).After-line_length-length in
    record {
      line_value = c.reading.ensures ∙ ap reading_of (rw from_place (part c.args.script.now c.args.at _ same));
      end_value = ap (λ (n : ℕ). c.args.at + n) same;
    }
