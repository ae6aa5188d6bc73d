-- A script that has ended stays; otherwise its next line is read, asked and answered.
use Rattle.laws.proofs.Common.{refl, arith}
use Rattle.script_lines.proofs.FirstLines.{within}
use Rattle.script_player.specs.SessionIn.{session_in}
use Rattle.script_player.proofs.Lines.{ended_behind, ended_past, goes_on}
use Rattle.script_player.proofs.play_line.Goals as goal
use Rattle.script_player.proofs.play_line.Goals.{then-script-at-via-then-script-at, then-script-at-via-else-script-at+then-lines-gt65535}

pub returns-then-script-at : goal.returns-then-script-at
returns-then-script-at c =
    elim c.then-script-at.branch [
      | then-script-at-via-then-script-at w ↦
          let told = ended_behind _ c.requires.0 _ w.if-script-at.true _ _ in record { to_after = told.0; same_buffer = refl; written = told.1 }
      | then-script-at-via-else-script-at+then-lines-gt65535 w ↦
          let told = ended_past _ c.requires.0 _ w.if-lines-gt65535.true _ _ in record { to_after = told.0; same_buffer = refl; written = told.1 }
    ]

pub overflow_add-result-2 : goal.overflow_add-result-2
overflow_add-result-2 c =
    omega (arith, within c.args.script.now _ _ refl c.if-script-at.false, c.next_line-next.ensures.end_value)

pub returns : goal.returns
returns c =
    let told = goes_on _ c.requires.0 (session_in c.args.w.now c.args.from) c.if-script-at.false c.if-lines-gt65535.false
    _ c.next_line-next.ensures.line_value _ c.next_line-next.ensures.end_value _ c.answer_line.ensures.w_after c.answer_line.ensures.written in
    record { to_after = told.0; same_buffer = c.answer_line.ensures.same_buffer; written = told.1 }
