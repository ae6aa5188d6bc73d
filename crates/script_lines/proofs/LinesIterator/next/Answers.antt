-- The next line and those behind it are the lines that were left.
use Rattle.laws.proofs.Common.{refl, ap, arith, length}
use Rattle.script_lines.proofs.FirstLines.{within}
use Rattle.script_lines.proofs.LinesLeft.{lines_more, lines_none}
use Rattle.script_lines.proofs.LinesIterator.next.Goals as goal

pub returns-then-self-clause-steps : goal.returns-then-self-clause-steps
returns-then-self-clause-steps c = let none = lines_none _ _ c.if-self.true in (none, none)

pub overflow_add-self : goal.overflow_add-self
overflow_add-self c = omega (arith, within c.args.self.now.script.now _ _ refl c.if-self.false, c.next_line-next.ensures.end_value)

pub returns-clause-steps : goal.returns-clause-steps
returns-clause-steps c = lines_more _ _ c.if-self.false c.next_line-next.ensures.line_value c.next_line-next.ensures.end_value

pub returns-clause-goes : goal.returns-clause-goes
returns-clause-goes c =
    let more = lines_more _ _ c.if-self.false c.next_line-next.ensures.line_value c.next_line-next.ensures.end_value in
    record { on = λ _. (tt, tt, omega (arith, ap length more)); keeps = tt; rests = λ _. tt }
