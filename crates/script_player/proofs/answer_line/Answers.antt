-- The number, a space, what the line tells and LF, one behind the other.
use Rattle.laws.proofs.Common.{arith}
use Rattle.module_memory.specs.Memory.{module_in}
use Rattle.script_rules.specs.Script.{answer_line}
use Rattle.script_rules.proofs.ScriptSizes.{line_text_length}
use Rattle.script_rules.proofs.Texts.{written_then}
use Rattle.script_player.proofs.Texts.{line_number_short}
use Rattle.script_player.proofs.answer_line.Goals as goal

pub put_line-requires : goal.put_line-requires
put_line-requires c =
    let short = line_number_short c.args.number (omega arith) in
    let number = c.put_decimal.ensures.written (omega arith, omega arith) in
    let blank = c.put.ensures.written (omega arith) in
    omega arith

pub returns-clause-written : goal.returns-clause-written
unfolding answer_line
returns-clause-written c =
    let short = line_number_short c.args.number (omega arith) in
    let number = c.put_decimal.ensures.written (omega arith, omega arith) in
    let blank = c.put.ensures.written (omega arith) in
    let told = c.put_line.ensures.written in
    let fits = line_text_length (module_in c.args.w.now) c.args.line in
    let end = c.put-2.ensures.written (omega arith) in
    written_then number (written_then blank (written_then told end))
