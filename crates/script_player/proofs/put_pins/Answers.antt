-- A letter, a space, a level and a driven SS, one behind the other.
use Rattle.laws.proofs.Common.{arith}
use Rattle.module_rules.specs.Calls.{interrupt_of}
use Rattle.script_rules.specs.Script.{pin_text}
use Rattle.script_rules.proofs.Texts.{written_then}
use Rattle.script_player.proofs.put_pins.Goals as goal

pub returns-clause-written : goal.returns-clause-written
unfolding pin_text interrupt_of
returns-clause-written c =
    let sdo = c.put.ensures.written (omega arith) in
    let blank = c.put-2.ensures.written (omega arith) in
    let flag = c.put-3.ensures.written (omega arith) in
    rw (c.sdo_letter-sdo.ensures, c.sdo.ensures, c.level_letter-flag.ensures, c.interrupt_in.ensures, c.ss.ensures) at
    (written_then sdo (written_then blank (written_then flag c.put_ss.ensures.written)))
