-- A level, a space and what a pin call tells, one behind the other.
use Rattle.laws.proofs.Common.{arith}
use Rattle.module_rules.specs.Calls.{sck_of}
use Rattle.script_rules.specs.Script.{edge_text}
use Rattle.script_rules.proofs.Texts.{written_then}
use Rattle.script_player.proofs.put_edge.Goals as goal

pub returns-clause-written : goal.returns-clause-written
unfolding edge_text sck_of
returns-clause-written c =
    let sck = c.put.ensures.written (omega arith) in
    let blank = c.put-2.ensures.written (omega arith) in
    rw (c.level_letter.ensures, c.pins_in-pins.ensures) at (written_then sck (written_then blank c.put_pins.ensures.written))
