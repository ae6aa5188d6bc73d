-- A space and a level, one behind the other.
use Rattle.laws.proofs.Common.{arith}
use Rattle.script_rules.proofs.Texts.{written_then}
use Rattle.script_player.proofs.put_last.Goals as goal

pub returns-clause-written : goal.returns-clause-written
returns-clause-written c =
    let blank = c.put.ensures.written (omega arith) in
    written_then blank (c.put-2.ensures.written (omega arith))
