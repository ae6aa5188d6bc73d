-- The two letters.
use Rattle.laws.proofs.Common.{arith}
use Rattle.script_rules.specs.Script.{bytes, ok_text}
use Rattle.script_rules.proofs.Texts.{written_then}
use Rattle.script_player.proofs.put_ok.Goals as goal

pub returns-clause-written : goal.returns-clause-written
unfolding bytes ok_text
returns-clause-written c =
    let first = c.put.ensures.written (omega arith) in
    written_then first (c.put-2.ensures.written (omega arith))
