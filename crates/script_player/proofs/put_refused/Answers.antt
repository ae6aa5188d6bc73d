-- The letter E, a space and the number, one behind the other.
use Rattle.laws.proofs.Common.{sym, arith}
use Rattle.script_rules.specs.Script.{decimal_of, refused_text}
use Rattle.script_rules.proofs.Texts.{written_then, written_case}
use Rattle.script_player.proofs.Texts.{refusal_number_short}
use Rattle.script_player.proofs.put_refused.Goals as goal

pub returns-clause-written : goal.returns-clause-written
unfolding refused_text
returns-clause-written c =
    let letter = c.put.ensures.written (omega arith) in
    let blank = c.put-2.ensures.written (omega arith) in
    let short = refusal_number_short _ _ c.refusal_number-number.ensures in
    let number = c.put_decimal.ensures.written (omega arith, omega arith) in
    written_then letter (written_then blank (written_case decimal_of (sym c.refusal_number-number.ensures) number))
