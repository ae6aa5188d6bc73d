-- The sign of a time, its digits, LF and what changed, one behind the other.
use Rattle.laws.proofs.Common.{arith}
use Rattle.script_rules.proofs.Texts.{written_then}
use Rattle.script_digits.proofs.Digits.{decimal_short}
use Rattle.wave_steps.specs.Wave.{step_text}
use Rattle.wave_steps.proofs.put_step.Goals as goal

pub put_changes-requires : goal.put_changes-requires
put_changes-requires c =
    let short = decimal_short c.args.time (omega arith) in
    let sign = c.put.ensures.written (omega arith) in
    let time = c.put_decimal.ensures.written (omega arith, omega arith) in
    let end = c.put-2.ensures.written (omega arith) in
    omega arith

pub returns-clause-written : goal.returns-clause-written
unfolding step_text
returns-clause-written c =
    let short = decimal_short c.args.time (omega arith) in
    let sign = c.put.ensures.written (omega arith) in
    let time = c.put_decimal.ensures.written (omega arith, omega arith) in
    let end = c.put-2.ensures.written (omega arith) in
    written_then sign (written_then time (written_then end c.put_changes.ensures.written))

pub returns-clause-upper_bound : goal.returns-clause-upper_bound
returns-clause-upper_bound c =
    let short = decimal_short c.args.time (omega arith) in
    let sign = c.put.ensures.written (omega arith) in
    let time = c.put_decimal.ensures.written (omega arith, omega arith) in
    let end = c.put-2.ensures.written (omega arith) in
    omega arith
