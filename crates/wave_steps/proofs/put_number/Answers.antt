-- A number as before is not written; another is, with its name and LF.
use Rattle.laws.proofs.Common.{arith, eq-eqb, ne_eqb, when◌then◌else◌}
use Rattle.script_rules.proofs.Texts.{written_none, written_then}
use Rattle.wave_steps.specs.Wave.{number_change}
use Rattle.wave_steps.proofs.put_number.Goals as goal

pub returns-then-old-new-clause-written : goal.returns-then-old-new-clause-written
unfolding number_change when◌then◌else◌
returns-then-old-new-clause-written c = rw (eq-eqb _ _ c.if-old-new.true) (written_none _ _)

pub returns-clause-written : goal.returns-clause-written
unfolding number_change when◌then◌else◌
returns-clause-written c =
    let letter = c.put.ensures.written (omega arith) in
    let number = c.put_value.ensures.written in
    let blank = c.put-2.ensures.written (omega arith) in
    let name = c.put-3.ensures.written (omega arith) in
    let end = c.put-4.ensures.written (omega arith) in
    rw (ne_eqb _ _ c.if-old-new.false) (written_then letter (written_then number (written_then blank (written_then name end))))
