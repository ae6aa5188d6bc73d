-- Each arm is the clause of the definition for its case.
use Rattle.std.specs.Prelude.{Some}
use Rattle.laws.proofs.Common.{refl, ap, ◌∙◌, by_case, so, so_le, not_so, not_so_le}
use Rattle.trace_rules.specs.TraceBytes.{entry}
use Rattle.trace_save_rules.specs.Save.{keeps, record_of}
use Rattle.trace_writer.specs.Heads.{kept_record}
use Rattle.trace_writer.proofs.record_of.Goals as goal

pub returns-in-Write : goal.returns-in-Write
unfolding kept_record keeps record_of
returns-in-Write c = by_case kept_record c.in-Write.is (so_le _ _ _ _ c.if-register-le3.true (ap Some c.entry.ensures))

pub returns-in-Read : goal.returns-in-Read
unfolding kept_record keeps record_of
returns-in-Read c = by_case kept_record c.in-Read.is (so_le _ _ _ _ c.if-register-le3-2.true (ap Some c.entry-in-Read.ensures))

pub returns-in-Tick : goal.returns-in-Tick
unfolding kept_record keeps record_of
returns-in-Tick c =
    by_case kept_record c.in-Tick.is (so _ _ _ refl (ap Some (c.entry-in-Tick.ensures ∙ ap (λ argument. entry 2 argument 0) c.argument_of.ensures)))

pub returns-in-Pin : goal.returns-in-Pin
unfolding kept_record keeps record_of
returns-in-Pin c =
    by_case kept_record c.in-Pin.is (so _ _ _ refl (ap Some (c.entry-in-Pin.ensures ∙ ap (λ argument. entry 3 argument 0) c.argument_of-in-Pin.ensures)))

pub returns-in-Clear : goal.returns-in-Clear
unfolding kept_record keeps record_of
returns-in-Clear c = by_case kept_record c.in-Clear.is (so _ _ _ refl (ap Some c.entry-in-Clear.ensures))

-- What is not kept: a write and a read of another register, and a clock step.
pub returns-in_default : goal.returns-in_default
unfolding kept_record keeps record_of
returns-in_default c = by_case kept_record c.in-Write.is (not_so_le _ _ _ _ c.if-register-le3.false refl)

pub returns-in_default-2 : goal.returns-in_default-2
unfolding kept_record keeps record_of
returns-in_default-2 c = by_case kept_record c.in-Read.is (not_so_le _ _ _ _ c.if-register-le3-2.false refl)

pub returns-in_default-3 : goal.returns-in_default-3
unfolding kept_record keeps record_of
returns-in_default-3 c = by_case kept_record c.in_default.is (not_so _ _ _ refl refl)
