-- `trace_writer::keep_section` meets its contract. The loop's invariant: what the records left keep, with the bytes so far and the levels
-- so far, is what the body keeps. Assumes nothing.
use Rattle.std.specs.Prelude.{◌+◌, ◌-◌, ◌*◌}
use Rattle.laws.proofs.Common.{◌∙◌, arith}
use Rattle.trace_writer.proofs.Salvaging.{entry_cut, going_first, going_over, going_wrong, going_on}
use Rattle.trace_writer.proofs.keep_section.Goals as goal

pub loop-i-init : goal.loop-i-init
loop-i-init c = going_first _ _ _ _ _

pub returns-then-not-take_record : goal.returns-then-not-take_record
returns-then-not-take_record c =
    let told = going_wrong c.loop-i.invariant (omega arith) (c.entry_of-e.ensures ∙ entry_cut _ (4 * c.loop-i.i) (4 * c.loop-i.i + 4 - 4 * c.loop-i.i) (omega arith)) c.take_record.ensures.value c.take_record.ensures.levels_after c.if-not-take_record.true in
    record { value = told.0; levels_after = told.1 }

pub loop-i-preserved : goal.loop-i-preserved
loop-i-preserved c =
    going_on c.loop-i.invariant (omega arith) (c.entry_of-e.ensures ∙ entry_cut _ (4 * c.loop-i.i) (4 * c.loop-i.i + 4 - 4 * c.loop-i.i) (omega arith)) c.take_record.ensures.value c.take_record.ensures.levels_after (omega arith) c.if-not-take_record.false

pub returns : goal.returns
returns c =
    let told = going_over c.loop-i.invariant (omega arith) in record { value = omega (arith, told.0); levels_after = told.1 }
