-- `trace_right::section_right` meets its contract. The loop's invariant: the records left decide, and with the levels
-- so far they give the levels behind the section. Assumes nothing.
use Rattle.laws.proofs.Common.{false, refl, arith, clash}
use Rattle.trace_page.proofs.TraceContents.{contents_laid}
use Rattle.trace_numbers.proofs.Records.{section_below}
use Rattle.trace_right.proofs.Levels.{looking_first, looking_on, looking_same, looking_wrong, looking_ends}
use Rattle.trace_right.proofs.section_right.Goals as goal

pub bounds-levels-k : goal.bounds-levels-k
bounds-levels-k c = section_below c.args.f.now c.requires.f_value.0 c.args.k c.requires.f_value.1

pub loop-i-init : goal.loop-i-init
loop-i-init c =
    looking_first c.requires.f_value.0 c.requires.f_value.1 c.requires.k_value (omega (arith, c.first_record-first.ensures))
    (omega (arith, c.record_count-records.ensures))

pub returns-then-not-take_record : goal.returns-then-not-take_record
returns-then-not-take_record c =
    record {
      value = looking_wrong c.loop-i.invariant (omega arith) c.entry_at-e.ensures c.take_record.ensures.value c.take_record.ensures.levels_after
          c.if-not-take_record.true;
      levels_after = λ e. clash false e refl;
    }

pub overflow_add-first : goal.overflow_add-first
overflow_add-first c = omega (arith, (contents_laid c.args.f.now c.requires.f_value.0).size, c.loop-i.invariant.inside)

pub overflow_mul-i : goal.overflow_mul-i
overflow_mul-i c = omega (arith, (contents_laid c.args.f.now c.requires.f_value.0).size, c.loop-i.invariant.inside)

pub loop-i-preserved : goal.loop-i-preserved
loop-i-preserved c =
    looking_same (looking_on c.loop-i.invariant (omega arith) c.entry_at-e.ensures c.take_record.ensures.value c.take_record.ensures.levels_after
    c.if-not-take_record.false) (omega arith) (omega arith)

pub returns : goal.returns
returns c = let e = looking_ends c.loop-i.invariant (omega arith) in record { value = e.0; levels_after = λ so. e.1 }
