-- Test 8 comes first, and what is not refused is answered with the clock. Assumes nothing.
use Rattle.laws.proofs.Common.{refl, so_eq, not_so_eq}
use Rattle.clock_report.proofs.report_by.Goals as goal

pub returns-then-f-eq0 : goal.returns-then-f-eq0
returns-then-f-eq0 c = so_eq _ _ _ _ c.if-f-eq0.true refl

pub returns : goal.returns
returns c = not_so_eq _ _ _ _ c.if-f-eq0.false (cc)
