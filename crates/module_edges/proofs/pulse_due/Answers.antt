-- Each arm is the clause of the definition for its case.
use Rattle.laws.proofs.Common.{refl, so, not_so, by_case}
use Rattle.module_rules.specs.Edge.{pulse_due}
use Rattle.module_edges.proofs.pulse_due.Goals as goal

pub returns-in-Free : goal.returns-in-Free
unfolding pulse_due
returns-in-Free c = by_case (pulse_due c.args.s c.args.count) c.in-Free.is refl

pub returns-in-Loaded : goal.returns-in-Loaded
unfolding pulse_due
returns-in-Loaded c = by_case (pulse_due c.args.s c.args.count) c.in-Loaded.is refl

pub returns-then-s : goal.returns-then-s
unfolding pulse_due
returns-then-s c = by_case (pulse_due c.args.s c.args.count) c.in-Begun.is (so _ _ _ c.if-s.true refl)

pub returns-else-s : goal.returns-else-s
unfolding pulse_due
returns-else-s c = by_case (pulse_due c.args.s c.args.count) c.in-Begun.is (not_so _ _ _ c.if-s.false (rw c.width.ensures))
