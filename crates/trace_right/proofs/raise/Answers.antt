-- `trace_right::raise` meets its contract, by what stands at the section that is named. Assumes nothing.
use Rattle.laws.proofs.Common.{arith, eq-eqb}
use Rattle.trace_rules.specs.Trace.{is_play}
use Rattle.trace_right.proofs.Levels.{raised_call, raised_kept, raised_new}
use Rattle.trace_right.proofs.raise.Goals as goal

pub returns-then-e-ne5 : goal.returns-then-e-ne5
unfolding is_play
returns-then-e-ne5 c = raised_call _ _ _ c.if-e-ne5.true

pub returns-then-level-levels : goal.returns-then-level-levels
unfolding is_play
returns-then-level-levels c = raised_kept _ _ _ c.if-level-levels.true

pub overflow_add-levels : goal.overflow_add-levels
unfolding is_play
overflow_add-levels c = omega (arith, c.requires (eq-eqb c.args.e.kind 5 (omega arith)))

pub returns : goal.returns
unfolding is_play
returns c = raised_new _ _ _ (omega arith) c.if-level-levels.false
