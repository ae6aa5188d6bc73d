-- `trace_counts::weight` meets its contract: one, or a product of a value and a count, which fits. Assumes nothing.
use Rattle.laws.proofs.Common.{refl, arith, so_eq, not_so_eq}
use Rattle.trace_rules.specs.Trace.{is_play}
use Rattle.trace_counts.specs.Counts.{weight_by}
use Rattle.trace_counts.proofs.Counts.{product_most}
use Rattle.trace_counts.proofs.weight.Goals as goal

pub returns-then-e-ne5 : goal.returns-then-e-ne5
unfolding weight_by is_play
returns-then-e-ne5 c = (not_so_eq _ _ _ _ c.if-e-ne5.true refl, omega arith)

pub returns : goal.returns
unfolding weight_by is_play
returns c = (so_eq c.args.e.kind 5 _ _ (omega arith) refl, product_most _ _ (omega arith) (omega arith))
