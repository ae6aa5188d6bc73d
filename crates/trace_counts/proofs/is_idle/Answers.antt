-- `trace_counts::is_idle` meets its contract: the test is the definition. Assumes nothing.
use Rattle.trace_rules.specs.Trace.{is_play}
use Rattle.trace_counts.specs.Idle.{idle}
use mathlib.Core.Path.{refl}
use Rattle.trace_counts.proofs.is_idle.Goals as goal

pub returns : goal.returns
unfolding idle is_play
returns c = refl
