-- `trace_counts::cap` meets its contract: the number, or the cap. Assumes nothing.
use Rattle.laws.proofs.Common.{arith}
use Rattle.trace_counts.proofs.Counts.{capped_is}
use Rattle.trace_counts.proofs.cap.Goals as goal

pub returns : goal.returns
returns c = omega (arith, capped_is c.args.total)
