-- `trace_numbers::whole_half` meets its contract: the two bytes. Assumes nothing.
use Rattle.laws.proofs.Common.{arith}
use Rattle.trace_rules.specs.Trace.{byte_at, half_at}
use Rattle.trace_numbers.proofs.whole_half.Goals as goal

pub returns : goal.returns
unfolding byte_at half_at
returns c = omega arith
