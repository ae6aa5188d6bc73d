-- `trace_numbers::byte_at` meets its contract: the byte of the file, or 0 beyond its end. Assumes nothing.
use Rattle.std.proofs.Common.{arith}
use Rattle.std.proofs.lemmas.Grind.{common_steps}
use Rattle.trace_rules.specs.Trace.{byte_at}
use Rattle.trace_numbers.proofs.byte_at.Goals as goal

pub returns : goal.returns
unfolding byte_at
returns c = grind (arith, common_steps)
