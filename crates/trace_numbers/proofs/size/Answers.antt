-- `trace_numbers::size` meets its contract: four bytes of the table. Assumes nothing.
use Rattle.trace_rules.specs.Trace.{size_of}
use Rattle.trace_numbers.proofs.size.Goals as goal

pub returns : goal.returns
unfolding size_of
returns c = cc
