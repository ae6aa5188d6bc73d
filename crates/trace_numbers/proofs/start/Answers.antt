-- `trace_numbers::start` meets its contract: four bytes of the table. Assumes nothing.
use Rattle.trace_rules.specs.Trace.{start_of}
use Rattle.trace_numbers.proofs.start.Goals as goal

pub returns : goal.returns
unfolding start_of
returns c = cc
