-- `trace_numbers::count` meets its contract: the first two bytes. Assumes nothing.
use Rattle.trace_rules.specs.Trace.{section_count}
use Rattle.trace_numbers.proofs.count.Goals as goal

pub returns : goal.returns
unfolding section_count
returns c = cc
