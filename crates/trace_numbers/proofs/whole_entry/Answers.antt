-- `trace_numbers::whole_entry` meets its contract: the four bytes. Assumes nothing.
use Rattle.trace_rules.specs.Trace.{byte_at}
use Rattle.trace_numbers.specs.Places.{entry_at}
use Rattle.trace_numbers.proofs.whole_entry.Goals as goal

pub returns : goal.returns
unfolding entry_at byte_at
returns c = cc
