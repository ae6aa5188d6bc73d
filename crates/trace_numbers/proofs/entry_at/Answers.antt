-- `trace_numbers::entry_at` meets its contract: four bytes of the file, or fewer, or zeros beyond its end. Assumes nothing.
use Rattle.laws.proofs.Common.{sym}
use Rattle.trace_numbers.specs.Places.{entry_at}
use Rattle.trace_numbers.proofs.Numbers.{entry_beyond}
use Rattle.trace_numbers.proofs.entry_at.Goals as goal

pub returns-then-f-at : goal.returns-then-f-at
unfolding entry_at
returns-then-f-at c = sym (entry_beyond _ _ c.if-f-at.true)

pub returns : goal.returns
unfolding entry_at
returns c = cc
