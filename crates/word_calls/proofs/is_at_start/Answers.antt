-- The test of the definition, with what the callees found.
use Rattle.word_begins.specs.Beginning.{at_start}
use Rattle.word_calls.proofs.is_at_start.Goals as goal

pub returns : goal.returns
unfolding at_start
returns c = cc
