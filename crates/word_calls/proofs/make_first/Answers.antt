-- The two steps, one behind the other.
use Rattle.module_memory.proofs.Taken.{◌then◌}
use Rattle.word_calls.proofs.make_first.Goals as goal

pub returns : goal.returns
returns c = rw c.bit.ensures at (c.store_sdo.ensures then c.finish.ensures)
