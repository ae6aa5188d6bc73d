-- The steps of the definition.
use Rattle.module_rules.specs.Loading.{word_leaves}
use Rattle.module_memory.proofs.Taken.{◌then◌, alike}
use Rattle.module_word_steps.proofs.Raised.{still}
use Rattle.module_word_steps.proofs.leave.Goals as goal

pub note-requires : goal.note-requires
note-requires c = still c.pop.ensures c.requires

pub returns : goal.returns
unfolding word_leaves
returns c = alike (c.pop.ensures then c.note.ensures) (rw (c.waiting_in.ensures, c.pop.ensures.engine))
