-- The steps of the definition.
use Rattle.module_rules.specs.Finish.{freed}
use Rattle.module_memory.proofs.Taken.{◌then◌, alike}
use Rattle.module_word_steps.proofs.Raised.{still}
use Rattle.module_word_steps.proofs.free_after_finish.Goals as goal

pub note-requires : goal.note-requires
note-requires c = still c.store_free.ensures c.requires

pub returns : goal.returns
unfolding freed
returns c = alike (c.store_free.ensures then c.note.ensures) (rw (c.waiting_in.ensures, c.store_free.ensures.engine))
