-- The steps of the definition.
use Rattle.module_rules.specs.Calls.{word_written}
use Rattle.module_memory.proofs.Taken.{◌then◌, alike}
use Rattle.module_word_steps.proofs.Raised.{still}
use Rattle.module_word_steps.proofs.accept_word.Goals as goal

pub load-requires : goal.load-requires
load-requires c = still c.push.ensures c.room_in-depth.ensures

pub note-requires : goal.note-requires
note-requires c = still (c.push.ensures then c.load.ensures) c.room_in-depth.ensures

pub returns : goal.returns
unfolding word_written
returns c =
    alike (c.push.ensures then c.load.ensures then c.note.ensures then c.rest.ensures)
    (rw (c.waiting_in.ensures, c.load.ensures.engine, c.push.ensures.settings, c.push.ensures.engine))
