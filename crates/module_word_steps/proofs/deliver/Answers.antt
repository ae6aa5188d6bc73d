-- The branch is the choice of the definition.
use Rattle.laws.proofs.Common.{so, not_so}
use Rattle.module_rules.specs.Buffers.{overrun}
use Rattle.module_rules.specs.Finish.{overflowed, word_appended, is_lost, delivered}
use Rattle.module_memory.proofs.Taken.{◌then◌, alike}
use Rattle.module_word_steps.proofs.Raised.{still}
use Rattle.module_word_steps.proofs.deliver.Goals as goal

pub note-requires : goal.note-requires
note-requires c = still c.append.ensures c.requires

pub returns-then-depth-unread_in : goal.returns-then-depth-unread_in
unfolding overrun overflowed is_lost delivered
returns-then-depth-unread_in c =
    alike (c.store_mark.ensures then c.store_spirov.ensures)
    (so _ _ _ (rw (c.requires, c.unread_in.ensures, c.marked_in-marked.ensures) at c.if-depth-unread_in.true) (rw (c.marked_in-marked.ensures, c.con2_in.ensures)))

pub returns-else-depth-unread_in : goal.returns-else-depth-unread_in
unfolding word_appended is_lost delivered
returns-else-depth-unread_in c =
    alike (c.append.ensures then c.note.ensures)
    (not_so _ _ _ (rw (c.requires, c.unread_in.ensures, c.marked_in-marked.ensures) at c.if-depth-unread_in.false) (rw (c.unread_in-else-depth-unread_in.ensures, c.append.ensures.engine)))
