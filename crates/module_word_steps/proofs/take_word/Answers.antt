-- The steps of the definition.
use Rattle.laws.proofs.Common.{sym, ◌∙◌, ap}
use Rattle.module_rules.specs.Settings.{depth_of}
use Rattle.module_rules.specs.Calls.{word_taken}
use Rattle.module_rules.specs.Interrupts.{noted}
use Rattle.module_memory.proofs.Taken.{◌then◌, alike}
use Rattle.module_word_steps.proofs.Raised.{still}
use Rattle.module_word_steps.proofs.take_word.Goals as goal

pub raises-raised-requires : goal.raises-raised-requires
raises-raised-requires c = still c.fetch.ensures c.room_in-depth.ensures ∙ ap depth_of (sym c.settings_in.ensures)

pub returns : goal.returns
unfolding word_taken noted
returns c =
    alike (c.fetch.ensures then c.store_interrupt.ensures)
    (rw (c.interrupt_in.ensures, c.raises-raised.ensures, c.settings_in.ensures, c.unread_in-left.ensures, c.fetch.ensures.settings, c.fetch.ensures.engine))
