-- A flag that is not raised stays as it was.
use Rattle.laws.proofs.Common.{sym, ◌∙◌, ap}
use Rattle.module_rules.specs.Settings.{depth_of}
use Rattle.module_memory.specs.Memory.{settings_in, engine_in}
use Rattle.module_memory.proofs.Taken.{alike, stays}
use Rattle.module_word_steps.proofs.Raised.{raised, unraised}
use Rattle.module_word_steps.proofs.note.Goals as goal

pub raises-requires : goal.raises-requires
raises-requires c = c.requires ∙ ap depth_of (sym c.settings_in.ensures)

pub returns-then-raises : goal.returns-then-raises
returns-then-raises c =
    alike c.store_interrupt.ensures (raised (settings_in c.args.w.now) c.args.event (engine_in c.args.w.now) (cc))

pub returns-else-raises : goal.returns-else-raises
returns-else-raises c = stays (unraised (settings_in c.args.w.now) c.args.event (engine_in c.args.w.now) (cc))
