-- By whether an idle edge comes first.
use Rattle.laws.proofs.Common.{refl, sym, ◌∙◌, so, not_so}
use Rattle.module_rules.specs.Edge.{clocked}
use Rattle.module_memory.proofs.Taken.{◌then◌, alike}
use Rattle.word_rules.proofs.Closed.{readied}
use Rattle.word_calls.proofs.make_ready.Goals as goal

pub returns-then-idle : goal.returns-then-idle
unfolding readied clocked
returns-then-idle c =
    alike (c.hear.ensures then c.store_sck.ensures)
    (so _ _ _ (sym c.idle_first-idle.ensures ∙ c.if-idle.true) (rw c.pins_in-pins.ensures))

pub returns-else-idle : goal.returns-else-idle
unfolding readied clocked
returns-else-idle c =
    alike c.hear.ensures (not_so _ _ _ (sym c.idle_first-idle.ensures ∙ c.if-idle.false) refl)
