-- Each arm is the clause of the definition for its case.
use Rattle.laws.proofs.Common.{⊎_elim, refl}
use Rattle.wave_steps.specs.Wave.{brought}
use Rattle.wave_steps.proofs.brought_by.Goals as goal

pub returns-in-Tick : goal.returns-in-Tick
unfolding brought
returns-in-Tick c =
    ⊎_elim (λ h. rw h.1 c.level_letter.ensures)
    (λ s. ⊎_elim (λ h. rw h.2 c.level_letter.ensures) (λ h. rw h.2 c.level_letter.ensures) s)
    c.in-Tick.is

pub returns-in-Read : goal.returns-in-Read
unfolding brought
returns-in-Read c =
    ⊎_elim (λ h. rw h.1 refl) (λ s. ⊎_elim (λ h. rw h.2 refl) (λ e. rw e refl) s) c.in-Read.is
