-- Each arm is the clause of the definition for its case.
use Rattle.laws.proofs.Common.{⊎_elim}
use Rattle.wave_steps.specs.Wave.{sdi_after}
use Rattle.wave_steps.proofs.sdi_after.Goals as goal

pub returns-in-Refused : goal.returns-in-Refused
unfolding sdi_after
returns-in-Refused c = cc

pub returns-in-Done : goal.returns-in-Done
unfolding sdi_after
returns-in-Done c =
    ⊎_elim (λ e. rw e c.brought_by.ensures)
    (λ s. ⊎_elim (λ h. rw h.1 c.brought_by.ensures) (λ t. ⊎_elim (λ e. rw e c.brought_by.ensures) (λ e. rw e c.brought_by.ensures) t) s)
    c.in-Done.is
