-- Each arm is the clause of the definition for its case.
use Rattle.laws.proofs.Common.{⊎_elim, refl}
use Rattle.wave_steps.specs.Wave.{arriving_of, no_word}
use Rattle.wave_steps.proofs.arriving.Goals as goal

pub returns-in-Free : goal.returns-in-Free
unfolding arriving_of no_word
returns-in-Free c = ⊎_elim (λ e. rw e refl) (λ h. rw h.1 refl) c.in-Free.is

pub returns-in-Begun : goal.returns-in-Begun
unfolding arriving_of no_word
returns-in-Begun c = cc
