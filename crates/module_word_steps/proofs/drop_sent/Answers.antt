-- The branch is the choice of the definition.
use Rattle.laws.proofs.Common.{refl, so, not_so}
use Rattle.module_rules.specs.Finish.{sent_dropped}
use Rattle.module_memory.proofs.Taken.{alike, stays}
use Rattle.module_word_steps.proofs.drop_sent.Goals as goal

pub returns-then-ssen_client-filler : goal.returns-then-ssen_client-filler
unfolding sent_dropped
returns-then-ssen_client-filler c =
    alike c.leave.ensures (so _ _ _ (rw (c.ssen_client.ensures, c.settings_in.ensures) at c.if-ssen_client-filler.true) refl)

pub returns-else-ssen_client-filler : goal.returns-else-ssen_client-filler
unfolding sent_dropped
returns-else-ssen_client-filler c =
    stays (not_so _ _ _ (rw (c.ssen_client.ensures, c.settings_in.ensures) at c.if-ssen_client-filler.false) refl)
