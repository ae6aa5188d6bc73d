-- The branch is the choice of the contract.
use Rattle.laws.proofs.Common.{refl, so, not_so}
use Rattle.module_rules.specs.Select.{select_remembered}
use Rattle.module_memory.proofs.Taken.{alike, stays}
use Rattle.module_edges.proofs.hear_select.Goals as goal

pub returns-then-is_frame_client : goal.returns-then-is_frame_client
unfolding select_remembered
returns-then-is_frame_client c =
    alike c.store_ss.ensures (so _ _ _ (rw (c.is_frame_client.ensures, c.settings_in-s.ensures) at c.if-is_frame_client.true) refl)

pub returns-else-is_frame_client : goal.returns-else-is_frame_client
returns-else-is_frame_client c =
    stays (not_so _ _ _ (rw (c.is_frame_client.ensures, c.settings_in-s.ensures) at c.if-is_frame_client.false) refl)
