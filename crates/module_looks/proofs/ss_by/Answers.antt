-- The branches are the choices of the definition.
use Rattle.laws.proofs.Common.{refl, so, not_so}
use Rattle.module_looks.proofs.ss_by.Goals as goal

pub returns-then-not-s-is_frame_host : goal.returns-then-not-s-is_frame_host
returns-then-not-s-is_frame_host c = so _ _ _ (cc) refl

pub returns-then-pins-s : goal.returns-then-pins-s
returns-then-pins-s c = not_so _ _ _ (cc) (so _ _ _ (cc) refl)

pub returns-else-pins-s : goal.returns-else-pins-s
returns-else-pins-s c = not_so _ _ _ (cc) (not_so _ _ _ (cc) refl)
