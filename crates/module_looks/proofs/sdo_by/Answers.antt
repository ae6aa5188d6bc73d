-- The branches are the choices of the definition.
use Rattle.laws.proofs.Common.{refl, so, not_so}
use Rattle.module_looks.proofs.sdo_by.Goals as goal

pub returns-then-s-ssen_client : goal.returns-then-s-ssen_client
returns-then-s-ssen_client c = so _ _ _ (cc) refl

pub returns-then-pins : goal.returns-then-pins
returns-then-pins c = not_so _ _ _ (cc) (so _ _ _ (cc) refl)

pub returns-else-pins : goal.returns-else-pins
returns-else-pins c = not_so _ _ _ (cc) (not_so _ _ _ (cc) refl)
