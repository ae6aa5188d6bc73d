-- The two branches of the choice.
use Rattle.laws.proofs.Common.{refl, so, not_so}
use Rattle.ti.proofs.Calls.{flag_on, flag_off}
use Rattle.ti.proofs.between.Goals as goal

pub returns-then-phase-ne0 : goal.returns-then-phase-ne0
returns-then-phase-ne0 c = so _ _ _ (flag_on _ c.if-phase-ne0.true) refl

pub returns-else-phase-ne0 : goal.returns-else-phase-ne0
returns-else-phase-ne0 c = not_so _ _ _ (flag_off _ c.if-phase-ne0.false) refl
