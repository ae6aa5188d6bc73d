-- The tests stand in the order of the definition.
use Rattle.laws.proofs.Common.{refl, ap, not, so, not_so}
use Rattle.ti_rules.specs.Calls.{set_length}
use Rattle.ti.proofs.Calls.{refused}
use Rattle.ti.proofs.Parts.{no_length}
use Rattle.ti.proofs.Outcomes.{in_reset, out_of_reset, length-set}
use Rattle.ti.proofs.set_length.Goals as goal

pub returns-then-w-ne0 : goal.returns-then-w-ne0
unfolding set_length
returns-then-w-ne0 c = refused (so _ _ _ (ap not (out_of_reset _ (search))) refl)

pub returns-then-n : goal.returns-then-n
unfolding set_length
returns-then-n c = refused (not_so _ _ _ (ap not (in_reset _ (search))) (so _ _ _ (no_length _ (search)) refl))

pub returns : goal.returns
returns c = length-set _ _ _ (search) (in_reset _ (search)) (search) refl
