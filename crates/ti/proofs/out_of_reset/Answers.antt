-- The number of place 0 is the test.
use Rattle.laws.proofs.Common.{refl}
use Rattle.ti.proofs.Outcomes.{in_reset, out_of_reset}
use Rattle.ti.proofs.out_of_reset.Goals as goal

pub returns-then-w-eq0 : goal.returns-then-w-eq0
returns-then-w-eq0 c = (in_reset _ (search), refl)

pub returns-else-w-eq0 : goal.returns-else-w-eq0
returns-else-w-eq0 c = out_of_reset _ (search)
