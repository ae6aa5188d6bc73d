-- What is written is read back.
use Rattle.laws.proofs.Common.{refl}
use Rattle.ti.proofs.Parts.{rest_stored}
use Rattle.ti.proofs.rest.Goals as goal

pub returns : goal.returns
returns c = rest_stored _ (search) _ refl
