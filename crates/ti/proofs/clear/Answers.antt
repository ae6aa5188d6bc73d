-- The flag is 0.
use Rattle.ti.proofs.Parts.{clear_stored}
use Rattle.ti.proofs.clear.Goals as goal

pub returns : goal.returns
returns c = clear_stored _ (search)
