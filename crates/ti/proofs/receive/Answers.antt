-- What is written is read back.
use Rattle.ti.proofs.Calls.{flag_of}
use Rattle.ti.proofs.Parts.{land_stored}
use Rattle.ti.proofs.receive.Goals as goal

pub returns : goal.returns
returns c = land_stored _ (search) _ _ (flag_of c.from.ensures)
