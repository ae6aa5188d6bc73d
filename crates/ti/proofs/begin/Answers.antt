-- What is written is read back.
use Rattle.ti.proofs.Calls.{flag_of}
use Rattle.ti.proofs.Parts.{begun_stored}
use Rattle.ti.proofs.begin.Goals as goal

pub returns : goal.returns
returns c = begun_stored _ (search) _ _ _ (flag_of c.from.ensures)
