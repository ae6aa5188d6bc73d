-- What is written is read back.
use Rattle.ti.proofs.Calls.{flag_of}
use Rattle.ti.proofs.Parts.{mode_stored}
use Rattle.ti.proofs.store_mode.Goals as goal

pub returns : goal.returns
returns c = mode_stored _ (search) _ _ _ _ (flag_of c.from.ensures) (flag_of c.from-2.ensures) (flag_of c.from-3.ensures) (flag_of c.from-4.ensures)
