-- What is written is read back.
use Rattle.ti.proofs.Calls.{flag_of, alike}
use Rattle.ti.proofs.Parts.{seen_stored}
use Rattle.ti.proofs.see.Goals as goal

pub returns : goal.returns
returns c = alike (seen_stored _ (search) _ _) (cc (flag_of c.from.ensures, flag_of c.from-2.ensures))
