-- The character is in the shift register, and then its top bit on the output.
use Rattle.ti.proofs.Calls.{flag_of, ◌then◌, alike}
use Rattle.ti.proofs.Parts.{top_stored}
use Rattle.ti.proofs.Edges.{loaded_is}
use Rattle.ti.proofs.load.Goals as goal

pub returns : goal.returns
returns c = alike (c.begin.ensures then top_stored _ (search) _ _ (cc (flag_of c.from.ensures))) (loaded_is _ _ _)
