-- The clock is the other level.
use Rattle.ti.proofs.Calls.{flag_of, alike}
use Rattle.ti.proofs.Parts.{clock_stored, turned_level}
use Rattle.ti.proofs.turn.Goals as goal

pub returns : goal.returns
returns c = alike (clock_stored _ (search) _) (turned_level _ c.from.result (flag_of c.from.ensures))
