-- One number is written.
use Rattle.card.proofs.CallsHold.{underrun_cleared}
use Rattle.card.proofs.clear_underrun.Goals as goal

pub returns : goal.returns
returns c = underrun_cleared _ c.told-w
