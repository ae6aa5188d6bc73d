-- One number is written.
use Rattle.card.proofs.CallsHold.{overflow_cleared}
use Rattle.card.proofs.clear_overflow.Goals as goal

pub returns : goal.returns
returns c = overflow_cleared _ c.told-w
