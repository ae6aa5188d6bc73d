-- The low seven bits, and 3 where they are fewer.
use Rattle.ti.proofs.Outcomes.{divider_is}
use Rattle.ti.proofs.divider.Goals as goal

pub returns : goal.returns
returns c = divider_is _ _ c.max.ensures
