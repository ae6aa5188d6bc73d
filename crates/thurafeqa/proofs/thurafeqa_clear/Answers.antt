-- The module after the call.
use Rattle.thurafeqa.proofs.thurafeqa_clear.Goals as goal

pub returns : goal.returns
returns c = c.clear.ensures.holds
