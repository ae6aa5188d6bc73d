-- The three weights are the definition.
use Rattle.ti.proofs.Outcomes.{status_is}
use Rattle.ti.proofs.status.Goals as goal

pub returns : goal.returns
returns c = cc (status_is c.args.w.now)
