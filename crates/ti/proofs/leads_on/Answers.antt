-- The two tests are the definition.
use Rattle.ti_rules.specs.Edge.{leads_on}
use Rattle.ti.specs.Memory.{ti_in}
use Rattle.ti.proofs.leads_on.Goals as goal

pub returns : goal.returns
unfolding leads_on ti_in
returns c = cc
