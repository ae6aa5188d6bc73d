-- The two sides of the Result.
use Rattle.laws.proofs.Common.{◌∙◌}
use Rattle.ti.specs.Memory.{ticked}
use Rattle.ti_exports.proofs.Numbers.{numbered, by_result, edge_number}
use Rattle.ti_exports.proofs.thurafeqa_ti_tick.Goals as goal

pub returns : goal.returns
returns c = numbered c.tick.ensures (by_result ticked c.tick.result c.map_or_else.ensures (λ x p. p ∙ edge_number x) (λ e q. q))
