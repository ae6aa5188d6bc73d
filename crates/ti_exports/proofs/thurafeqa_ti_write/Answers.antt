-- The two sides of the Result.
use Rattle.ti.specs.Memory.{done, answer_number}
use Rattle.ti_exports.proofs.Numbers.{numbered, by_result}
use Rattle.ti_exports.proofs.thurafeqa_ti_write.Goals as goal

pub returns : goal.returns
unfolding answer_number
returns c = numbered c.write.ensures (by_result done c.write.result c.map_or_else.ensures (λ x p. p) (λ e q. q))
