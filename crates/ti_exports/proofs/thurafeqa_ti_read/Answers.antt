-- The two sides of the Result.
use Rattle.ti_rules.specs.declared.Answer.TheVariants.{Value}
use Rattle.laws.proofs.Common.{arith}
use Rattle.ti.specs.Memory.{answer_number}
use Rattle.ti_exports.proofs.Numbers.{numbered, by_result}
use Rattle.ti_exports.proofs.thurafeqa_ti_read.Goals as goal

pub returns : goal.returns
unfolding answer_number
returns c = numbered c.read.ensures (by_result Value c.read.result c.map_or_else.ensures (λ x p. omega (arith, p)) (λ e q. q))
