-- Each discriminant is the definition's number.
use Rattle.std.proofs.Common.{rules}
use Rattle.ti_rules.specs.Refusals.{number_of}
use Rattle.ti.specs.Memory.{answer_number}
use Rattle.ti_exports.proofs.refused.Goals as goal

pub returns : goal.returns
unfolding number_of answer_number
returns c = search rules
