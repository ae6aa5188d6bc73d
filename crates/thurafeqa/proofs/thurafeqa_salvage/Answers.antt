-- The number of the answer is told.
use Rattle.laws.proofs.Common.{ap, ◌∙◌}
use Rattle.thurafeqa.specs.Numbers.{salvage_number}
use Rattle.thurafeqa.proofs.thurafeqa_salvage.Goals as goal

pub returns : goal.returns
returns c =
    record { number = c.salvage_number.ensures ∙ ap salvage_number c.salvage-answer.ensures.value; buffer = c.salvage-answer.ensures.out_after }
