-- The number of the answer is told.
use Rattle.laws.proofs.Common.{ap, ◌∙◌}
use Rattle.thurafeqa.specs.Numbers.{save_number}
use Rattle.thurafeqa.proofs.Told.{save_numbered}
use Rattle.thurafeqa.proofs.thurafeqa_save.Goals as goal

pub returns : goal.returns
returns c =
    record { number = save_numbered _ _ c.number.ensures ∙ ap save_number c.save-saved.ensures.value; buffer = c.save-saved.ensures.out_after }
