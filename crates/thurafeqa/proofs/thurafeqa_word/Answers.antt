-- What the call tells, its levels being numbers.
use Rattle.module_by_number.specs.Told.{level_in}
use Rattle.thurafeqa.proofs.thurafeqa_word.Goals as goal

pub returns : goal.returns
unfolding level_in
returns c = c.told.ensures
