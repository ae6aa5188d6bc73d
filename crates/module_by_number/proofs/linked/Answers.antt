-- The number of the answer is told.
use Rattle.module_by_number.proofs.Answers.{link-told}
use Rattle.module_by_number.proofs.linked.Goals as goal

pub returns : goal.returns
returns c = link-told c.linked.ensures c.link_number.ensures
