-- BUF is register 3, and the number of the answer is told.
use Rattle.laws.proofs.Common.{when◌then◌else◌}
use Rattle.module_rules.specs.Calls.{read_of}
use Rattle.module_by_number.proofs.Answers.{told}
use Rattle.module_by_number.proofs.read_buf.Goals as goal

pub returns : goal.returns
unfolding read_of when◌then◌else◌
returns c = told c.read_buf.ensures c.answer_number.ensures
