-- Each number is read back.
use borrow.Author.Rules.{rules}
use Rattle.laws.proofs.Common.{when◌then◌else◌}
use Rattle.module_memory.specs.Memory.{depth_in}
use Rattle.module_memory_stores.proofs.depth_number.Goals as goal

pub returns-in-Four : goal.returns-in-Four
unfolding when◌then◌else◌ depth_in
returns-in-Four c = search rules

pub returns-in-Eight : goal.returns-in-Eight
unfolding when◌then◌else◌ depth_in
returns-in-Eight c = search rules

pub returns-in-Sixteen : goal.returns-in-Sixteen
unfolding when◌then◌else◌ depth_in
returns-in-Sixteen c = search rules
