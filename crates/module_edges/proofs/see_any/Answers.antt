-- By the select level.
use Rattle.laws.proofs.Common.{refl, false, and-false}
use Rattle.module_rules.specs.Settings.{ssen_client}
use Rattle.module_memory.specs.Memory.{settings_in}
use Rattle.module_edges.proofs.see_any.Goals as goal

pub see_selected-requires : goal.see_selected-requires
see_selected-requires c = and-false (ssen_client (settings_in c.args.w.now)) false refl

pub returns-then-ss : goal.returns-then-ss
returns-then-ss c = rw c.if-ss.true c.see_high.ensures

pub returns-else-ss : goal.returns-else-ss
returns-else-ss c = rw c.if-ss.false c.see_selected.ensures
