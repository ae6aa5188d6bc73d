-- Enhanced and standard operation.
use Rattle.laws.proofs.Common.{so, not_so, refl}
use Rattle.module_settings.proofs.depth.Goals as goal

pub returns-then-s : goal.returns-then-s
returns-then-s c = so _ _ _ c.if-s.true c.words.ensures

pub returns-else-s : goal.returns-else-s
returns-else-s c = not_so _ _ _ c.if-s.false refl
