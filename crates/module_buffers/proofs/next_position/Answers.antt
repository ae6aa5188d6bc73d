-- The branch is the choice of the definition.
use Rattle.laws.proofs.Common.{refl, so_lt, not_so_lt}
use Rattle.ring.specs.Ring.{next}
use Rattle.module_buffers.proofs.next_position.Goals as goal

pub returns-then-on-depth : goal.returns-then-on-depth
unfolding next
returns-then-on-depth c = so_lt _ _ _ _ c.if-on-depth.true refl

pub returns-else-on-depth : goal.returns-else-on-depth
unfolding next
returns-else-on-depth c = not_so_lt _ _ _ _ c.if-on-depth.false refl
