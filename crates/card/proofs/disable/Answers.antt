-- The numbers of a disabled card are written, or it is disabled already.
use Rattle.card.proofs.CallsHold.{disabled_already, disable_done}
use Rattle.card.proofs.disable.Goals as goal

pub returns-then-w-eq1 : goal.returns-then-w-eq1
returns-then-w-eq1 c = disable_done _ c.told-w c.if-w-eq1.true

pub returns-else-w-eq1 : goal.returns-else-w-eq1
returns-else-w-eq1 c = disabled_already _ c.if-w-eq1.false
