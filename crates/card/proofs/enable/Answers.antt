-- Enabled already, or the numbers of an enabled card are written.
use Rattle.laws.proofs.Common.{ap, ◌∙◌}
use Rattle.card.specs.declared.Frame.{Frame}
use Rattle.card.specs.Memory.{bit_in, framed}
use Rattle.card.proofs.Stored.{bit_of_level}
use Rattle.card.proofs.CallsHold.{enabled_already, enable_done}
use Rattle.card.proofs.enable.Goals as goal

pub returns-then-w-eq0 : goal.returns-then-w-eq0
unfolding framed
returns-then-w-eq0 c =
    enable_done _ c.told-w _ c.if-w-eq0.true
    (ap bit_in c.from-rest.ensures ∙ bit_of_level _ ∙ ap (λ (f : Frame). f.rest) c.frame_of.ensures)

pub returns-else-w-eq0 : goal.returns-else-w-eq0
returns-else-w-eq0 c = enabled_already _ c.if-w-eq0.false
