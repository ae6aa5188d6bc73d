-- Nothing before the top bit, and then one bit of the sample.
use Rattle.laws.proofs.Common.{refl, so_lt, not_so_lt}
use Rattle.card.specs.Memory.{bit_in}
use Rattle.card_edge.specs.Shown.{shown_bit}
use Rattle.card_edge.proofs.EdgeHolds.{bit_of_bit}
use Rattle.card_edge.proofs.shown.Goals as goal

pub returns-then-edges-f : goal.returns-then-edges-f
unfolding shown_bit bit_in
returns-then-edges-f c = so_lt _ _ _ _ c.if-edges-f.true refl

pub returns-else-edges-f : goal.returns-else-edges-f
unfolding shown_bit
returns-else-edges-f c = not_so_lt _ _ _ _ c.if-edges-f.false (bit_of_bit _ _)
