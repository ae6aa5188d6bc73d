-- At a first place with nothing under way a sample begins; else nothing is written.
use Rattle.card_edge.proofs.EdgeHolds.{begin_taken, begin_under, begin_away}
use Rattle.card_edge.proofs.begin.Goals as goal

pub returns-then-place-f : goal.returns-then-place-f
returns-then-place-f c = begin_taken _ _ c.requires c.then-place-f.either c.if-w-eq0.true c.take.ensures

pub returns-else-place-f-2 : goal.returns-else-place-f-2
returns-else-place-f-2 c = begin_away _ _ c.requires c.if-place-f.false c.if-place-f-2.false

pub returns-else-w-eq0 : goal.returns-else-w-eq0
returns-else-w-eq0 c = begin_under _ _ c.requires c.if-w-eq0.false
