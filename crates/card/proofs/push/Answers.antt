-- The ring is full, or a cell and the count are written.
use Rattle.std.specs.Prelude.{Ok, Err}
use Rattle.laws.proofs.Common.{refl}
use Rattle.card.proofs.AnyRing.{one_of_two, pushes_any}
use Rattle.card.proofs.RingSteps.{ring_full, ring_room, push_moves}
use Rattle.card.proofs.push.Goals as goal

pub returns-then-count-ge8 : goal.returns-then-count-ge8
returns-then-count-ge8 g c =
    let small = one_of_two g.row.RING c.min-ring.ensures in
    pushes_any g.row.RING c.args.sample _ _ (Err _) c.min-ring.ensures (ring_full _ _ c.told-w small c.if-count-ge8.true, refl)

pub returns : goal.returns
returns g c =
    let small = one_of_two g.row.RING c.min-ring.ensures in
    pushes_any g.row.RING c.args.sample _ _ (Ok _) c.min-ring.ensures
    (ring_room _ _ c.told-w small c.if-count-ge8.false, push_moves _ _ c.told-w small _ c.if-count-ge8.false)
