-- The ring has none, or the position and the count are written.
use Rattle.std.specs.Prelude.{Some, None}
use Rattle.laws.proofs.Common.{refl, sym, ◌∙◌}
use Rattle.card.proofs.AnyRing.{one_of_two, pops_any}
use Rattle.card.proofs.RingSteps.{ring_none, pop_first, pop_moves}
use Rattle.card.proofs.pop.Goals as goal

pub returns-then-count-eq0 : goal.returns-then-count-eq0
returns-then-count-eq0 g c =
    let small = one_of_two g.row.RING c.min-ring.ensures in
    pops_any g.row.RING _ _ None c.min-ring.ensures (ring_none _ _ c.told-w small (sym c.held-count.ensures.samples ∙ c.if-count-eq0.true), refl)

pub returns : goal.returns
returns g c =
    let small = one_of_two g.row.RING c.min-ring.ensures in
    pops_any g.row.RING _ _ (Some _) c.min-ring.ensures (
      _,
      pop_first _ _ c.told-w small _ c.held-count.ensures.samples c.if-count-eq0.false,
      pop_moves _ _ c.told-w small _ _,
    )
