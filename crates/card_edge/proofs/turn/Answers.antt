-- One edge on, or back to the first.
use Rattle.laws.proofs.Common.{ap, ◌∙◌}
use Rattle.card.specs.Memory.{bit_in}
use Rattle.card.proofs.Stored.{bit_of_level}
use Rattle.card_edge.proofs.EdgeHolds.{turn_on, turn_round}
use Rattle.card_edge.proofs.turn.Goals as goal
use Rattle.card_edge.proofs.turn.Goals.{then-next-f, else-next-f}

pub returns : goal.returns
returns c =
    let sck = ap bit_in c.from.ensures ∙ bit_of_level _ in
    let lrck = ap bit_in c.from-2.ensures ∙ bit_of_level _ in
    elim c.if-next-f.branch [
      | then-next-f w ↦ rw w.w-is (turn_on _ c.told-w _ c.requires _ _ sck lrck w.if-next-f.true)
      | else-next-f w ↦ rw w.w-is (turn_round _ c.told-w _ c.requires _ _ sck lrck w.if-next-f.false)
    ]
