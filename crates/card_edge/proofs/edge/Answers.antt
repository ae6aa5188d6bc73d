-- The three steps of an edge, one after the other.
use Rattle.card.proofs.CallsHold.{exits}
use Rattle.card_edge.proofs.EdgeHolds.{edge_disabled, frame_here, frame_still, edge_done}
use Rattle.card_edge.proofs.edge.Goals as goal

pub returns-in_err-enabled : goal.returns-in_err-enabled
returns-in_err-enabled c =
    exits _ c.from_residual.ensures.1 c.in_err-enabled.ensures.1 (edge_disabled _ _ c.in_err-enabled.ensures.0)

pub begin-requires : goal.begin-requires
begin-requires c = frame_here _ c.frame_of-f.ensures

pub clock-requires : goal.clock-requires
clock-requires c = frame_still (frame_here _ c.frame_of-f.ensures) c.begin.ensures

pub turn-requires : goal.turn-requires
turn-requires c = frame_still (frame_still (frame_here _ c.frame_of-f.ensures) c.begin.ensures) c.clock.ensures

pub returns : goal.returns
returns c = edge_done _ c.in_ok-enabled.ensures c.begin.ensures c.clock.ensures c.turn.ensures
