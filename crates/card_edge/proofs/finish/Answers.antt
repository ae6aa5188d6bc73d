-- The ring is full, or has room.
use Rattle.card_edge.proofs.EdgeHolds.{finish_full, finish_room}
use Rattle.card_edge.proofs.finish.Goals as goal

pub returns-in-Err : goal.returns-in-Err
returns-in-Err c = let e = c.in-Err.ensures in finish_full _ c.push-pushed.array_long _ e.0 e.1

pub returns-in_default : goal.returns-in_default
returns-in_default c = let e = c.in_default.ensures in finish_room _ c.push-pushed.array_long _ e.0 e.1
