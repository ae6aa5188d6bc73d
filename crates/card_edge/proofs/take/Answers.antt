-- The first sample waiting, or zeros.
use Rattle.card_edge.proofs.EdgeHolds.{take_none, take_first}
use Rattle.card_edge.proofs.take.Goals as goal

pub returns-in-Some : goal.returns-in-Some
returns-in-Some c = let e = c.in-Some.ensures in take_first _ c.pop-waiting.array_long e.1 e.2

pub returns-in-None : goal.returns-in-None
returns-in-None c = let e = c.in-None.ensures in take_none _ c.pop-waiting.array_long e.0 e.1
