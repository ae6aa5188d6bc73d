-- The number of the answer is told.
use Rattle.thurafeqa.proofs.Told.{play_told, play_numbered}
use Rattle.thurafeqa.proofs.thurafeqa_play.Goals as goal

pub returns : goal.returns
returns c = play_told c.play-played.ensures (play_numbered _ _ c.number.ensures)
