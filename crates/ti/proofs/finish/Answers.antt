-- The character lands, and the next is loaded.
use Rattle.ti.proofs.Calls.{◌then◌, alike}
use Rattle.ti.proofs.Edges.{finish_is}
use Rattle.ti.proofs.finish.Goals as goal

pub returns : goal.returns
returns c = alike (c.receive.ensures then c.load_next.ensures) (finish_is _ _ _)
