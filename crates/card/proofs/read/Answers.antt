-- Refused while disabled and with nothing unread; else the first one leaves.
use Rattle.std.proofs.lemmas.Result.{err_from_is_err_and}
use Rattle.card.proofs.CallsHold.{read_disabled, read_popped}
use Rattle.card.proofs.read.Goals as goal

pub returns-in_err-enabled : goal.returns-in_err-enabled
returns-in_err-enabled c =
    let p = err_from_is_err_and c.from_residual.result c.from_residual.ensures.1 in
    rw (p.1, p.2, c.in_err-enabled.ensures.1) (read_disabled _ c.in_err-enabled.ensures.0)

pub returns : goal.returns
returns c = rw c.ok_or.ensures.value (read_popped _ c.pop.result c.in_ok-enabled.ensures c.pop.ensures)
