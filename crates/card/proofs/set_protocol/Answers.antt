-- Refused while enabled; else one number is written.
use Rattle.card.proofs.CallsHold.{exits, protocol_refused, protocol_done}
use Rattle.card.proofs.set_protocol.Goals as goal

pub returns-in_err-disabled : goal.returns-in_err-disabled
returns-in_err-disabled c =
    exits _ c.from_residual.ensures.1 c.in_err-disabled.ensures.1 (protocol_refused _ _ c.in_err-disabled.ensures.0)

pub returns : goal.returns
returns c = protocol_done _ _ c.told-w c.in_ok-disabled.ensures
