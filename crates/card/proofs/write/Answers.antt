-- Refused while disabled and with the ring full; else the sample stands last.
use borrow.Author.Rules.{rules}
use Rattle.card.proofs.CallsHold.{exits, write_disabled, write_pushed}
use Rattle.card.proofs.write.Goals as goal

pub returns-in_err-enabled : goal.returns-in_err-enabled
returns-in_err-enabled c =
    exits _ c.from_residual.ensures.1 c.in_err-enabled.ensures.1 (write_disabled _ _ c.in_err-enabled.ensures.0)

pub returns : goal.returns
returns c =
    write_pushed _ _ c.push.result _ _ c.in_ok-enabled.ensures c.cut-sample.ensures c.push.ensures (λ full why says. search (rules, says)) c.map_err.ensures.cases
