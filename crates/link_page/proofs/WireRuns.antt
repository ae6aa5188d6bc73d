-- A run at concrete calls that meets the hypotheses of the wire's page is one of which the page speaks.
--     page_runs   what the page says of it is what `holds` judges
-- Assumes nothing.
use Rattle.std.specs.Prelude.{◌&&◌, ◌≡◌}
use Rattle.laws.proofs.Common.{ℕ, true, false, not, List, refl, eqb-true, not-true, eqb, and_left, and_right}
use Rattle.laws.proofs.Common.{clash}
use Rattle.word_order.specs.Port.{Way, idle, sends, is_under}
use Rattle.module_rules.proofs.Types.{Module, Call}
use Rattle.module_rules.specs.Watch.{port_in}
use Rattle.module_rules.specs.Lives.{Beginning, life}
use Rattle.module_order.proofs.Order.{life_holds}
use Rattle.link_rules.specs.LinkDemands.{refusal_of}
use Rattle.link_rules.specs.WireDemands.{Ready, WireDelivers}
use Rattle.link_rules.proofs.WirePageHolds.{ready, spoken, holds, page_judges}

is_ready : (b : Beginning) (cs : List Call) → ready (life b cs).now ≡ true → Ready (life b cs).now
is_ready b cs e =
    record {
      reached = (life_holds b cs).holds;
      between = is_idle_lem _ (not-true _ (and_left (not (is_under (port_in (life b cs).now).way)) _ e));
      driven = not-true _ (and_right (not (is_under (port_in (life b cs).now).way)) _ e);
    }
  where
    is_idle_lem : (w : Way) → is_under w ≡ false → w ≡ idle
    is_idle_lem idle e = refl
    is_idle_lem (sends u) e = clash true refl e

pub page_runs : WireDelivers → (limit : ℕ) (a b : Beginning) (hosts clients : List Call) →
    spoken (life a hosts).now (life b clients).now limit ≡ true →
    holds (life a hosts).now (life b clients).now limit ≡ true
unfolding spoken
page_runs p limit a b hosts clients e =
    let host : Module = (life a hosts).now in
    let client : Module = (life b clients).now in
    let both : (ready host && ready client) ≡ true = and_right (eqb (refusal_of host client limit) 0) _ e in
    page_judges p host client limit
    (record {
      host_ready = is_ready a hosts (and_left (ready host) _ both);
      client_ready = is_ready b clients (and_right (ready host) _ both);
      unrefused = eqb-true (refusal_of host client limit) 0 (and_left (eqb (refusal_of host client limit) 0) _ e);
    })
