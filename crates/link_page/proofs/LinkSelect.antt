-- A linked run leaves its client's select low.
--     link_selected    after a linked run the client's select is low
-- Assumes nothing.
use Rattle.std.specs.Prelude.{◌&&◌, ◌≡◌, Ok}
use Rattle.laws.proofs.Common.{ℕ, zero, suc, Bool, true, false, not, sym, ap, subst, ◌∙◌, if_keeps}
use Rattle.module_rules.proofs.Types.{Module, Outcome, Done}
use Rattle.module_rules.specs.Settings.{own_clock}
use Rattle.module_rules.specs.Refusals.{is_edge}
use Rattle.module_rules.specs.Edge.{levels, stepped}
use Rattle.module_rules.specs.Calls.{answering, sck_of, sdo_of, perform_of}
use Rattle.module_invariant.proofs.Select.{stepped_select}
use Rattle.module_invariant.proofs.CallsWhen.{pin_is}
use Rattle.link_rules.specs.declared.Run.{Run}
use Rattle.link_rules.specs.declared.Linked.{Linked}
use Rattle.link_rules.specs.Link.{run_stops, one_more, host_turn, told_of, linked_of}
use Rattle.link_rules.specs.LinkDemands.{read_as, pins_beside}
use Rattle.link_page.proofs.LinkRuns.{Allowed, allowed_accepts, link_when, link_is, ticked, shown, turn_is, run_is}

-- An enabled module clocked from its pin, with its select low.
record Selected (m : Module) : Type 0 where
  enabled : m.settings.spien ≡ true
  pin : own_clock m.settings ≡ false
  low : m.engine.pins.ss ≡ false

-- A client that is shown the host's levels is selected.
shown_selected : (host client : Module) → client.settings.spien ≡ true → own_clock client.settings ≡ false →
    Selected (shown host client)
unfolding answering
shown_selected host client on pin =
    let sck : Bool = sck_of host in
    let sdi : Bool = read_as (sdo_of host) in
    let is : perform_of client (pins_beside host) ≡ answering client Done (stepped client.settings (levels sck sdi false) client.engine) =
    pin_is client sck sdi false on pin in
    record {
      enabled = ap (λ (o : Outcome). o.after.settings.spien) is ∙ on;
      pin = ap (λ (o : Outcome). own_clock o.after.settings) is ∙ pin;
      low =
          ap (λ (o : Outcome). o.after.engine.pins.ss) is
          ∙ stepped_select client.settings false sck sdi client.engine;
    }

-- From the host's turn on, a selected client stays selected.
turn_selected : (left : ℕ) (host client : Module) → Selected client → Selected (host_turn left host client).client
unfolding host_turn one_more run_stops
turn_selected zero host client h = h
turn_selected (suc left) host client h =
    let o : Outcome = ticked host client in
    subst (λ (r : Run). Selected r.client) (sym (turn_is left host client))
    (if_keeps (λ (r : Run). Selected r.client) (is_edge o.answer) _ _
    (λ e. turn_selected left o.after (shown o.after client) (shown_selected o.after client h.enabled h.pin))
    (λ e. h))

-- After a linked run the client's select is low.
pub link_selected : (host client : Module) (limit n : ℕ) → (linked_of host client limit).answer ≡ Ok n →
    (linked_of host client limit).client.engine.pins.ss ≡ false
unfolding told_of
link_selected host client limit n e =
    let a : Allowed host client limit = (link_when host client limit n e).0 in
    let is = allowed_accepts host client limit a in
    let pin : own_clock client.settings ≡ false = ap (λ (b : Bool). b && not client.settings.con1.dissck) is.is_client in
    ap (λ (l : Linked). l.client.engine.pins.ss) (link_is host client limit a)
    ∙ ap (λ (r : Run). r.client.engine.pins.ss) (run_is host client limit)
    ∙ (turn_selected limit host (shown host client) (shown_selected host client is.client_on pin)).low
