-- The wire delivers: link_rules, specs/WireDemands.antt, all of it.
--     wire_delivers_lem   what the buyer signs for, of the pair
-- Assumes nothing.
use Rattle.std.specs.Prelude.{◌+◌, ◌*◌, ◌-◌, ◌≤◌, ◌++◌, ◌≡◌}
use Rattle.laws.proofs.Common.{ℕ, true, false, List, [], sym, ap, ap₂, subst, ◌∙◌, sub-zero}
use Rattle.laws.proofs.Common.{add-zero, le_trans, le_of_eq, arith, length, length-append}
use native.Mathlib.Nat.{mul-add}
use Rattle.word_order.specs.Ledger.{unmarked, Passed, sent, edges_given}
use Rattle.word_order.specs.Port.{Way, edges_under, wire_from}
use Rattle.word_order.proofs.Tied.{Tied}
use Rattle.word_order.proofs.Order.{tied_agrees}
use Rattle.word_wire.specs.Wire.{departing}
use Rattle.word_wire.proofs.Lists.{words_departing}
use Rattle.word_wire.proofs.Exchanged.{left, whole, within, unread_is, across}
use Rattle.module_rules.proofs.Types.{Settings, Module, Shift}
use Rattle.module_rules.specs.Settings.{width_of, silent}
use Rattle.module_rules.specs.Invariant.{Reached}
use Rattle.module_rules.specs.Words.{unread_in, owed_words, unfinished}
use Rattle.module_rules.specs.Watch.{terms, way_of, port_in, Watched, watched_calls}
use Rattle.module_rules.specs.Lives.{Beginning, mid_life, life, resumed_at}
use Rattle.module_rules.specs.Demands.{edges_still_owed, IsIdle}
use Rattle.module_order.proofs.Order.{life_holds}
use Rattle.module_edges_owed.proofs.Parts.{owed_in}
use Rattle.module_edges_owed.proofs.Hold.{owed_is_held}
use Rattle.link_rules.specs.Link.{linked_of}
use Rattle.link_rules.specs.LinkDemands.{run_host_calls, run_client_calls, edges_used}
use Rattle.link_rules.specs.WireDemands.{Ready, Accepted, before, room_in, Delivers, Exchanges, whole_words, largest_limit, WireDelivers}
use Rattle.link_page.proofs.LinkRuns.{Allowed, allowed_accepts, link_when}
use Rattle.link_page.proofs.LinkIdle.{host_own, link_pays}
use Rattle.link_page.proofs.LinkDemandsHold.{made, linked_runs_lem}
use Rattle.link_delivers.proofs.Calls.{host_silent}
use Rattle.link_delivers.proofs.Turns.{Paired, Joined}
use Rattle.link_delivers.proofs.Runs.{run_joined, begins_joined}
use Rattle.link_delivers.proofs.Words.{arriving_is, departing_is, departing_real, departing_words}

-- Settings that a run accepts, with SDO driven at both ends.
paired : (host client : Module) (limit : ℕ) → Allowed host client limit → host.settings.con1.dissdo ≡ false →
    client.settings.con1.dissdo ≡ false → Paired host.settings client.settings
paired host client limit a host_driven client_driven =
    let is = allowed_accepts host client limit a in
    record {
      host_on = is.host_on;
      host = host_own host client limit a;
      client = record { on = is.client_on; client = is.is_client; plain = is.client_unframed };
      cke = is.cke;
      width = is.width;
      ckp = is.ckp;
      host_driven = host_driven;
      client_driven = client_driven;
    }

-- The words that a module holds unread are the unmarked ones of what had arrived.
held : (m : Module) → Reached m → m.settings.spien ≡ true → unmarked (before m) ≡ unread_in m
held m r on = ((life_holds (mid_life m r on) []).tied on).words.receiving

-- What a host at a word boundary owes.
owes_whole : (host : Module) (h : Ready host) (on : host.settings.spien ≡ true) →
    edges_still_owed (life (mid_life host h.reached on) []) ≡ whole_words host
owes_whole host h on =
    ap₂ (λ (k g : ℕ). 2 * width_of host.settings * k - g) (sub-zero (length (owed_words host)))
    (ap (λ (w : Way). edges_given (wire_from (terms host.settings) w)) h.between)
    ∙ sub-zero (whole_words host)

module _ (host client : Module) (limit : ℕ) (a : Accepted host client limit) where
  abbrev h : Ready host
  h = a.host_ready

  abbrev g : Ready client
  g = a.client_ready

  pair : Paired host.settings client.settings
  pair = paired host client limit (link_when host client limit _ (made host client limit a.unrefused)).0 h.driven g.driven

  abbrev host_begins : Beginning
  host_begins = mid_life host h.reached pair.host_on

  abbrev client_begins : Beginning
  client_begins = mid_life client g.reached pair.client.on

  abbrev x : Watched
  x = watched_calls (resumed_at host) (run_host_calls host client limit)

  abbrev y : Watched
  y = watched_calls (resumed_at client) (run_client_calls host client limit)

  -- A run ends with both ends in step.
  joined : Joined host client x y
  unfolding run_host_calls run_client_calls
  joined = run_joined limit host client (resumed_at host) _ (begins_joined host client h g pair)

  abbrev gone : ℕ
  gone = length x.ledger.departures

  sends_none : silent x.now.settings ≡ true
  sends_none = host_silent x.now.settings joined.pair.host

  host-sent : x.ledger.departures ≡ departing gone (owed_words host)
  host-sent = joined.host_end.departs.gone ∙ ap (departing gone) joined.host_end.owes

  client-sent : y.ledger.departures ≡ departing (length y.ledger.departures) (owed_words client)
  client-sent =
      joined.client_end.departs.gone ∙ ap (departing (length y.ledger.departures)) joined.client_end.owes

  -- The modules in the end.
  host-is : (linked_of host client limit).host ≡ x.now
  host-is = linked_runs_lem.host_lives host_begins client_begins [] [] limit a.unrefused

  client-is : (linked_of host client limit).client ≡ y.now
  client-is = linked_runs_lem.client_lives host_begins client_begins [] [] limit a.unrefused

  host_tied : Tied (terms x.now.settings) (port_in x.now) x.ledger
  host_tied = (joined.host_end.lives.tied joined.pair.host_on).words

  client_tied : Tied (terms y.now.settings) (port_in y.now) y.ledger
  client_tied = (joined.client_end.lives.tied joined.pair.client.on).words

  -- What the host edges_still_owed has departed or is edges_still_owed still.
  accounted : length (owed_words host) ≡ gone + length (owed_words x.now)
  accounted = ap length (sym joined.host_end.owes) ∙ whole host_tied joined.host_end.departs sends_none

  no-filler : gone ≤ length (owed_words host)
  no-filler = omega (arith, accounted)

  -- The edges used are what the host's debt fell by: 2w for each word that departed, and those of the word on the wire.
  abbrev wide : ℕ
  wide = 2 * width_of host.settings

  owed-now : owed_in (linked_of host client limit).host ≡ wide * length (owed_words x.now) - edges_given x.ledger.wire
  owed-now =
      ap owed_in host-is
      ∙ sym (owed_is_held x (joined.host_end.lives.tied joined.pair.host_on))
      ∙ ap₂ (λ (s : Settings) (k : ℕ). 2 * width_of s * k - edges_given x.ledger.wire) joined.host_end.settings
      (less _ _ _ (ap length host_tied.sending ∙ length-append (sent x.ledger) (owed_words x.now)))
    where
      less : (a b c : ℕ) → a ≡ b + c → a - b ≡ c
      less a b c e = omega arith

  edges : edges_used host client limit ≡ wide * gone + edges_given x.ledger.wire
  edges =
      let all : wide * length (owed_words host) ≡ wide * gone + wide * length (owed_words x.now) =
      ap (λ (k : ℕ). wide * k) accounted ∙ mul-add wide gone (length (owed_words x.now)) in
      let fits : edges_given x.ledger.wire ≤ wide * length (owed_words x.now) =
      subst (λ (s : Settings). edges_given x.ledger.wire ≤ 2 * width_of s * length (owed_words x.now)) joined.host_end.settings
      (within host_tied joined.host_end.departs sends_none) in
      let pays : edges_used host client limit + owed_in (linked_of host client limit).host ≡ owed_in host =
      link_pays host client limit _ h.reached.holds (made host client limit a.unrefused) in
      let first : owed_in host ≡ wide * length (owed_words host) =
      sym (owed_is_held (resumed_at host) ((life_holds host_begins []).tied pair.host_on)) ∙ owes_whole host h pair.host_on in
      paid _ _ _ _ (ap (λ (k : ℕ). edges_used host client limit + k) (sym owed-now) ∙ pays ∙ first ∙ all) fits
    where
      paid : (used one rest given : ℕ) → used + (rest - given) ≡ one + rest → given ≤ rest → used ≡ one + given
      paid used one rest given e f = omega arith

  delivers : Delivers host client x.ledger y.ledger (edges_used host client limit)
  delivers =
      record {
        to_client = joined.to_client.arrives.words ∙ ap (λ (q : List Passed). before client ++ q) (arriving_is (room_in client) _);
        to_host = joined.to_host.arrives.words ∙ ap (λ (q : List Passed). before host ++ q) (arriving_is (room_in host) _);
        equally = joined.to_client.arrives.equally;
        host_sent = host-sent ∙ departing_real gone (owed_words host) no-filler;
        client_sent = client-sent ∙ departing_is (length y.ledger.departures) (owed_words client);
        edges = edges;
      }

  module _ (i : IsIdle (linked_of host client limit).host) where
    idle-now : IsIdle x.now
    idle-now = subst IsIdle host-is i

    owes_none : owed_words x.now ≡ []
    owes_none = ap₂ (λ (sh : Shift) (q : List ℕ). unfinished x.now.settings sh ++ q) idle-now.free idle-now.none_waits

    -- All that the host edges_still_owed has departed, and as many of the client's.
    all : gone ≡ length (owed_words host)
    all =
        let none : length (owed_words x.now) ≡ 0 = ap length owes_none in
        omega (arith, none, accounted)

    as_many : length y.ledger.departures ≡ length (owed_words host)
    as_many = sym joined.to_client.arrives.equally ∙ all

    exchanges : Exchanges host client (linked_of host client limit).host (linked_of host client limit).client (edges_used host client limit)
    exchanges =
        record {
          client_unread =
              cc (
                client-is,
                unread_is client_tied joined.to_client.arrives,
                held client g.reached pair.client.on,
                host-sent,
                all,
                words_departing (owed_words host),
              );
          host_unread =
              cc (
                host-is,
                unread_is host_tied joined.to_host.arrives,
                held host h.reached pair.host_on,
                client-sent,
                as_many,
                departing_words (length (owed_words host)) (owed_words client),
              );
          host_owes = ap owed_words host-is ∙ owes_none;
          client_owes =
              cc (client-is, left client_tied joined.client_end.departs, as_many, joined.client_end.owes);
          between =
              ap (λ (m : Module). (port_in m).way) client-is
              ∙ across host_tied client_tied joined.to_client.arrives.wire (ap way_of idle-now.free);
          edges =
              edges
              ∙ ap₂ (λ (k given : ℕ). wide * k + given) all
              ((tied_agrees _ _ _ host_tied).given ∙ ap (λ (sh : Shift). edges_under (way_of sh)) idle-now.free)
              ∙ add-zero (whole_words host);
        }

-- A limit that covers the host's words ends with the host idle, and the largest limit covers them.
ends_idle_lem : (host client : Module) (limit : ℕ) → Accepted host client limit → whole_words host ≤ limit →
    IsIdle (linked_of host client limit).host
ends_idle_lem host client limit a enough =
    let on : host.settings.spien ≡ true = (pair host client limit a).host_on in
    (linked_runs_lem.uses_owed (mid_life host a.host_ready.reached on) [] client limit a.unrefused
    (le_trans (le_of_eq (owes_whole host a.host_ready on)) enough)).1

covered : (host client : Module) (limit : ℕ) → Accepted host client limit → whole_words host ≤ largest_limit
covered host client limit a =
    let on : host.settings.spien ≡ true = (pair host client limit a).host_on in
    le_trans (le_of_eq (sym (owes_whole host a.host_ready on))) (linked_runs_lem.most_owed (mid_life host a.host_ready.reached on) [] on)

pub wire_delivers_lem : WireDelivers
wire_delivers_lem =
    record {
      delivers = delivers;
      exchanges = exchanges;
      ends_idle = ends_idle_lem;
      whole = λ host client a.
          exchanges host client largest_limit a (ends_idle_lem host client largest_limit a (covered host client largest_limit a));
    }
