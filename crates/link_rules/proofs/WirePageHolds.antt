-- The page of what the wire delivers (specs/WireDemands.antt), run: its statements at these runs, each of two modules that calls reach
-- from power-up. A wrong wire that one of them tells apart is seen to be false of the page.
--     holds, page_judges    what the page says of a run, as a test that follows from the page
--     page_runs             of two modules that calls reach from power-up it follows by a test alone
--     runs_hold             it is true of these runs; more of them, and runs that do not deliver, stand in crates/link_delivers
-- Assumes nothing.
use Rattle.std.specs.Prelude.{◌+◌, ◌*◌, ◌&&◌, ◌||◌, ◌∷◌, ◌++◌, ◌≡◌}
use Rattle.laws.proofs.Common.{ℕ, Bool, true, false, not, List, [], refl, ap, leb-true}
use Rattle.laws.proofs.Common.{eqb, leb, length, take, drop, when◌then◌else◌, and_both}
use mir.Val.{bool_byte}
use Rattle.ring.specs.Ring.{next, contents}
use Rattle.word_order.specs.Bits.{bit_of}
use Rattle.word_order.specs.Ledger.{Passed, Ledger, words_of, edges_given, opened, left_to_send, loses, first_on_wire, counted, closed, given}
use Rattle.word_order.specs.Port.{is_under, all_unmarked}
use Rattle.module_rules.proofs.Types.{Eight, Module, Call}
use Rattle.module_rules.specs.Bits.{shifted_in, received_after, shown_bit, sdo_after, progressed}
use Rattle.module_rules.specs.Buffers.{waiting, unread, empty_transmit, empty_receive, first_waiting, first_unread, written, departed, appended, taken, overrun}
use Rattle.module_rules.specs.Calls.{refuse, answering, powered_at, word_taken, read_buf, read_of, turns_on, turns_off, stat_written, write_stat, with_con1, with_con2, configured, word_written, write_buf, write_of, clock_step_of, edge_told, tick_of, pins_of, clear_of, perform_of, interrupt_of, sck_of, undriven, sdo_of, ss_of}
use Rattle.module_rules.specs.Edge.{begun, shifted, advanced, advanced_if_begun, awaits_pulse, under_way, pulse_due, pulse_after, pulsed, clocked, edged, stepped}
use Rattle.module_rules.specs.Finish.{overflowed, word_appended, is_lost, delivered, sent_dropped, freed, finished}
use Rattle.module_rules.specs.Interrupts.{raises, noted}
use Rattle.module_rules.specs.Loading.{word_leaves, moved, can_load, loaded, next_top, sdo_at, rested}
use Rattle.module_rules.specs.Refusals.{number_of}
use Rattle.module_rules.specs.Registers.{weighed, con1_from, con1_value, con2_from, con2_value, spitbf, spirbf, srxmpt, srmpt, at_most7, spibec, stat_value, stat_settings, spirov_after, stat_engine, enabled_engine, disabled_engine}
use Rattle.module_rules.specs.Select.{select_remembered, aborted, select_seen}
use Rattle.module_rules.specs.InBits.{word_bits}
use Rattle.module_rules.specs.Words.{unread_in, owed_words}
use Rattle.module_rules.specs.Watch.{port_in}
use Rattle.module_rules.specs.Lives.{power_up, life}
use Rattle.module_rules.proofs.Claims.{Claim, level, number, numbers, AllHold, none, ◌also◌, all_judged, all_judged_lem}
use Rattle.module_rules.proofs.PageHolds.{one_by_one, enabled, words, ticks, pins}
use Rattle.link_rules.specs.declared.Linked.{Linked}
use Rattle.link_rules.specs.Link.{level_read, made_edge, host_ticked, client_sees, run_stops, one_more, client_turn, handed_over, host_turn, run_of, refuse_link, told_of, linked_of, link_said_of}
use Rattle.link_rules.specs.LinkDemands.{host_calls, client_calls, run_host_calls, run_client_calls, refusal_of}
use Rattle.link_rules.specs.WireDemands.{Accepted, host_ledger, client_ledger, before, room_in, received, sent_of, first_of, Delivers, whole_words, Exchanges, WireDelivers}

-- A list of words that passed as numbers: twice the word, and one more for its mark.
abbrev told : List Passed → List ℕ
told [] = []
told (a ∷ rest) = (a.word * 2 + bool_byte a.marked) ∷ told rest

-- What the page says of every run: of its words, and of its edges; and what it says of one whose limit covers the host's words.
unfoldable pub passed : Module → Module → Ledger → Ledger → List Claim
passed host client h c =
    numbers (told c.arrivals) (told (before client ++ received (room_in client) (words_of h.departures)))
    ∷ numbers (told h.arrivals) (told (before host ++ received (room_in host) (words_of c.departures)))
    ∷ number (length h.departures) (length c.departures)
    ∷ numbers (told h.departures) (told (all_unmarked (take (length h.departures) (owed_words host))))
    ∷ numbers (told c.departures) (told (sent_of (length c.departures) (owed_words client)))
    ∷ []

unfoldable pub paced : Module → Ledger → ℕ → List Claim
paced host h used = number used (2 * word_bits host.settings * length h.departures + edges_given h.wire) ∷ []

unfoldable pub exchanged : Module → Module → Module → Module → ℕ → List Claim
exchanged host client host' client' used =
    numbers (unread_in client') (unread_in client ++ take (room_in client) (owed_words host))
    ∷ numbers (unread_in host') (unread_in host ++ take (room_in host) (first_of (length (owed_words host)) (owed_words client)))
    ∷ numbers (owed_words host') []
    ∷ numbers (owed_words client') (drop (length (owed_words host)) (owed_words client))
    ∷ level (is_under (port_in client').way) false
    ∷ number used (whole_words host)
    ∷ []

-- All of it, of a run with its ledgers.
unfoldable pub judged : Module → Module → ℕ → Ledger → Ledger → Linked → Bool
judged host client limit h c l =
    let used : ℕ = (link_said_of l.answer).edges in
    (all_judged (passed host client h c) && all_judged (paced host h used))
    && (not (leb (whole_words host) limit) || all_judged (exchanged host client l.host l.client used))

unfoldable pub holds : Module → Module → ℕ → Bool
holds host client limit =
    judged host client limit (host_ledger host client limit) (client_ledger host client limit) (linked_of host client limit)

-- The page gives it.
module _ (host client : Module) (h c : Ledger) (used : ℕ) (d : Delivers host client h c used) where
  passed_holds : AllHold (passed host client h c)
  unfolding passed
  passed_holds =
      ap told d.to_client
      also ap told d.to_host
      also d.equally
      also ap told d.host_sent
      also ap told d.client_sent
      also none

  paced-holds : AllHold (paced host h used)
  unfolding paced
  paced-holds = d.edges also none

exchanged_holds : (host client host' client' : Module) (used : ℕ) → Exchanges host client host' client' used →
    AllHold (exchanged host client host' client' used)
unfolding exchanged
exchanged_holds host client host' client' used x =
    x.client_unread
    also x.host_unread
    also x.host_owes
    also x.client_owes
    also ap is_under x.between
    also x.edges
    also none

implied : (a b : Bool) → (a ≡ true → b ≡ true) → (not a || b) ≡ true
implied true b f = f refl
implied false b f = refl

pub page_judges : WireDelivers → (host client : Module) (limit : ℕ) → Accepted host client limit → holds host client limit ≡ true
unfolding holds judged
page_judges p host client limit a =
    and_both _ _
    (and_both _ _ (all_judged_lem (passed_holds _ _ _ _ _ (p.delivers host client limit a)))
    (all_judged_lem (paced-holds _ _ _ _ _ (p.delivers host client limit a))))
    (implied (leb (whole_words host) limit) _
    (λ covers.
    all_judged_lem
    (exchanged_holds _ _ _ _ _
    (p.exchanges host client limit a (p.ends_idle host client limit a (leb-true (whole_words host) limit covers))))))

-- Two modules that calls reach from power-up, of which the page speaks: at a word boundary, with SDO driven, and not refused.
abbrev pub ready : Module → Bool
ready m = not (is_under (port_in m).way) && not m.settings.con1.dissdo

unfoldable pub spoken : Module → Module → ℕ → Bool
spoken host client limit = eqb (refusal_of host client limit) 0 && (ready host && ready client)

unfoldable pub delivers : Module → Module → ℕ → Bool
delivers host client limit = spoken host client limit && holds host client limit

abbrev pub after : List (List Call) → Module
after cs = (life (power_up Eight) (one_by_one cs)).now

abbrev pub Runs : ℕ → List (List Call) → List (List Call) → Type 0
Runs limit hosts clients = delivers (after hosts) (after clients) limit ≡ true

-- As many words at both ends, CKE 0 and a client without SSEN. CKE 1: the client's first word has its top bit set and its select is high before
-- the run; two fillers follow, and the client, in standard operation, drops two words. A standard host that is full drops all, while a
-- client with two words unread keeps all. CKP and 16 bits: a word is left over at the client. A limit within the second word.
runs_hold :
    Runs 32 (enabled 32 0 ∷ words (165 ∷ 60 ∷ []) ∷ []) (enabled 0 1 ∷ words (129 ∷ 126 ∷ []) ∷ [])
    × Runs 48 (enabled 288 1 ∷ words (165 ∷ 60 ∷ 24 ∷ []) ∷ []) (enabled 384 0 ∷ words (129 ∷ []) ∷ [])
    × Runs 32 (enabled 32 0 ∷ words (165 ∷ []) ∷ ticks 8 true false ∷ words (60 ∷ 24 ∷ []) ∷ [])
    (enabled 128 1 ∷ pins 16 true false ∷ words (129 ∷ []) ∷ [])
    × Runs 32 (enabled 1120 0 ∷ words (42435 ∷ []) ∷ []) (enabled 1216 1 ∷ words (61455 ∷ 4660 ∷ []) ∷ [])
    × Runs 21 (enabled 288 0 ∷ words (165 ∷ 60 ∷ []) ∷ []) (enabled 384 0 ∷ words (129 ∷ []) ∷ [])
unfolding shifted_in received_after shown_bit sdo_after progressed empty_transmit empty_receive first_waiting first_unread written departed appended taken overrun refuse answering powered_at word_taken read_buf read_of turns_on turns_off stat_written write_stat with_con1 with_con2 configured word_written write_buf write_of clock_step_of edge_told tick_of pins_of clear_of perform_of interrupt_of sck_of undriven sdo_of ss_of when◌then◌else◌ begun shifted advanced advanced_if_begun awaits_pulse under_way pulse_due pulse_after pulsed clocked edged stepped overflowed word_appended is_lost delivered sent_dropped freed finished raises noted word_leaves moved can_load loaded next_top sdo_at rested number_of bit_of weighed con1_from con1_value con2_from con2_value spitbf spirbf srxmpt srmpt at_most7 spibec stat_value stat_settings spirov_after stat_engine enabled_engine disabled_engine next select_remembered aborted select_seen level_read made_edge host_ticked client_sees run_stops one_more client_turn handed_over host_turn run_of refuse_link told_of linked_of link_said_of host_calls client_calls run_host_calls run_client_calls waiting unread contents opened left_to_send loses first_on_wire counted closed given judged passed paced exchanged holds spoken delivers
runs_hold = (refl, refl, refl, refl, refl)
