-- The page of what the wire delivers, run on more than its wrong rules need (those are in link_rules, proofs/WirePageHolds.antt).
--     runs_hold   the page is true of runs in each mode and width, with words left over and with none, with a mark set within the run and
--                 before it, and of the run's first call alone; and of the words it would be false without a word boundary, with DISSDO,
--                 and of modules that no calls reach
-- Assumes nothing.
use Rattle.std.specs.Prelude.{◌+◌, ◌&&◌, ◌∷◌, ◌≡◌}
use Rattle.laws.proofs.Common.{ℕ, Bool, true, false, not, List, [], refl, eqb, when◌then◌else◌}
use Rattle.ring.specs.Ring.{next, contents}
use Rattle.word_order.specs.Bits.{bit_of}
use Rattle.word_order.specs.Ledger.{opened, left_to_send, loses, first_on_wire, counted, closed, given}
use Rattle.module_rules.proofs.Types.{Depth, Four, Sixteen, Module, Call, Pin}
use Rattle.module_rules.specs.Bits.{shifted_in, received_after, shown_bit, sdo_after, progressed}
use Rattle.module_rules.specs.Buffers.{waiting, unread, empty_transmit, empty_receive, first_waiting, first_unread, written, departed, appended, taken, overrun}
use Rattle.module_rules.specs.Calls.{refuse, answering, powered_at, word_taken, read_buf, read_of, turns_on, turns_off, stat_written, write_stat, with_con1, with_con2, configured, word_written, write_buf, write_of, clock_step_of, edge_told, tick_of, pins_of, clear_of, perform_of, interrupt_of, sck_of, undriven, sdo_of, ss_of}
use Rattle.module_rules.specs.Changes.{with_sck, with_sdo}
use Rattle.module_rules.specs.Edge.{begun, shifted, advanced, advanced_if_begun, awaits_pulse, under_way, pulse_due, pulse_after, pulsed, clocked, edged, stepped}
use Rattle.module_rules.specs.Finish.{overflowed, word_appended, is_lost, delivered, sent_dropped, freed, finished}
use Rattle.module_rules.specs.Interrupts.{raises, noted}
use Rattle.module_rules.specs.Loading.{word_leaves, moved, can_load, loaded, next_top, sdo_at, rested}
use Rattle.module_rules.specs.Refusals.{number_of}
use Rattle.module_rules.specs.Registers.{weighed, con1_from, con1_value, con2_from, con2_value, spitbf, spirbf, srxmpt, srmpt, at_most7, spibec, stat_value, stat_settings, spirov_after, stat_engine, enabled_engine, disabled_engine}
use Rattle.module_rules.specs.Select.{select_remembered, aborted, select_seen}
use Rattle.module_rules.specs.Lives.{power_up, life}
use Rattle.module_rules.proofs.Claims.{all_judged}
use Rattle.module_rules.proofs.PageHolds.{one_by_one, enabled, words, ticks, pins}
use Rattle.link_rules.proofs.WirePageHolds.{passed, paced, exchanged, judged, holds, spoken, delivers, after, Runs}
use Rattle.link_rules.specs.Link.{level_read, made_edge, host_ticked, client_sees, run_stops, one_more, client_turn, handed_over, host_turn, run_of, refuse_link, told_of, linked_of, link_said_of}
use Rattle.link_rules.specs.LinkDemands.{host_calls, client_calls, run_host_calls, run_client_calls, refusal_of}
use Rattle.link_rules.specs.WireDemands.{host_ledger, client_ledger}

-- In each clock mode and width, by the bits CKP (64), CKE (256) and MODE16 (1024): two words of a host, and a word and a filler of an
-- SSEN client, whose top bits are set and whose select is high before the run.
abbrev InMode : ℕ → Type 0
InMode mode =
    Runs 544 (enabled (32 + mode) 0 ∷ words (42405 ∷ 33023 ∷ []) ∷ []) (enabled (128 + mode) 1 ∷ words (33153 ∷ []) ∷ [])

abbrev Modes : Type 0
Modes = InMode 0 × InMode 64 × InMode 256 × InMode 320 × InMode 1024 × InMode 1088 × InMode 1280 × InMode 1344

-- A client without SSEN that owes more words than the host, and one that owes none; the limit is just what the host owes.
abbrev Clients : Type 0
Clients =
    Runs 16 (enabled 32 0 ∷ words (165 ∷ []) ∷ []) (enabled 0 1 ∷ words (129 ∷ 126 ∷ []) ∷ [])
    × Runs 16 (enabled 32 0 ∷ words (165 ∷ []) ∷ []) (enabled 0 0 ∷ [])

-- Nine words at both ends in enhanced operation: the ninth is dropped, and both are marked. A client that was marked before the run
-- drops all.
abbrev Marks : Type 0
Marks =
    Runs 544 (enabled 32 1 ∷ words (1 ∷ 2 ∷ 3 ∷ 4 ∷ 5 ∷ 6 ∷ 7 ∷ 8 ∷ 9 ∷ []) ∷ []) (enabled 128 1 ∷ words (129 ∷ 126 ∷ []) ∷ [])
    × Runs 16 (enabled 32 0 ∷ words (165 ∷ []) ∷ []) (enabled 0 1 ∷ pins 72 true false ∷ words (129 ∷ []) ∷ [])

-- Document 02, Twelve: two depths. Ten words of a host of depth 16 to a client of depth 4, which keeps four; and the other way round.
abbrev deep : Depth → List (List Call) → Module
deep depth cs = (life (power_up depth) (one_by_one cs)).now

abbrev ten : List Call
ten = words (1 ∷ 2 ∷ 3 ∷ 4 ∷ 5 ∷ 6 ∷ 7 ∷ 8 ∷ 9 ∷ 10 ∷ [])

abbrev Depths : Type 0
Depths =
    (delivers (deep Sixteen (enabled 32 1 ∷ ten ∷ [])) (deep Four (enabled 128 1 ∷ words (129 ∷ 126 ∷ []) ∷ [])) 544 ≡ true)
    × (delivers (deep Four (enabled 32 1 ∷ words (1 ∷ 2 ∷ 3 ∷ 4 ∷ 5 ∷ []) ∷ [])) (deep Sixteen (enabled 128 1 ∷ ten ∷ [])) 544 ≡ true)

-- A limit of 0, and a client whose clock was moved away from its idle level while it was not selected.
abbrev Firsts : Type 0
Firsts =
    Runs 0 (enabled 32 0 ∷ words (165 ∷ []) ∷ []) (enabled 0 0 ∷ words (129 ∷ []) ∷ [])
    × Runs 16 (enabled 96 0 ∷ words (165 ∷ []) ∷ []) (enabled 192 0 ∷ words (129 ∷ []) ∷ (Pin false true true ∷ []) ∷ [])

-- What the page does not speak of: a run that is not refused, and of whose words it would be false.
unfoldable pub fails : Module → Module → Bool
fails host client =
    eqb (refusal_of host client 16) 0
    && not (all_judged (passed host client (host_ledger host client 16) (client_ledger host client 16)))

abbrev Fails : List (List Call) → List (List Call) → Type 0
Fails hosts clients = fails (after hosts) (after clients) ≡ true

-- A host two edges into its word (after one, the run's first call is that edge for the client), a client one edge into its word, DISSDO
-- at the host, DISSDO at the client.
abbrev Asked : Type 0
Asked =
    Fails (enabled 32 0 ∷ words (165 ∷ []) ∷ ticks 1 true false ∷ []) (enabled 0 0 ∷ words (129 ∷ []) ∷ [])
    × Fails (enabled 32 0 ∷ words (165 ∷ []) ∷ []) (enabled 0 0 ∷ words (129 ∷ []) ∷ (Pin true true false ∷ []) ∷ [])
    × Fails (enabled 2080 0 ∷ words (165 ∷ []) ∷ []) (enabled 0 0 ∷ words (129 ∷ []) ∷ [])
    × Fails (enabled 32 0 ∷ words (165 ∷ []) ∷ []) (enabled 2048 0 ∷ words (129 ∷ []) ∷ [])

-- Records that no calls reach: a host whose clock is not idle between words, and a client with CKE that does not show its top bit.
abbrev clock_away : Module → Module
clock_away m = record { settings = m.settings; engine = with_sck true m.engine }

abbrev top_away : Module → Module
top_away m = record { settings = m.settings; engine = with_sdo false m.engine }

abbrev Unreached : Type 0
Unreached =
    (fails (clock_away (after (enabled 32 0 ∷ words (165 ∷ []) ∷ []))) (after (enabled 0 0 ∷ words (129 ∷ []) ∷ [])) ≡ true)
    × (fails (after (enabled 288 0 ∷ words (165 ∷ []) ∷ [])) (top_away (after (enabled 384 0 ∷ words (129 ∷ []) ∷ []))) ≡ true)

pub runs_hold : Modes × Clients × Marks × Depths × Firsts × Asked × Unreached
unfolding shifted_in received_after shown_bit sdo_after progressed empty_transmit empty_receive first_waiting first_unread written departed appended taken overrun refuse answering powered_at word_taken read_buf read_of turns_on turns_off stat_written write_stat with_con1 with_con2 configured word_written write_buf write_of clock_step_of edge_told tick_of pins_of clear_of perform_of interrupt_of sck_of undriven sdo_of ss_of when◌then◌else◌ begun shifted advanced advanced_if_begun awaits_pulse under_way pulse_due pulse_after pulsed clocked edged stepped overflowed word_appended is_lost delivered sent_dropped freed finished raises noted word_leaves moved can_load loaded next_top sdo_at rested number_of bit_of weighed con1_from con1_value con2_from con2_value spitbf spirbf srxmpt srmpt at_most7 spibec stat_value stat_settings spirov_after stat_engine enabled_engine disabled_engine next select_remembered aborted select_seen level_read made_edge host_ticked client_sees run_stops one_more client_turn handed_over host_turn run_of refuse_link told_of linked_of link_said_of host_calls client_calls run_host_calls run_client_calls waiting unread contents opened left_to_send loses first_on_wire counted closed given judged passed paced exchanged holds spoken delivers fails
runs_hold = (
  (refl, refl, refl, refl, refl, refl, refl, refl),
  (refl, refl),
  (refl, refl),
  (refl, refl),
  (refl, refl),
  (refl, refl, refl, refl),
  (refl, refl),
)
