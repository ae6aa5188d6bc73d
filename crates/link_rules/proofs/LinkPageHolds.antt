-- The page of linked runs, run: its statements at these runs, each of two modules that calls reach from power-up.
--     judged        what both ends show after a run, beside what their lists of calls lead to, and the edges used
--     page_judges   it follows from the page: a run of which it is false refutes the page
--     runs_hold     it is true of these runs
-- Assumes nothing.
use Rattle.std.specs.Prelude.{◌&&◌, ◌∷◌, ◌++◌, ◌≡◌}
use Rattle.laws.proofs.Common.{ℕ, Bool, true, false, List, [], refl, sym, ap, ◌∙◌, eq-eqb, eqb, length}
use Rattle.laws.proofs.Common.{when◌then◌else◌, and_both}
use mir.Val.{bool_byte}
use Rattle.ring.specs.Ring.{next, contents}
use Rattle.word_order.specs.Bits.{bit_of}
use Rattle.word_order.specs.Ledger.{opened}
use Rattle.module_rules.proofs.Types.{Module, Call, Read, Write, Tick, Pin, Eight}
use Rattle.module_rules.specs.Bits.{shifted_in, received_after, shown_bit, sdo_after, progressed}
use Rattle.module_rules.specs.Buffers.{waiting, unread, empty_transmit, empty_receive, first_waiting, first_unread, written, departed, appended, taken, overrun}
use Rattle.module_rules.specs.Calls.{after_calls, refuse, answering, powered_at, word_taken, read_buf, read_of, turns_on, turns_off, stat_written, write_stat, with_con1, with_con2, configured, word_written, write_buf, write_of, clock_step_of, edge_told, tick_of, pins_of, clear_of, perform_of, interrupt_of, sck_of, undriven, sdo_of, ss_of}
use Rattle.module_rules.specs.Edge.{begun, shifted, advanced, advanced_if_begun, awaits_pulse, under_way, pulse_due, pulse_after, pulsed, clocked, edged, stepped}
use Rattle.module_rules.specs.Finish.{overflowed, word_appended, is_lost, delivered, sent_dropped, freed, finished}
use Rattle.module_rules.specs.Interrupts.{raises, noted}
use Rattle.module_rules.specs.Loading.{word_leaves, moved, can_load, loaded, next_top, sdo_at, rested}
use Rattle.module_rules.specs.Refusals.{number_of, said_of}
use Rattle.module_rules.specs.Registers.{weighed, con1_from, con1_value, con2_from, con2_value, spitbf, spirbf, srxmpt, srmpt, at_most7, spibec, stat_value, stat_settings, spirov_after, stat_engine, enabled_engine, disabled_engine}
use Rattle.module_rules.specs.Select.{select_remembered, aborted, select_seen}
use Rattle.module_rules.specs.Words.{unread_in, owed_words}
use Rattle.module_rules.specs.Demands.{edges_made}
use Rattle.module_rules.specs.Watch.{Watched, watched_call, watched_calls}
use Rattle.module_rules.specs.Lives.{power_up, begins, life}
use Rattle.module_rules.proofs.Claims.{numbers, same_numbers, judge_exact}
use Rattle.link_rules.specs.declared.Linked.{Linked}
use Rattle.link_rules.specs.Link.{level_read, made_edge, host_ticked, client_sees, run_stops, one_more, client_turn, handed_over, host_turn, run_of, refuse_link, told_of, linked_of, link_said_of}
use Rattle.link_rules.specs.LinkDemands.{host_calls, client_calls, run_host_calls, run_client_calls, refusal_of, edges_used, LinkedRuns}

-- Calls behind calls.
pub life_goes_on : (x : Watched) (cs ds : List Call) → after_calls (watched_calls x cs).now ds ≡ (watched_calls x (cs ++ ds)).now
life_goes_on x [] [] = refl
life_goes_on x [] (d ∷ ds) = life_goes_on (watched_call x d) [] ds
life_goes_on x (c ∷ cs) ds = life_goes_on (watched_call x c) cs ds

-- What a module shows: its registers, levels and flag, and its words.
unfoldable pub shows : Module → List ℕ
shows m =
    (said_of (perform_of m (Read 0)).answer).value
    ∷ (said_of (perform_of m (Read 1)).answer).value
    ∷ (said_of (perform_of m (Read 2)).answer).value
    ∷ bool_byte (sck_of m)
    ∷ bool_byte m.engine.pins.ss
    ∷ bool_byte m.engine.pins.sdo
    ∷ bool_byte (interrupt_of m)
    ∷ length (unread_in m)
    ∷ (unread_in m ++ owed_words m)

-- A run beside its lists of calls.
unfoldable pub judged : Module → Module → ℕ → Linked → List Call → List Call → Bool
judged host client used l hosts clients =
    same_numbers (shows l.host) (shows (after_calls host hosts))
    && (same_numbers (shows l.client) (shows (after_calls client clients))
    && (eqb (link_said_of l.answer).edges (edges_made host hosts) && eqb (link_said_of l.answer).edges used))

-- CON1 written, the module enabled, and a word written.
abbrev ready : ℕ → ℕ → List Call → List Call
ready con1 word more = Write 1 con1 ∷ Write 0 32768 ∷ Write 3 word ∷ more

unfoldable pub runs : ℕ → ℕ → Module → Module → Bool
runs limit used host client =
    judged host client used (linked_of host client limit) (run_host_calls host client limit) (run_client_calls host client limit)

abbrev pub Runs : List Call → List Call → ℕ → ℕ → Type 0
Runs hosts clients limit used = runs limit used (life (power_up Eight) hosts).now (life (power_up Eight) clients).now ≡ true

-- The page gives it, with the edges that it tells.
pub page_judges : LinkedRuns → (hosts clients : List Call) (limit : ℕ) →
    refusal_of (life (power_up Eight) hosts).now (life (power_up Eight) clients).now limit ≡ 0 →
    Runs hosts clients limit (edges_used (life (power_up Eight) hosts).now (life (power_up Eight) clients).now limit)
unfolding runs judged
page_judges p hosts clients limit made =
    let host : Module = (life (power_up Eight) hosts).now in
    let client : Module = (life (power_up Eight) clients).now in
    let same : (m n : Module) → m ≡ n → same_numbers (shows m) (shows n) ≡ true =
    λ m n e. (judge_exact (numbers (shows m) (shows n))).1 (ap shows e) in
    and_both _ _ (same _ _ (p.host_lives (power_up Eight) (power_up Eight) hosts clients limit made ∙ sym (life_goes_on (begins (power_up Eight)) hosts _)))
    (and_both _ _ (same _ _ (p.client_lives (power_up Eight) (power_up Eight) hosts clients limit made ∙ sym (life_goes_on (begins (power_up Eight)) clients _)))
    (and_both _ _ (eq-eqb (edges_used host client limit) (edges_made host (run_host_calls host client limit)) (p.counts_edges host client limit made)) (eq-eqb (edges_used host client limit) (edges_used host client limit) refl)))

-- A host and a client; DISSDO at the host, whose bits the client reads as 0; DISSDO at the client; 16 bits with CKE and select high
-- before the run, so that its first call selects; and both within a word, so that the first call is an edge for the client.
runs_hold :
    Runs (ready 32 165 []) (ready 0 60 []) 288 16
    × Runs (ready 2080 165 []) (ready 0 60 []) 16 16
    × Runs (ready 32 165 []) (ready 2048 60 []) 16 16
    × Runs (ready 1376 42405 []) (ready 1472 33023 []) 288 32
    × Runs (ready 32 165 (Tick true false ∷ Tick true false ∷ [])) (ready 0 60 (Pin true true false ∷ [])) 5 5
unfolding shifted_in received_after shown_bit sdo_after progressed empty_transmit empty_receive first_waiting first_unread written departed appended taken overrun refuse answering powered_at word_taken read_buf read_of turns_on turns_off stat_written write_stat with_con1 with_con2 configured word_written write_buf write_of clock_step_of edge_told tick_of pins_of clear_of perform_of interrupt_of sck_of undriven sdo_of ss_of when◌then◌else◌ begun shifted advanced advanced_if_begun awaits_pulse under_way pulse_due pulse_after pulsed clocked edged stepped overflowed word_appended is_lost delivered sent_dropped freed finished raises noted word_leaves moved can_load loaded next_top sdo_at rested number_of bit_of weighed con1_from con1_value con2_from con2_value spitbf spirbf srxmpt srmpt at_most7 spibec stat_value stat_settings spirov_after stat_engine enabled_engine disabled_engine next select_remembered aborted select_seen level_read made_edge host_ticked client_sees run_stops one_more client_turn handed_over host_turn run_of refuse_link told_of linked_of link_said_of host_calls client_calls run_host_calls run_client_calls shows judged runs waiting unread contents opened
runs_hold = (refl, refl, refl, refl, refl)
