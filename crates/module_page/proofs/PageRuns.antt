-- The page holds at every call of these lists, each from power-up.
--     client_runs   clients with SSEN and without, and two words of a frame host
--     frame_runs    words of each end of a frame, one behind the other, with either FRMDLY and FRMPOL
--     step_runs     an idle host, and clock steps of every kind of module
--     host_runs     hosts of 8 and of 16 bits, one with DISSCK, clients of a frame, and what is refused
--     marked_run    the last edge of a word with a marked buffer that has room, in a record made otherwise
--     full_run      every condition of SISEL, a full buffer each way, and the mark
-- Assumes nothing.
use Rattle.std.specs.Prelude.{◌+◌, ◌∷◌, ◌≡◌}
use Rattle.laws.proofs.Common.{ℕ, Bool, true, false, not, List, [], refl, when◌then◌else◌}
use Rattle.ring.specs.Ring.{next, contents}
use Rattle.word_order.specs.Bits.{bit_of}
use Rattle.word_order.specs.Ledger.{opened, left_to_send, loses, first_on_wire, counted, closed, given}
use Rattle.module_rules.proofs.Types.{Module, Eight, Call, Read, Write, Tick, Pin, ClockStep, Clear}
use Rattle.module_rules.specs.Bits.{shifted_in, received_after, shown_bit, sdo_after, progressed}
use Rattle.module_rules.specs.Buffers.{waiting, unread, empty_transmit, empty_receive, first_waiting, first_unread, written, departed, appended, taken, overrun}
use Rattle.module_rules.specs.Calls.{refuse, answering, powered_at, word_taken, read_buf, read_of, turns_on, turns_off, stat_written, write_stat, with_con1, with_con2, configured, word_written, write_buf, write_of, clock_step_of, edge_told, tick_of, pins_of, clear_of, perform_of, interrupt_of, sck_of, undriven, sdo_of, ss_of}
use Rattle.module_rules.specs.Changes.{with_receive}
use Rattle.module_rules.specs.Lives.{power_up, life}
use Rattle.module_rules.specs.Edge.{begun, shifted, advanced, advanced_if_begun, awaits_pulse, under_way, pulse_due, pulse_after, pulsed, clocked, edged, stepped}
use Rattle.module_rules.specs.Finish.{overflowed, word_appended, is_lost, delivered, sent_dropped, freed, finished}
use Rattle.module_rules.specs.Interrupts.{raises, noted}
use Rattle.module_rules.specs.Loading.{word_leaves, moved, can_load, loaded, next_top, sdo_at, rested}
use Rattle.module_rules.specs.Refusals.{number_of}
use Rattle.module_rules.specs.Registers.{weighed, con1_from, con1_value, con2_from, con2_value, spitbf, spirbf, srxmpt, srmpt, at_most7, spibec, stat_value, stat_settings, spirov_after, stat_engine, enabled_engine, disabled_engine}
use Rattle.module_rules.specs.Select.{select_remembered, aborted, select_seen}
use Rattle.module_rules.proofs.Claims.{all_judged}
use Rattle.module_rules.proofs.PageRun.{unless, judged, told_of_lem, entered_as, seen_as, made, run, last_edges}
use Rattle.module_rules.proofs.PageHolds.{times, one_by_one, enabled, words, ticks, pins, Run}

abbrev own_gives : ℕ → List Call
own_gives con2 = one_by_one (enabled 32 (32768 + con2) ∷ ticks 1 true true ∷ words (165 ∷ 60 ∷ []) ∷ ticks 19 true false ∷ (Write 0 0 ∷ []) ∷ [])

abbrev pin_gives : ℕ → List Call
pin_gives con2 =
    one_by_one (enabled 4128 (32768 + con2) ∷ pins 1 true true ∷ words (165 ∷ []) ∷ pins 9 true false ∷ words (60 ∷ []) ∷ pins 3 false true ∷ [])

abbrev own_takes : ℕ → Bool → List Call
own_takes con2 ss =
    one_by_one (enabled 32 (49152 + con2) ∷ ticks 1 true (not ss) ∷ words (165 ∷ []) ∷ ticks 9 true ss ∷ ticks 2 true (not ss) ∷ [])

abbrev pin_takes : ℕ → Bool → List Call
pin_takes con2 ss =
    one_by_one
    (enabled 0 (49152 + con2)
    ∷ pins 1 true (not ss)
    ∷ pins 9 true ss
    ∷ words (165 ∷ [])
    ∷ pins 8 true (not ss)
    ∷ pins 1 true ss
    ∷ pins 3 true (not ss)
    ∷ (Read 3 ∷ [])
    ∷ [])

frame_runs :
    Run (own_gives 0) × Run (own_gives 2) × Run (own_gives 8192) × Run (own_gives 8194) × Run (pin_gives 0) × Run (pin_gives 2) × Run (pin_gives 8192)
    × Run (pin_gives 8194)
    × Run (own_takes 0 false) × Run (own_takes 2 false) × Run (own_takes 8192 true) × Run (own_takes 8194 true) × Run (pin_takes 0 false)
    × Run (pin_takes 2 false) × Run (pin_takes 8192 true) × Run (pin_takes 8194 true)
unfolding shifted_in received_after shown_bit sdo_after progressed empty_transmit empty_receive first_waiting first_unread written departed appended taken overrun refuse answering powered_at word_taken read_buf read_of turns_on turns_off stat_written write_stat with_con1 with_con2 configured word_written write_buf write_of clock_step_of edge_told tick_of pins_of clear_of perform_of interrupt_of sck_of undriven sdo_of ss_of when◌then◌else◌ begun shifted advanced advanced_if_begun awaits_pulse under_way pulse_due pulse_after pulsed clocked edged stepped overflowed word_appended is_lost delivered sent_dropped freed finished raises noted word_leaves moved can_load loaded next_top sdo_at rested number_of bit_of weighed con1_from con1_value con2_from con2_value spitbf spirbf srxmpt srmpt at_most7 spibec stat_value stat_settings spirov_after stat_engine enabled_engine disabled_engine next select_remembered aborted select_seen opened left_to_send loses first_on_wire counted closed given unless judged told_of_lem entered_as seen_as made run waiting unread contents
frame_runs = (refl, refl, refl, refl, refl, refl, refl, refl, refl, refl, refl, refl, refl, refl, refl, refl)

-- SISEL 6, a word passes through the buffer; 7, the eighth waits; 4, one leaves with seven left; 5, a finish with words left; 1, an
-- append; 2, the sixth; 3, the eighth, and the ninth word is lost; the mark stops reads; disabled and enabled, 5, nothing is left to
-- send; 0, a read empties it.
abbrev full : List Call
full =
    one_by_one
    ((Write 2 1 ∷ Write 1 32 ∷ Write 0 32792 ∷ Write 3 1 ∷ Clear ∷ Write 0 32796 ∷ [])
    ∷ words (2 ∷ 3 ∷ 4 ∷ 5 ∷ 6 ∷ 7 ∷ 8 ∷ 9 ∷ 10 ∷ [])
    ∷ (Write 0 32784 ∷ Clear ∷ [])
    ∷ ticks 8 true true
    ∷ (Clear ∷ Write 0 32788 ∷ [])
    ∷ ticks 8 false true
    ∷ (Write 0 32772 ∷ [])
    ∷ ticks 8 true false
    ∷ (Clear ∷ Write 0 32776 ∷ [])
    ∷ ticks 24 true false
    ∷ (Clear ∷ Write 0 32780 ∷ [])
    ∷ ticks 16 true true
    ∷ (Clear ∷ [])
    ∷ ticks 8 true true
    ∷ (Read 3 ∷ Write 0 32832 ∷ Read 3 ∷ Write 0 64 ∷ Write 0 32852 ∷ Write 3 7 ∷ [])
    ∷ ticks 8 true true
    ∷ (Clear ∷ Write 0 32832 ∷ Read 3 ∷ Read 3 ∷ [])
    ∷ [])

full_run : Run full
unfolding shifted_in received_after shown_bit sdo_after progressed empty_transmit empty_receive first_waiting first_unread written departed appended taken overrun refuse answering powered_at word_taken read_buf read_of turns_on turns_off stat_written write_stat with_con1 with_con2 configured word_written write_buf write_of clock_step_of edge_told tick_of pins_of clear_of perform_of interrupt_of sck_of undriven sdo_of ss_of when◌then◌else◌ begun shifted advanced advanced_if_begun awaits_pulse under_way pulse_due pulse_after pulsed clocked edged stepped overflowed word_appended is_lost delivered sent_dropped freed finished raises noted word_leaves moved can_load loaded next_top sdo_at rested number_of bit_of weighed con1_from con1_value con2_from con2_value spitbf spirbf srxmpt srmpt at_most7 spibec stat_value stat_settings spirov_after stat_engine enabled_engine disabled_engine next select_remembered aborted select_seen opened left_to_send loses first_on_wire counted closed given unless judged told_of_lem entered_as seen_as made run waiting unread contents
full_run = refl

-- A client with SSEN, of 8 bits without CKE and of 16 with it: select high and low, a word taken back, a filler, edges while not selected.
abbrev selected : List Call
selected =
    one_by_one
    (enabled 128 1
    ∷ pins 1 true true
    ∷ words (165 ∷ 60 ∷ [])
    ∷ (Pin true true false ∷ Pin true true true ∷ Pin false true true ∷ Pin false true false ∷ [])
    ∷ pins 3 true false
    ∷ (Pin true true false ∷ Pin true true true ∷ Pin false true true ∷ Pin false true false ∷ [])
    ∷ pins 17 false false
    ∷ (Pin true true true ∷ Pin false true false ∷ Read 3 ∷ Read 3 ∷ Read 3 ∷ Read 0 ∷ [])
    ∷ [])

abbrev selected_wide : List Call
selected_wide =
    one_by_one
    (enabled 1408 0
    ∷ words (32769 ∷ 40960 ∷ [])
    ∷ (Pin false false false ∷ [])
    ∷ pins 2 true false
    ∷ (Pin true true true ∷ Pin false true true ∷ Pin false true false ∷ [])
    ∷ pins 18 true false
    ∷ (Read 3 ∷ Pin true true true ∷ Read 0 ∷ [])
    ∷ [])

-- A client without SSEN: a filler, a word written within it, and an edge to the idle level before the first word.
abbrev client : List Call
client = one_by_one (enabled 0 1 ∷ pins 2 true true ∷ words (129 ∷ []) ∷ pins 16 true false ∷ (Read 3 ∷ Read 0 ∷ []) ∷ [])

-- A client with CKP: an edge to the idle level before the first word begins nothing.
abbrev client_late : List Call
client_late =
    one_by_one
    ((Write 1 64 ∷ Write 0 32768 ∷ Pin true false false ∷ Pin false false false ∷ []) ∷ pins 1 true true ∷ words (129 ∷ []) ∷ pins 1 false true ∷ [])

-- Two words of a frame host, one behind the other.
abbrev twice : List Call
twice = one_by_one (enabled 32 32768 ∷ words (165 ∷ 60 ∷ []) ∷ ticks 18 true false ∷ [])

client_runs : Run selected × Run selected_wide × Run client × Run client_late × Run twice
unfolding shifted_in received_after shown_bit sdo_after progressed empty_transmit empty_receive first_waiting first_unread written departed appended taken overrun refuse answering powered_at word_taken read_buf read_of turns_on turns_off stat_written write_stat with_con1 with_con2 configured word_written write_buf write_of clock_step_of edge_told tick_of pins_of clear_of perform_of interrupt_of sck_of undriven sdo_of ss_of when◌then◌else◌ begun shifted advanced advanced_if_begun awaits_pulse under_way pulse_due pulse_after pulsed clocked edged stepped overflowed word_appended is_lost delivered sent_dropped freed finished raises noted word_leaves moved can_load loaded next_top sdo_at rested number_of bit_of weighed con1_from con1_value con2_from con2_value spitbf spirbf srxmpt srmpt at_most7 spibec stat_value stat_settings spirov_after stat_engine enabled_engine disabled_engine next select_remembered aborted select_seen opened left_to_send loses first_on_wire counted closed given unless judged told_of_lem entered_as seen_as made run waiting unread contents
client_runs = (refl, refl, refl, refl, refl)

-- An idle host with CKP and without CKE: no tick makes an edge until a word is written.
abbrev idle : List Call
idle = one_by_one (enabled 96 0 ∷ ticks 1 true true ∷ words (165 ∷ []) ∷ ticks 1 true true ∷ [])

-- Document 02, Eleven: so many clock steps with SCK at one level throughout, which counts for no host with its own clock; and clocks of
-- them, from the idle level 0.
abbrev steps : ℕ → Bool → Bool → Bool → List Call
steps n sck sdi ss = times n (ClockStep sck sdi ss ∷ [])

abbrev step_clocks : ℕ → Bool → Bool → List Call
step_clocks n sdi ss = times n (ClockStep true sdi ss ∷ ClockStep false sdi ss ∷ [])

-- Disabled, then a host with its own clock: idle, a word by steps and ticks, and idle again.
abbrev own_steps : List Call
own_steps =
    one_by_one
    ((ClockStep true true true ∷ [])
    ∷ enabled 32 0
    ∷ steps 2 true true true
    ∷ words (165 ∷ [])
    ∷ steps 3 true true true
    ∷ steps 2 false false false
    ∷ (Tick true true ∷ Pin true true true ∷ [])
    ∷ steps 11 true false true
    ∷ (Read 3 ∷ [])
    ∷ [])

-- A host under DISSCK, a client without SSEN and one with it: steps, a pin call and a tick, with levels that stay, and with select high.
abbrev pin_steps : ℕ → ℕ → List Call
pin_steps con1 con2 =
    one_by_one
    ((ClockStep true true true ∷ [])
    ∷ enabled con1 con2
    ∷ step_clocks 1 true true
    ∷ words (165 ∷ [])
    ∷ step_clocks 2 true false
    ∷ (ClockStep false true false ∷ ClockStep true true false ∷ ClockStep true true true ∷ Pin false true true ∷ Tick true true ∷ [])
    ∷ [])

-- Both ends of a frame with a clock of its own, and a frame client that is clocked from its pin.
abbrev step_gives : ℕ → List Call
step_gives con2 = one_by_one (enabled 32 (32768 + con2) ∷ steps 2 true true true ∷ words (165 ∷ []) ∷ steps 5 false true false ∷ [])

abbrev step_takes : ℕ → ℕ → Bool → List Call
step_takes con1 con2 ss =
    one_by_one
    (enabled con1 (49152 + con2)
    ∷ step_clocks 1 true (not ss)
    ∷ words (165 ∷ [])
    ∷ step_clocks 1 true ss
    ∷ step_clocks 1 true (not ss)
    ∷ [])

step_runs :
    Run idle × Run own_steps × Run (pin_steps 4128 0) × Run (pin_steps 0 1) × Run (pin_steps 128 0) × Run (step_gives 8192) × Run (step_takes 32 8192 true)
    × Run (step_takes 0 0 false)
unfolding shifted_in received_after shown_bit sdo_after progressed empty_transmit empty_receive first_waiting first_unread written departed appended taken overrun refuse answering powered_at word_taken read_buf read_of turns_on turns_off stat_written write_stat with_con1 with_con2 configured word_written write_buf write_of clock_step_of edge_told tick_of pins_of clear_of perform_of interrupt_of sck_of undriven sdo_of ss_of when◌then◌else◌ begun shifted advanced advanced_if_begun awaits_pulse under_way pulse_due pulse_after pulsed clocked edged stepped overflowed word_appended is_lost delivered sent_dropped freed finished raises noted word_leaves moved can_load loaded next_top sdo_at rested number_of bit_of weighed con1_from con1_value con2_from con2_value spitbf spirbf srxmpt srmpt at_most7 spibec stat_value stat_settings spirov_after stat_engine enabled_engine disabled_engine next select_remembered aborted select_seen opened left_to_send loses first_on_wire counted closed given unless judged told_of_lem entered_as seen_as made run waiting unread contents
step_runs = (refl, refl, refl, refl, refl, refl, refl, refl)

-- A host of 8 bits: two words, a third refused, an overflow, reads of an empty buffer, disabled within a word, and enabled again.
abbrev host : List Call
host =
    one_by_one
    (enabled 32 0
    ∷ words (346 ∷ 165 ∷ 1 ∷ [])
    ∷ ticks 16 true false
    ∷ (Read 0 ∷ Read 3 ∷ Read 3 ∷ Tick true false ∷ Clear ∷ Write 3 255 ∷ [])
    ∷ ticks 2 false true
    ∷ (Tick true true ∷ Write 0 8256 ∷ Read 3 ∷ Tick true true ∷ Write 0 0 ∷ Write 0 32768 ∷ Tick true true ∷ [])
    ∷ [])

-- A host of 16 bits with CKP and CKE, enhanced: idle ticks, a word, the next one written within it.
abbrev wide : List Call
wide =
    one_by_one
    (enabled 1376 1
    ∷ (Tick true true ∷ [])
    ∷ words (33023 ∷ [])
    ∷ ticks 3 true true
    ∷ words (257 ∷ 32769 ∷ [])
    ∷ ticks 14 true false
    ∷ ticks 2 false false
    ∷ (Read 0 ∷ Read 3 ∷ [])
    ∷ [])

-- A host with DISSCK, clocked while it is idle, then with a word.
abbrev pinned : List Call
pinned = one_by_one (enabled 4128 0 ∷ pins 8 true true ∷ (Read 3 ∷ Tick true true ∷ []) ∷ words (195 ∷ []) ∷ pins 2 true true ∷ [])

-- A frame client clocked from its pin; and one with FRMPOL, with CKE and SSEN set, which count as 0.
abbrev taking : List Call
taking = one_by_one (enabled 0 49152 ∷ pins 1 true true ∷ pins 2 true false ∷ words (165 ∷ []) ∷ pins 1 true true ∷ [])

abbrev heedless : List Call
heedless = one_by_one (enabled 384 57344 ∷ words (165 ∷ []) ∷ pins 2 true true ∷ pins 1 true false ∷ [])

-- Settings that cannot be enabled, registers written while enabled, registers that are not there, and the wrong clock.
abbrev refused : List Call
refused =
    one_by_one
    ((Write 4 1 ∷ Read 9 ∷ Read 3 ∷ Write 3 7 ∷ Tick true true ∷ Pin true true true ∷ [])
    ∷ (Write 1 63 ∷ Write 0 32796 ∷ Write 1 544 ∷ Write 0 40960 ∷ Write 1 256 ∷ Write 0 32768 ∷ Read 0 ∷ [])
    ∷ (Write 1 65535 ∷ Write 2 65535 ∷ Read 1 ∷ Read 2 ∷ Write 0 65535 ∷ [])
    ∷ (Write 1 59 ∷ Write 2 1 ∷ Write 0 65535 ∷ Read 0 ∷ Write 1 0 ∷ Write 2 0 ∷ Pin true true true ∷ Write 0 0 ∷ [])
    ∷ (Write 1 0 ∷ Write 0 32768 ∷ Tick true true ∷ [])
    ∷ [])

host_runs : Run host × Run wide × Run pinned × Run taking × Run heedless × Run refused
unfolding shifted_in received_after shown_bit sdo_after progressed empty_transmit empty_receive first_waiting first_unread written departed appended taken overrun refuse answering powered_at word_taken read_buf read_of turns_on turns_off stat_written write_stat with_con1 with_con2 configured word_written write_buf write_of clock_step_of edge_told tick_of pins_of clear_of perform_of interrupt_of sck_of undriven sdo_of ss_of when◌then◌else◌ begun shifted advanced advanced_if_begun awaits_pulse under_way pulse_due pulse_after pulsed clocked edged stepped overflowed word_appended is_lost delivered sent_dropped freed finished raises noted word_leaves moved can_load loaded next_top sdo_at rested number_of bit_of weighed con1_from con1_value con2_from con2_value spitbf spirbf srxmpt srmpt at_most7 spibec stat_value stat_settings spirov_after stat_engine enabled_engine disabled_engine next select_remembered aborted select_seen opened left_to_send loses first_on_wire counted closed given unless judged told_of_lem entered_as seen_as made run waiting unread contents
host_runs = (refl, refl, refl, refl, refl, refl)

-- A marked buffer with room, which no calls reach, before the last edge of a word: the word is dropped.
abbrev marked : Module → Module
marked m = record { settings = m.settings; engine = with_receive (overrun true m.engine.receive) m.engine }

abbrev nearly_done : Module
nearly_done = marked (life (power_up Eight) (one_by_one (enabled 32 1 ∷ words (165 ∷ []) ∷ ticks 7 true true ∷ (Tick true true ∷ []) ∷ []))).now

marked_run : all_judged (last_edges nearly_done (perform_of nearly_done (Tick true true)).after) ≡ true
unfolding shifted_in received_after shown_bit sdo_after progressed empty_transmit empty_receive first_waiting first_unread written departed appended taken overrun refuse answering powered_at word_taken read_buf read_of turns_on turns_off stat_written write_stat with_con1 with_con2 configured word_written write_buf write_of clock_step_of edge_told tick_of pins_of clear_of perform_of interrupt_of sck_of undriven sdo_of ss_of when◌then◌else◌ begun shifted advanced advanced_if_begun awaits_pulse under_way pulse_due pulse_after pulsed clocked edged stepped overflowed word_appended is_lost delivered sent_dropped freed finished raises noted word_leaves moved can_load loaded next_top sdo_at rested number_of bit_of weighed con1_from con1_value con2_from con2_value spitbf spirbf srxmpt srmpt at_most7 spibec stat_value stat_settings spirov_after stat_engine enabled_engine disabled_engine next select_remembered aborted select_seen opened left_to_send loses first_on_wire counted closed given unless judged told_of_lem entered_as seen_as made run waiting unread contents
marked_run = refl
