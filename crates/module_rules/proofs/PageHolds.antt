-- The page holds at every call of a short list (proofs/PageRun.antt) from power-up: a wrong page that it tells apart is seen to be false of the rules.
-- Lists of every kind of module run in crates/module_page.
--     short_run        a word of a host
--     hypotheses_met   no hypothesis of the page is empty
-- Assumes nothing.
use Rattle.std.specs.Prelude.{◌∷◌, ◌++◌, ◌≡◌}
use Rattle.laws.proofs.Common.{ℕ, zero, suc, Bool, true, false, List, [], refl, when◌then◌else◌}
use Rattle.ring.specs.Ring.{next, contents}
use Rattle.word_order.specs.Bits.{bit_of}
use Rattle.word_order.specs.Ledger.{is_quiet, opened, left_to_send, loses, first_on_wire, counted, closed, given, unsent}
use Rattle.module_rules.proofs.Types.{Settings, Call, Read, Write, Tick, Pin, Eight}
use Rattle.module_rules.specs.Bits.{shifted_in, received_after, shown_bit, sdo_after, progressed}
use Rattle.module_rules.specs.Buffers.{waiting, unread, empty_transmit, empty_receive, first_waiting, first_unread, written, departed, appended, taken, overrun}
use Rattle.module_rules.specs.Calls.{refuse, answering, powered_at, word_taken, read_buf, read_of, turns_on, turns_off, stat_written, write_stat, with_con1, with_con2, configured, word_written, write_buf, write_of, clock_step_of, edge_told, tick_of, pins_of, clear_of, perform_of, interrupt_of, sck_of, undriven, sdo_of, ss_of}
use Rattle.module_rules.specs.Edge.{begun, shifted, advanced, advanced_if_begun, awaits_pulse, under_way, pulse_due, pulse_after, pulsed, clocked, edged, stepped}
use Rattle.module_rules.specs.Finish.{overflowed, word_appended, is_lost, delivered, sent_dropped, freed, finished}
use Rattle.module_rules.specs.Interrupts.{raises, noted}
use Rattle.module_rules.specs.Loading.{word_leaves, moved, can_load, loaded, next_top, sdo_at, rested}
use Rattle.module_rules.specs.Refusals.{number_of}
use Rattle.module_rules.specs.Registers.{weighed, con1_from, con1_value, con2_from, con2_value, spitbf, spirbf, srxmpt, srmpt, at_most7, spibec, stat_value, stat_settings, spirov_after, stat_engine, enabled_engine, disabled_engine}
use Rattle.module_rules.specs.Select.{select_remembered, aborted, select_seen}
use Rattle.module_rules.specs.Lives.{power_up, begins, life}
use Rattle.module_rules.specs.InBits.{stops_between_words, gives_pulses, takes_pulses}
use Rattle.module_rules.proofs.PageRun.{unless, judged, told_of_lem, entered_as, seen_as, made, run}

-- So many times over, and lists behind one another.
abbrev pub times : ℕ → List Call → List Call
times zero cs = []
times (suc n) cs = cs ++ times n cs

abbrev pub one_by_one : List (List Call) → List Call
one_by_one [] = []
one_by_one (cs ∷ rest) = cs ++ one_by_one rest

-- CON1 and CON2 written, the module enabled, and words written.
abbrev pub enabled : ℕ → ℕ → List Call
enabled con1 con2 = Write 1 con1 ∷ Write 2 con2 ∷ Write 0 32832 ∷ []

abbrev pub words : List ℕ → List Call
words [] = []
words (w ∷ ws) = Write 3 w ∷ words ws

-- So many clocks of ticks, or of pin calls from the idle level 0, with these levels of SDI and SS.
abbrev pub ticks : ℕ → Bool → Bool → List Call
ticks n sdi ss = times n (Tick sdi ss ∷ Tick sdi ss ∷ [])

abbrev pub pins : ℕ → Bool → Bool → List Call
pins n sdi ss = times n (Pin true sdi ss ∷ Pin false sdi ss ∷ [])

-- A word of a host, to its last edge and beyond, and a register that is not there.
abbrev short : List Call
short = one_by_one (enabled 32 0 ∷ words (165 ∷ []) ∷ ticks 8 true true ∷ (Tick true true ∷ Read 3 ∷ Write 4 1 ∷ []) ∷ [])

-- The page holds at every call of these lists, each from power-up.
abbrev pub Run : List Call → Type 0
Run cs = run cs (begins (power_up Eight)) ≡ true

short_run : Run short
unfolding shifted_in received_after shown_bit sdo_after progressed empty_transmit empty_receive first_waiting first_unread written departed appended taken overrun refuse answering powered_at word_taken read_buf read_of turns_on turns_off stat_written write_stat with_con1 with_con2 configured word_written write_buf write_of clock_step_of edge_told tick_of pins_of clear_of perform_of interrupt_of sck_of undriven sdo_of ss_of when◌then◌else◌ begun shifted advanced advanced_if_begun awaits_pulse under_way pulse_due pulse_after pulsed clocked edged stepped overflowed word_appended is_lost delivered sent_dropped freed finished raises noted word_leaves moved can_load loaded next_top sdo_at rested number_of bit_of weighed con1_from con1_value con2_from con2_value spitbf spirbf srxmpt srmpt at_most7 spibec stat_value stat_settings spirov_after stat_engine enabled_engine disabled_engine next select_remembered aborted select_seen opened left_to_send loses first_on_wire counted closed given unless judged told_of_lem entered_as seen_as made run waiting unread contents
short_run = refl

-- No hypothesis of the page is empty: each is met after these calls.
abbrev settings_after : List Call → Settings
settings_after cs = (life (power_up Eight) cs).now.settings

hypotheses_met :
    -- an enabled host without FRMEN and with its own clock
    ((settings_after (enabled 32 0)).spien ≡ true) × (stops_between_words (settings_after (enabled 32 0)) ≡ true)
    -- an enabled frame host and an enabled frame client
    × ((settings_after (enabled 32 32768)).spien ≡ true) × (gives_pulses (settings_after (enabled 32 32768)) ≡ true)
    × ((settings_after (enabled 0 49152)).spien ≡ true) × (takes_pulses (settings_after (enabled 0 49152)) ≡ true)
    -- a client without SSEN and without FRMEN, with nothing on the wire and nothing to send
    × ((settings_after (enabled 0 0)).spien ≡ true) × ((settings_after (enabled 0 0)).con1.msten ≡ false)
    × ((settings_after (enabled 0 0)).con1.ssen ≡ false) × ((settings_after (enabled 0 0)).con2.frmen ≡ false)
    × (is_quiet (life (power_up Eight) (enabled 0 0)).ledger.wire ≡ true) × (unsent (life (power_up Eight) (enabled 0 0)).ledger ≡ 0)
unfolding shifted_in received_after shown_bit sdo_after progressed empty_transmit empty_receive first_waiting first_unread written departed appended taken overrun refuse answering powered_at word_taken read_buf read_of turns_on turns_off stat_written write_stat with_con1 with_con2 configured word_written write_buf write_of clock_step_of edge_told tick_of pins_of clear_of perform_of interrupt_of sck_of undriven sdo_of ss_of when◌then◌else◌ begun shifted advanced advanced_if_begun awaits_pulse under_way pulse_due pulse_after pulsed clocked edged stepped overflowed word_appended is_lost delivered sent_dropped freed finished raises noted word_leaves moved can_load loaded next_top sdo_at rested number_of bit_of weighed con1_from con1_value con2_from con2_value spitbf spirbf srxmpt srmpt at_most7 spibec stat_value stat_settings spirov_after stat_engine enabled_engine disabled_engine next select_remembered aborted select_seen opened left_to_send loses first_on_wire counted closed given unless judged told_of_lem entered_as seen_as made run waiting unread contents
hypotheses_met = (refl, refl, refl, refl, refl, refl, refl, refl, refl, refl, refl, refl)
