-- The definitions are run on document 01's figures.
--     examples_hold            its checked examples a to k and its worked script, as one list
--     further_examples_hold    examples of rules that those do not touch
--     frame_examples_hold      document 02, Three: frames
--     mark_examples_hold       document 02, Four: the mark of an overflow
--     step_examples_hold       document 02, Eleven: clock steps
--     depth_examples_hold      document 02, Twelve: depths of 4, 8 and 16 words
--     marked_holds, cut_to_width    a marked buffer in records made otherwise, and a word that waits
--     figures_hold, power_up_zero   the figures that the page reckons with, and power-up
-- Assumes nothing.
use Rattle.std.specs.Prelude.{◌∷◌, ◌++◌, ◌≡◌}
use Rattle.laws.proofs.Common.{true, false, [], List, refl, when◌then◌else◌}
use Rattle.ring.specs.Ring.{next, contents}
use Rattle.word_order.specs.Bits.{bit_of}
use Rattle.module_rules.proofs.Types.{Depth, Module, Read, Write, Tick}
use Rattle.module_rules.specs.Bits.{shifted_in, received_after, shown_bit, sdo_after, progressed}
use Rattle.module_rules.specs.Buffers.{waiting, empty_transmit, empty_receive, first_waiting, first_unread, written, departed, appended, taken, overrun}
use Rattle.module_rules.specs.Calls.{refuse, answering, powered_at, powered_up, power_up_of, word_taken, read_buf, read_of, turns_on, turns_off, stat_written, write_stat, with_con1, with_con2, configured, word_written, write_buf, write_of, clock_step_of, edge_told, tick_of, pins_of, clear_of, perform_of, interrupt_of, sck_of, undriven, sdo_of, ss_of}
use Rattle.module_rules.specs.Edge.{begun, shifted, advanced, advanced_if_begun, awaits_pulse, under_way, pulse_due, pulse_after, pulsed, clocked, edged, stepped}
use Rattle.module_rules.specs.Finish.{overflowed, word_appended, is_lost, delivered, sent_dropped, freed, finished}
use Rattle.module_rules.specs.Interrupts.{raises, noted}
use Rattle.module_rules.specs.Loading.{word_leaves, moved, can_load, loaded, next_top, sdo_at, rested}
use Rattle.module_rules.specs.Refusals.{number_of}
use Rattle.module_rules.specs.Registers.{weighed, con1_from, con1_value, con2_from, con2_value, spitbf, spirbf, srxmpt, srmpt, at_most7, spibec, stat_value, stat_settings, spirov_after, stat_engine, enabled_engine, disabled_engine}
use Rattle.module_rules.specs.Select.{select_remembered, aborted, select_seen}
use Rattle.module_rules.specs.Changes.{with_receive}
use Rattle.module_rules.specs.Demands.{Figures, AllZero}
use Rattle.module_rules.specs.Examples.{ExampleStep, says, ok, edge, value, refused, all_hold, after_steps, set_up, tick_edges, examples, further_examples, frame_examples, mark_examples, depth_examples, step_examples}

lists : (examples ≡ true) × (further_examples ≡ true) × (frame_examples ≡ true) × (mark_examples ≡ true) × (step_examples ≡ true)
    × (depth_examples ≡ true)
unfolding shifted_in received_after shown_bit sdo_after progressed empty_transmit empty_receive first_waiting first_unread written departed appended taken overrun refuse answering powered_at power_up_of word_taken read_buf read_of turns_on turns_off stat_written write_stat with_con1 with_con2 configured word_written write_buf write_of clock_step_of edge_told tick_of pins_of clear_of perform_of interrupt_of sck_of undriven sdo_of ss_of when◌then◌else◌ begun shifted advanced advanced_if_begun awaits_pulse under_way pulse_due pulse_after pulsed clocked edged stepped overflowed word_appended is_lost delivered sent_dropped freed finished raises noted word_leaves moved can_load loaded next_top sdo_at rested number_of bit_of weighed con1_from con1_value con2_from con2_value spitbf spirbf srxmpt srmpt at_most7 spibec stat_value stat_settings spirov_after stat_engine enabled_engine disabled_engine next select_remembered aborted select_seen
lists = (refl, refl, refl, refl, refl, refl)

-- A marked buffer with nothing unread, which no calls reach: a read is refused with 16, not with 6; and a word that is finished is lost.
abbrev marked : List ExampleStep → Module
marked steps =
    let m = after_steps powered_up steps in
    record { settings = m.settings; engine = with_receive (overrun true m.engine.receive) m.engine }

marked_holds :
    (all_hold (marked (set_up 0x0020 0x0001)) (says (Read 3) (refused 16) ∷ []) ≡ true)
    × (all_hold (marked (set_up 0x0020 0x0001 ++ (says (Write 3 0x00A5) ok ∷ tick_edges 15))) (says (Tick true false) edge ∷ says (Read 0) (value 0x80E0) ∷ []) ≡ true)
unfolding shifted_in received_after shown_bit sdo_after progressed empty_transmit empty_receive first_waiting first_unread written departed appended taken overrun refuse answering powered_at power_up_of word_taken read_buf read_of turns_on turns_off stat_written write_stat with_con1 with_con2 configured word_written write_buf write_of clock_step_of edge_told tick_of pins_of clear_of perform_of interrupt_of sck_of undriven sdo_of ss_of when◌then◌else◌ begun shifted advanced advanced_if_begun awaits_pulse under_way pulse_due pulse_after pulsed clocked edged stepped overflowed word_appended is_lost delivered sent_dropped freed finished raises noted word_leaves moved can_load loaded next_top sdo_at rested number_of bit_of weighed con1_from con1_value con2_from con2_value spitbf spirbf srxmpt srmpt at_most7 spibec stat_value stat_settings spirov_after stat_engine enabled_engine disabled_engine next select_remembered aborted select_seen
marked_holds = (refl, refl)

-- A word waits by the bits of its width alone.
cut_to_width : waiting 1 (after_steps powered_up (set_up 0x0020 0x0000 ++ (says (Write 3 0x0055) ok ∷ says (Write 3 0x015A) ok ∷ []))).engine.transmit ≡ 0x5A ∷ []
unfolding shifted_in received_after shown_bit sdo_after progressed empty_transmit empty_receive first_waiting first_unread written departed appended taken overrun refuse answering powered_at power_up_of word_taken read_buf read_of turns_on turns_off stat_written write_stat with_con1 with_con2 configured word_written write_buf write_of clock_step_of edge_told tick_of pins_of clear_of perform_of interrupt_of sck_of undriven sdo_of ss_of when◌then◌else◌ begun shifted advanced advanced_if_begun awaits_pulse under_way pulse_due pulse_after pulsed clocked edged stepped overflowed word_appended is_lost delivered sent_dropped freed finished raises noted word_leaves moved can_load loaded next_top sdo_at rested number_of bit_of weighed con1_from con1_value con2_from con2_value spitbf spirbf srxmpt srmpt at_most7 spibec stat_value stat_settings spirov_after stat_engine enabled_engine disabled_engine next select_remembered aborted select_seen waiting contents
cut_to_width = refl

-- The figures of the page, and power-up.
pub figures_hold : Figures
unfolding bit_of
figures_hold = record { bit = refl; spells = refl }

pub power_up_zero : (depth : Depth) → AllZero (powered_at depth)
unfolding shifted_in received_after shown_bit sdo_after progressed empty_transmit empty_receive first_waiting first_unread written departed appended taken overrun refuse answering powered_at word_taken read_buf read_of turns_on turns_off stat_written write_stat with_con1 with_con2 configured word_written write_buf write_of clock_step_of edge_told tick_of pins_of clear_of perform_of interrupt_of sck_of undriven sdo_of ss_of when◌then◌else◌ begun shifted advanced advanced_if_begun awaits_pulse under_way pulse_due pulse_after pulsed clocked edged stepped overflowed word_appended is_lost delivered sent_dropped freed finished raises noted word_leaves moved can_load loaded next_top sdo_at rested number_of bit_of weighed con1_from con1_value con2_from con2_value spitbf spirbf srxmpt srmpt at_most7 spibec stat_value stat_settings spirov_after stat_engine enabled_engine disabled_engine next select_remembered aborted select_seen
power_up_zero depth = record { stat = refl; con1 = refl; con2 = refl; flag = refl; sck = refl; ss = refl; sdo = refl }

-- Examples a to k and the worked script.
pub examples_hold : examples ≡ true
examples_hold = lists.0

-- SPIROV, CKE 1, select, flag, filler, registers and clocks.
pub further_examples_hold : further_examples ≡ true
further_examples_hold = lists.1

-- The framed pairings.
pub frame_examples_hold : frame_examples ≡ true
frame_examples_hold = lists.2

-- The mark of an overflow.
pub mark_examples_hold : mark_examples ≡ true
mark_examples_hold = lists.3

-- Clock steps.
pub step_examples_hold : step_examples ≡ true
step_examples_hold = lists.4

-- Depths.
pub depth_examples_hold : depth_examples ≡ true
depth_examples_hold = lists.5
