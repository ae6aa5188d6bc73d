-- The definitions are run on scripts.
--     script_examples_hold   scripts with what they print, the worked example of document 01 first
-- Assumes nothing.
use Rattle.std.specs.Prelude.{◌≡◌}
use Rattle.laws.proofs.Common.{true, refl, when◌then◌else◌}
use Rattle.ring.specs.Ring.{next}
use Rattle.word_order.specs.Bits.{bit_of}
use Rattle.module_rules.specs.Bits.{shifted_in, received_after, shown_bit, sdo_after, progressed}
use Rattle.module_rules.specs.Buffers.{empty_transmit, empty_receive, first_waiting, first_unread, written, departed, appended, taken, overrun}
use Rattle.module_rules.specs.Calls.{refuse, answering, powered_at, word_taken, read_buf, read_of, turns_on, turns_off, stat_written, write_stat, with_con1, with_con2, configured, word_written, write_buf, write_of, clock_step_of, edge_told, tick_of, pins_of, clear_of, perform_of, interrupt_of, sck_of, undriven, sdo_of, ss_of}
use Rattle.module_rules.specs.Edge.{begun, shifted, advanced, advanced_if_begun, awaits_pulse, under_way, pulse_due, pulse_after, pulsed, clocked, edged, stepped}
use Rattle.module_rules.specs.Finish.{overflowed, word_appended, is_lost, delivered, sent_dropped, freed, finished}
use Rattle.module_rules.specs.Interrupts.{raises, noted}
use Rattle.module_rules.specs.Loading.{word_leaves, moved, can_load, loaded, next_top, sdo_at, rested}
use Rattle.module_rules.specs.Refusals.{number_of}
use Rattle.module_rules.specs.Registers.{weighed, con1_from, con1_value, con2_from, con2_value, spitbf, spirbf, srxmpt, srmpt, at_most7, spibec, stat_value, stat_settings, spirov_after, stat_engine, enabled_engine, disabled_engine}
use Rattle.module_rules.specs.Select.{select_remembered, aborted, select_seen}
use Rattle.script_rules.specs.Script.{bytes, most_bytes, read_from, longer, lines_of, between, fits_place, has_form, write_form, read_form, tick_form, tick_ss_form, pin_form, clear_form, digit_value, hex_value, four_hex_value, level_value, reading_of, decimal_in, decimal_of, hex_of, four_hex_of, level_digit, sdo_letter, refused_text, ok_text, ss_text, pin_text, edge_text, done_text, answer_text, line_text, line_after, answer_line, answers_from, script_output}
use Rattle.script_rules.specs.ScriptExamples.{script_examples}

pub script_examples_hold : script_examples ≡ true
unfolding shifted_in received_after shown_bit sdo_after progressed empty_transmit empty_receive first_waiting first_unread written departed appended taken overrun refuse answering powered_at word_taken read_buf read_of turns_on turns_off stat_written write_stat with_con1 with_con2 configured word_written write_buf write_of clock_step_of edge_told tick_of pins_of clear_of perform_of interrupt_of sck_of undriven sdo_of ss_of when◌then◌else◌ begun shifted advanced advanced_if_begun awaits_pulse under_way pulse_due pulse_after pulsed clocked edged stepped overflowed word_appended is_lost delivered sent_dropped freed finished raises noted word_leaves moved can_load loaded next_top sdo_at rested number_of bit_of weighed con1_from con1_value con2_from con2_value spitbf spirbf srxmpt srmpt at_most7 spibec stat_value stat_settings spirov_after stat_engine enabled_engine disabled_engine next select_remembered aborted select_seen bytes most_bytes read_from longer lines_of between fits_place has_form write_form read_form tick_form tick_ss_form pin_form clear_form digit_value hex_value four_hex_value level_value reading_of decimal_in decimal_of hex_of four_hex_of level_digit sdo_letter refused_text ok_text ss_text pin_text edge_text done_text answer_text line_text line_after answer_line answers_from script_output
script_examples_hold = refl
