-- The definitions are run on trace files.
--     trace_examples_hold   files with what they answer and what they leave
-- Assumes nothing.
use Rattle.std.specs.Prelude.{◌≡◌}
use Rattle.laws.proofs.Common.{true, refl, when◌then◌else◌}
use Rattle.ring.specs.Ring.{next}
use Rattle.word_order.specs.Bits.{bit_of}
use Rattle.module_rules.specs.Bits.{shifted_in, received_after, shown_bit, sdo_after, progressed}
use Rattle.module_rules.specs.Buffers.{empty_transmit, empty_receive, first_waiting, first_unread, written, departed, appended, taken, overrun}
use Rattle.module_rules.specs.Calls.{refuse, answering, powered_at, word_taken, read_buf, read_of, turns_on, turns_off, stat_written, write_stat, with_con1, with_con2, configured, word_written, write_buf, write_of, clock_step_of, edge_told, tick_of, pins_of, clear_of, perform_of, interrupt_of, sck_of, undriven, sdo_of, ss_of}
use Rattle.module_rules.specs.Edge.{begun, shifted, advanced, advanced_if_begun, awaits_pulse, under_way, pulse_due, pulse_after, pulsed, clocked, edged, stepped}
use Rattle.module_rules.specs.Finish.{overflowed, word_appended, is_lost, delivered, sent_dropped, freed, finished}
use Rattle.module_rules.specs.Interrupts.{raises, noted}
use Rattle.module_rules.specs.Loading.{word_leaves, moved, can_load, loaded, next_top, sdo_at, rested}
use Rattle.module_rules.specs.Refusals.{number_of}
use Rattle.module_rules.specs.Registers.{weighed, con1_from, con1_value, con2_from, con2_value, spitbf, spirbf, srxmpt, srmpt, at_most7, spibec, stat_value, stat_settings, spirov_after, stat_engine, enabled_engine, disabled_engine}
use Rattle.module_rules.specs.Select.{select_remembered, aborted, select_seen}
use Rattle.trace_rules.specs.Trace.{byte_at, half_at, word_at, section_count, table_end, start_of, size_of, all_below, table_right, contents_right, body_of, entries_in, entries_of, is_play, plays_any, higher, highest_player, levels_below, section_level, wire_in, right_record, all_right, records_right, call_of, times, calls_by, play_calls, count_by, play_count, file_calls, file_count, fault_number_of, played_of, played_module}
use Rattle.trace_rules.specs.TraceExamples.{trace_examples}

pub trace_examples_hold : trace_examples ≡ true
unfolding shifted_in received_after shown_bit sdo_after progressed empty_transmit empty_receive first_waiting first_unread written departed appended taken overrun refuse answering powered_at word_taken read_buf read_of turns_on turns_off stat_written write_stat with_con1 with_con2 configured word_written write_buf write_of clock_step_of edge_told tick_of pins_of clear_of perform_of interrupt_of sck_of undriven sdo_of ss_of when◌then◌else◌ begun shifted advanced advanced_if_begun awaits_pulse under_way pulse_due pulse_after pulsed clocked edged stepped overflowed word_appended is_lost delivered sent_dropped freed finished raises noted word_leaves moved can_load loaded next_top sdo_at rested number_of bit_of weighed con1_from con1_value con2_from con2_value spitbf spirbf srxmpt srmpt at_most7 spibec stat_value stat_settings spirov_after stat_engine enabled_engine disabled_engine next select_remembered aborted select_seen byte_at half_at word_at section_count table_end start_of size_of all_below table_right contents_right body_of entries_in entries_of is_play plays_any higher highest_player levels_below section_level wire_in right_record all_right records_right call_of times calls_by play_calls count_by play_count file_calls file_count fault_number_of played_of played_module
trace_examples_hold = refl
