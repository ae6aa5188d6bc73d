-- The definitions are run on sessions.
--     save_examples_hold   sessions with what is answered and what stands in the buffer
-- Assumes nothing.
use Rattle.std.specs.Prelude.{◌≡◌}
use Rattle.laws.proofs.Common.{true, refl, when◌then◌else◌}
use Rattle.script_rules.specs.Script.{bytes, most_bytes, read_from, longer, lines_of, between, fits_place, has_form, write_form, read_form, tick_form, tick_ss_form, pin_form, clear_form, digit_value, hex_value, four_hex_value, level_value, reading_of}
use Rattle.trace_save_rules.specs.Save.{keeps, kept_of, kept_from, kept_calls, wires, record_of, record_bytes, file_of, saved_file, has_room, saved_of, buffer_after, saved_number_of, saved_length_of}
use Rattle.trace_save_rules.specs.SaveExamples.{save_examples}

pub save_examples_hold : save_examples ≡ true
unfolding when◌then◌else◌ bytes most_bytes read_from longer lines_of between fits_place has_form write_form read_form tick_form tick_ss_form pin_form clear_form digit_value hex_value four_hex_value level_value reading_of keeps kept_of kept_from kept_calls wires record_of record_bytes file_of saved_file has_room saved_of buffer_after saved_number_of saved_length_of
save_examples_hold = refl
