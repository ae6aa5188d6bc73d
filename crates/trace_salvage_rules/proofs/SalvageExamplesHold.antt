-- The definitions are run on files.
--     salvage_examples_hold   files with what they answer and the buffer after it
-- Assumes nothing.
use Rattle.std.specs.Prelude.{◌≡◌}
use Rattle.laws.proofs.Common.{true, refl, when◌then◌else◌}
use Rattle.trace_rules.specs.Trace.{byte_at, half_at, word_at, section_count, table_end, start_of, size_of, all_below, table_right, body_of, entries_in, entries_of, is_play, plays_any, higher, highest_player, levels_below, section_level, wire_in, right_record}
use Rattle.trace_salvage_rules.specs.Salvage.{salvageable, beginning, with_next, kept_below, kept_of, cut_body, cut_bodies, salvaged_file, sum_below, fell_in, sections_cut, bytes_lost, answer_with, salvaged_of, salvage_number_of, buffer_after}
use Rattle.trace_salvage_rules.specs.SalvageExamples.{salvage_examples}

pub salvage_examples_hold : salvage_examples ≡ true
unfolding when◌then◌else◌ byte_at half_at word_at section_count table_end start_of size_of all_below table_right body_of entries_in entries_of is_play plays_any higher highest_player levels_below section_level wire_in right_record salvageable beginning with_next kept_below kept_of cut_body cut_bodies salvaged_file sum_below fell_in sections_cut bytes_lost answer_with salvaged_of salvage_number_of buffer_after
salvage_examples_hold = refl
