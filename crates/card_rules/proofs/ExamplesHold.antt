-- The worked cases hold, by computing.
--     cases_hold_lem      every protocol with every length and frame, clock by clock
--     sessions_hold_lem   refusals, flags, disabling, and where a sample leaves the buffer
-- Assumes nothing.
use Rattle.std.specs.Prelude.{◌≡◌}
use Rattle.laws.proofs.Common.{true, refl, when◌then◌else◌}
use Rattle.ring.specs.Ring.{next}
use Rattle.word_order.specs.Bits.{bit_of}
use Rattle.card_rules.specs.Settings.{named, shape_of}
use Rattle.card_rules.specs.Card.{powered_up}
use Rattle.card_rules.specs.Edge.{at_first_place, begun, samples, shifted_in, received_after, channel_bit, shifted, is_full, finished, opened, clocked, lrck_at, turned}
use Rattle.card_rules.specs.Calls.{set_protocol_of, set_length_of, enable_of, disable_of, sample_of, write_of, read_of, edge_of, clear_underrun_of, clear_overflow_of, sdo_of, right_next}
use Rattle.card_rules.specs.Examples.{shown_first, shown_second, second_edge, first_edge, clockwise, case_holds, cases, cases_hold, edges_on, said, played, sessions, sessions_hold}

pub cases_hold_lem : cases_hold cases ≡ true
unfolding when◌then◌else◌ next bit_of named shape_of powered_up at_first_place begun samples shifted_in received_after channel_bit shifted is_full finished opened clocked lrck_at turned set_protocol_of set_length_of enable_of disable_of sample_of write_of read_of edge_of clear_underrun_of clear_overflow_of sdo_of right_next shown_first shown_second second_edge first_edge clockwise case_holds cases_hold edges_on said played sessions_hold
cases_hold_lem = refl

pub sessions_hold_lem : sessions_hold sessions ≡ true
unfolding when◌then◌else◌ next bit_of named shape_of powered_up at_first_place begun samples shifted_in received_after channel_bit shifted is_full finished opened clocked lrck_at turned set_protocol_of set_length_of enable_of disable_of sample_of write_of read_of edge_of clear_underrun_of clear_overflow_of sdo_of right_next shown_first shown_second second_edge first_edge clockwise case_holds cases_hold edges_on said played sessions_hold
sessions_hold_lem = refl
