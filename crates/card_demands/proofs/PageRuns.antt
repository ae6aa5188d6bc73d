-- The card's page holds at every call of a frame and the clocks behind it, in every protocol with every length and frame, by computing.
--     every_setting_runs
-- Assumes nothing.
use Rattle.laws.proofs.Common.{refl, when◌then◌else◌}
use Rattle.ring.specs.Ring.{next}
use Rattle.word_order.specs.Bits.{bit_of}
use Rattle.word_order.specs.Ledger as ledger
use Rattle.word_order.specs.Ledger.{left_to_send, loses, first_on_wire, counted, closed, given}
use Rattle.card_rules.specs.Settings.{i2s, left_justified, right_justified, pcm, named, shape_of}
use Rattle.card_rules.specs.Card.{powered_up}
use Rattle.card_rules.specs.Edge.{at_first_place, begun, samples, shifted_in, received_after, channel_bit, shifted, is_full, finished, opened, clocked, lrck_at, turned}
use Rattle.card_rules.specs.Calls.{set_protocol_of, set_length_of, enable_of, disable_of, sample_of, write_of, read_of, edge_of, clear_underrun_of, clear_overflow_of, sdo_of, right_next}
use Rattle.card_rules.proofs.PageRun.{unless, judged_at, seen, made, run}
use Rattle.card_rules.proofs.PageHolds.{frames, Run}

pub every_setting_runs :
    Run (frames i2s 16 32) × Run (frames i2s 16 64) × Run (frames i2s 24 64) × Run (frames i2s 32 64)
    × Run (frames left_justified 16 32) × Run (frames left_justified 16 64) × Run (frames left_justified 24 64)
    × Run (frames left_justified 32 64)
    × Run (frames right_justified 16 32) × Run (frames right_justified 16 64) × Run (frames right_justified 24 64)
    × Run (frames right_justified 32 64)
    × Run (frames pcm 16 32) × Run (frames pcm 16 64) × Run (frames pcm 24 64) × Run (frames pcm 32 64)
unfolding when◌then◌else◌ next bit_of named shape_of powered_up at_first_place begun samples shifted_in received_after channel_bit shifted is_full finished opened clocked lrck_at turned set_protocol_of set_length_of enable_of disable_of sample_of write_of read_of edge_of clear_underrun_of clear_overflow_of sdo_of right_next ledger.opened left_to_send loses first_on_wire counted closed given unless judged_at seen made run
every_setting_runs = (refl, refl, refl, refl, refl, refl, refl, refl, refl, refl, refl, refl, refl, refl, refl, refl)
