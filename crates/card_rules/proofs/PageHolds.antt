-- The page holds at every call of these lists, each from power-up, by computing.
--     settings_run    every protocol: a frame and the clocks behind it; crate card_demands has every length and frame
--     refused_run     refusals in every state
--     flags_run       underrun and overflow, each cleared by its own call, and disabling
--     hypotheses_met  no hypothesis of the page is empty
-- Assumes nothing.
use Rattle.std.specs.Prelude.{◌∷◌, ◌++◌, ◌≡◌}
use Rattle.laws.proofs.Common.{ℕ, zero, suc, true, false, List, [], refl, when◌then◌else◌}
use Rattle.ring.specs.Ring.{next}
use Rattle.word_order.specs.Bits.{bit_of}
use Rattle.word_order.specs.Ledger as ledger
use Rattle.word_order.specs.Ledger.{left_to_send, loses, first_on_wire, counted, closed, given}
use Rattle.card_rules.specs.Settings.{Protocol, i2s, left_justified, right_justified, pcm, named, shape_of}
use Rattle.card_rules.specs.Card.{powered_up}
use Rattle.card_rules.specs.Edge.{at_first_place, begun, samples, shifted_in, received_after, channel_bit, shifted, is_full, finished, opened, clocked, lrck_at, turned}
use Rattle.card_rules.specs.Calls.{Call, set_protocol, set_length, enable, disable, write, read, edge, clear_underrun, clear_overflow, set_protocol_of, set_length_of, enable_of, disable_of, sample_of, write_of, read_of, edge_of, clear_underrun_of, clear_overflow_of, sdo_of, right_next}
use Rattle.card_rules.specs.Examples.{writes}
use Rattle.card_rules.specs.Watch.{powered_up_card, life}
use Rattle.card_rules.proofs.PageRun.{unless, judged_at, seen, made, run}

-- So many edges, SDI high at every third.
abbrev edges : ℕ → List Call
edges zero = []
edges (suc zero) = edge true ∷ []
edges (suc (suc zero)) = edge true ∷ edge false ∷ []
edges (suc (suc (suc n))) = edge true ∷ edge false ∷ edge false ∷ edges n

abbrev one_by_one : List (List Call) → List Call
one_by_one [] = []
one_by_one (cs ∷ rest) = cs ++ one_by_one rest

-- A frame and the clocks behind it: two samples are written before it, and one within it.
abbrev pub frames : Protocol → ℕ → ℕ → List Call
frames p bits frame =
    one_by_one
    ((set_protocol p ∷ set_length bits frame ∷ enable ∷ [])
    ∷ writes (0xF8000001 ∷ 0x5A69C3A5 ∷ [])
    ∷ edges frame
    ∷ writes (0xFFFFFFFF ∷ [])
    ∷ edges frame
    ∷ (read ∷ edge true ∷ edge true ∷ edge true ∷ edge true ∷ edge false ∷ disable ∷ [])
    ∷ [])

-- Refusals, disabled and enabled.
abbrev refused : List Call
refused =
    one_by_one
    ((write 1 ∷ read ∷ edge true ∷ disable ∷ set_length 24 32 ∷ set_length 32 32 ∷ set_length 16 16 ∷ set_length 16 64 ∷ set_length 0 0 ∷ [])
    ∷ (set_protocol pcm ∷ set_length 24 64 ∷ enable ∷ set_protocol i2s ∷ set_length 16 32 ∷ set_length 24 32 ∷ read ∷ enable ∷ [])
    ∷ writes (1 ∷ 2 ∷ 3 ∷ 4 ∷ 5 ∷ 6 ∷ 7 ∷ 8 ∷ 9 ∷ [])
    ∷ (edge true ∷ edge true ∷ edge true ∷ write 10 ∷ write 11 ∷ enable ∷ disable ∷ write 1 ∷ read ∷ edge true ∷ [])
    ∷ [])

-- The flags: nothing is ever written, nine samples come in and none is read.
abbrev flagged : List Call
flagged =
    one_by_one
    ((set_protocol left_justified ∷ enable ∷ [])
    ∷ edges 31
    ∷ (clear_underrun ∷ [])
    ∷ edges 255
    ∷ (clear_overflow ∷ edge false ∷ edge true ∷ clear_underrun ∷ edge true ∷ read ∷ [])
    ∷ edges 32
    ∷ (disable ∷ enable ∷ edge true ∷ clear_overflow ∷ clear_underrun ∷ disable ∷ clear_overflow ∷ clear_underrun ∷ [])
    ∷ [])

abbrev pub Run : List Call → Type 0
Run cs = run cs powered_up_card [] ≡ true

settings_run :
    Run (frames i2s 16 32) × Run (frames left_justified 16 32) × Run (frames right_justified 16 64) × Run (frames pcm 16 32)
unfolding when◌then◌else◌ next bit_of named shape_of powered_up at_first_place begun samples shifted_in received_after channel_bit shifted is_full finished opened clocked lrck_at turned set_protocol_of set_length_of enable_of disable_of sample_of write_of read_of edge_of clear_underrun_of clear_overflow_of sdo_of right_next ledger.opened left_to_send loses first_on_wire counted closed given unless judged_at seen made run
settings_run = (refl, refl, refl, refl)

refused_run : Run refused
unfolding when◌then◌else◌ next bit_of named shape_of powered_up at_first_place begun samples shifted_in received_after channel_bit shifted is_full finished opened clocked lrck_at turned set_protocol_of set_length_of enable_of disable_of sample_of write_of read_of edge_of clear_underrun_of clear_overflow_of sdo_of right_next ledger.opened left_to_send loses first_on_wire counted closed given unless judged_at seen made run
refused_run = refl

flags_run : Run flagged
unfolding when◌then◌else◌ next bit_of named shape_of powered_up at_first_place begun samples shifted_in received_after channel_bit shifted is_full finished opened clocked lrck_at turned set_protocol_of set_length_of enable_of disable_of sample_of write_of read_of edge_of clear_underrun_of clear_overflow_of sdo_of right_next ledger.opened left_to_send loses first_on_wire counted closed given unless judged_at seen made run
flags_run = refl

-- No hypothesis of the page is empty: an enabled card, one with edges, a disabled one.
hypotheses_met :
    ((life (enable ∷ [])).now.enabled ≡ true) × ((life (enable ∷ edge true ∷ [])).memory ≡ 1) × ((life []).now.enabled ≡ false)
unfolding when◌then◌else◌ next bit_of named shape_of powered_up at_first_place begun samples shifted_in received_after channel_bit shifted is_full finished opened clocked lrck_at turned set_protocol_of set_length_of enable_of disable_of sample_of write_of read_of edge_of clear_underrun_of clear_overflow_of sdo_of right_next ledger.opened left_to_send loses first_on_wire counted closed given unless judged_at seen made run
hypotheses_met = (refl, refl, refl)
