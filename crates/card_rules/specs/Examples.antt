-- Document 02, Nine, worked: clock by clock for every protocol and length, then calls with what they must answer and show.
-- proofs/ExamplesHold.antt runs them all.
use Rattle.std.specs.Prelude.{ℕ, zero, suc, ◌-◌, ◌%◌, Bool, true, false, not, ◌&&◌, List, [], ◌∷◌, ◌++◌, eqb}
use Rattle.std.specs.Bool.{beq}
use Rattle.laws.specs.Same.{same_numbers}
use Rattle.word_order.specs.Bits.{bit_of}
use Rattle.card_rules.specs.Settings.{i2s, left_justified, right_justified, pcm, Settings}
use Rattle.card_rules.specs.Card.{Card, powered_up}
use Rattle.card_rules.specs.Calls.{Call, set_protocol, set_length, enable, disable, write, read, edge, clear_underrun, clear_overflow, Outcome, perform, perform_of, perform_all, said_of, Output, low, high, undriven, sdo_of, right_next}

abbrev pub output_number : Output → ℕ
output_number low = 0
output_number high = 1
output_number undriven = 2

-- A case by its clocks, first to last: the levels of SCK, LRCK and SDO and the underrun flag after a clock's first edge, each as the bits
-- of a number; and the samples that are then unread. SDI has the levels of `heard` over and over in the second edges, and is the
-- opposite in the first ones.
pub record Case : Type 0 where
  pub settings : Settings
  pub written : List ℕ
  pub count : ℕ
  pub sck : Bool
  pub lrck : ℕ
  pub sdo : ℕ
  pub underrun : ℕ
  pub unread : List ℕ

abbrev pub heard : ℕ
heard = 0xD39669CB

abbrev pub writes : List ℕ → List Call
writes [] = []
writes (v ∷ vs) = write v ∷ writes vs

abbrev pub started : Settings → List Call
started x = set_protocol x.protocol ∷ set_length x.bits x.frame ∷ enable ∷ []

abbrev pub sdi_in : Case → ℕ → Bool
sdi_in x left = bit_of heard (31 - (x.count - 1 - left) % 32)

-- What stands after the first edge of a clock, and after its second; `left` clocks come behind it.
unfoldable pub shown_first : Case → ℕ → Card → Bool
shown_first x left m =
    beq m.engine.pins.sck x.sck
    && (beq m.engine.pins.lrck (bit_of x.lrck left)
    && (beq m.engine.pins.sdo (bit_of x.sdo left)
    && beq m.engine.flags.underrun (bit_of x.underrun left)))

unfoldable pub shown_second : Case → ℕ → Card → Bool
shown_second x left m =
    beq m.engine.pins.sck (not x.sck)
    && (beq m.engine.pins.lrck (bit_of x.lrck left)
    && (beq m.engine.pins.sdo (bit_of x.sdo left)
    && not m.engine.flags.overflow))

-- Each card is handed on as an argument, so that it is computed once.
unfoldable pub second_edge : Case → ℕ → (Card → Bool) → Card → Bool
second_edge x left rest m = shown_second x left m && rest m

unfoldable pub first_edge : Case → ℕ → (Card → Bool) → Card → Bool
first_edge x left rest m = shown_first x left m && second_edge x left rest (perform m (edge (sdi_in x left)))

unfoldable pub clockwise : Case → ℕ → Card → Bool
clockwise x zero m = same_numbers m.engine.unread x.unread
clockwise x (suc left) m = first_edge x left (clockwise x left) (perform m (edge (not (sdi_in x left))))

unfoldable pub case_holds : Case → Bool
case_holds x = clockwise x x.count (perform_all powered_up (started x.settings ++ writes x.written))

abbrev pub i2s16_in32 : Case
i2s16_in32 =
    record {
      settings = record { protocol = i2s; bits = 16; frame = 32 };
      written = 0x8001 ∷ 0xA5C3 ∷ 0x9999 ∷ [];
      count = 52;
      sck = false;
      lrck = 0xFFFF0000F;
      sdo = 0x4000D2E1CCCC8;
      underrun = 0x7;
      unread = 0xA72C ∷ 0xD397 ∷ 0xA72C ∷ [];
    }

abbrev pub i2s16_in64 : Case
i2s16_in64 =
    record {
      settings = record { protocol = i2s; bits = 16; frame = 64 };
      written = 0x8001 ∷ 0xA5C3 ∷ 0x9999 ∷ [];
      count = 100;
      sck = false;
      lrck = 0xFFFFFFFF00000000F;
      sdo = 0x4000800052E180004CCC80000;
      underrun = 0x7;
      unread = 0xA72C ∷ 0xA72C ∷ 0xA72C ∷ [];
    }

abbrev pub i2s24_in64 : Case
i2s24_in64 =
    record {
      settings = record { protocol = i2s; bits = 24; frame = 64 };
      written = 0x8001 ∷ 0xA5C3 ∷ 0x999999 ∷ [];
      count = 100;
      sck = false;
      lrck = 0xFFFFFFFF00000000F;
      sdo = 0x4000800052E1804CCCCC800;
      underrun = 0x7;
      unread = 0xA72CD3 ∷ 0xA72CD3 ∷ 0xA72CD3 ∷ [];
    }

abbrev pub i2s32_in64 : Case
i2s32_in64 =
    record {
      settings = record { protocol = i2s; bits = 32; frame = 64 };
      written = 0x8001 ∷ 0xA5C3 ∷ 0x99999999 ∷ [];
      count = 100;
      sck = false;
      lrck = 0xFFFFFFFF00000000F;
      sdo = 0x4000800052E1CCCCCCCC8;
      underrun = 0x7;
      unread = 0xA72CD397 ∷ 0xA72CD397 ∷ 0xA72CD397 ∷ [];
    }

abbrev pub left16_in32 : Case
left16_in32 =
    record {
      settings = record { protocol = left_justified; bits = 16; frame = 32 };
      written = 0x8001 ∷ 0xA5C3 ∷ 0x9999 ∷ [];
      count = 52;
      sck = true;
      lrck = 0xFFFF0000FFFF0;
      sdo = 0x8001A5C399990;
      underrun = 0xF;
      unread = 0xD396 ∷ 0x69CB ∷ 0xD396 ∷ [];
    }

abbrev pub left16_in64 : Case
left16_in64 =
    record {
      settings = record { protocol = left_justified; bits = 16; frame = 64 };
      written = 0x8001 ∷ 0xA5C3 ∷ 0x9999 ∷ [];
      count = 100;
      sck = true;
      lrck = 0xFFFFFFFF00000000FFFFFFFF0;
      sdo = 0x80010000A5C30000999900000;
      underrun = 0xF;
      unread = 0xD396 ∷ 0xD396 ∷ 0xD396 ∷ [];
    }

abbrev pub left24_in64 : Case
left24_in64 =
    record {
      settings = record { protocol = left_justified; bits = 24; frame = 64 };
      written = 0x8001 ∷ 0xA5C3 ∷ 0x999999 ∷ [];
      count = 100;
      sck = true;
      lrck = 0xFFFFFFFF00000000FFFFFFFF0;
      sdo = 0x80010000A5C300999999000;
      underrun = 0xF;
      unread = 0xD39669 ∷ 0xD39669 ∷ 0xD39669 ∷ [];
    }

abbrev pub left32_in64 : Case
left32_in64 =
    record {
      settings = record { protocol = left_justified; bits = 32; frame = 64 };
      written = 0x8001 ∷ 0xA5C3 ∷ 0x99999999 ∷ [];
      count = 100;
      sck = true;
      lrck = 0xFFFFFFFF00000000FFFFFFFF0;
      sdo = 0x80010000A5C3999999990;
      underrun = 0xF;
      unread = 0xD39669CB ∷ 0xD39669CB ∷ 0xD39669CB ∷ [];
    }

abbrev pub right16_in32 : Case
right16_in32 =
    record {
      settings = record { protocol = right_justified; bits = 16; frame = 32 };
      written = 0x8001 ∷ 0xA5C3 ∷ 0x9999 ∷ [];
      count = 52;
      sck = true;
      lrck = 0xFFFF0000FFFF0;
      sdo = 0x8001A5C399990;
      underrun = 0xF;
      unread = 0xD396 ∷ 0x69CB ∷ 0xD396 ∷ [];
    }

abbrev pub right16_in64 : Case
right16_in64 =
    record {
      settings = record { protocol = right_justified; bits = 16; frame = 64 };
      written = 0x8001 ∷ 0xA5C3 ∷ 0x9999 ∷ [];
      count = 100;
      sck = true;
      lrck = 0xFFFFFFFF00000000FFFFFFFF0;
      sdo = 0x80010000A5C3000099990;
      underrun = 0xF;
      unread = 0x69CB ∷ 0x69CB ∷ 0x69CB ∷ [];
    }

abbrev pub right24_in64 : Case
right24_in64 =
    record {
      settings = record { protocol = right_justified; bits = 24; frame = 64 };
      written = 0x8001 ∷ 0xA5C3 ∷ 0x999999 ∷ [];
      count = 100;
      sck = true;
      lrck = 0xFFFFFFFF00000000FFFFFFFF0;
      sdo = 0x80010000A5C3009999990;
      underrun = 0xF;
      unread = 0x9669CB ∷ 0x9669CB ∷ 0x9669CB ∷ [];
    }

abbrev pub right32_in64 : Case
right32_in64 =
    record {
      settings = record { protocol = right_justified; bits = 32; frame = 64 };
      written = 0x8001 ∷ 0xA5C3 ∷ 0x99999999 ∷ [];
      count = 100;
      sck = true;
      lrck = 0xFFFFFFFF00000000FFFFFFFF0;
      sdo = 0x80010000A5C3999999990;
      underrun = 0xF;
      unread = 0xD39669CB ∷ 0xD39669CB ∷ 0xD39669CB ∷ [];
    }

abbrev pub pcm16_in32 : Case
pcm16_in32 =
    record {
      settings = record { protocol = pcm; bits = 16; frame = 32 };
      written = 0x8001 ∷ 0xA5C3 ∷ 0x9999 ∷ [];
      count = 52;
      sck = true;
      lrck = 0x8000000080000;
      sdo = 0x4000D2E1CCCC8;
      underrun = 0x7;
      unread = 0xA72C ∷ 0xD397 ∷ 0xA72C ∷ [];
    }

abbrev pub pcm16_in64 : Case
pcm16_in64 =
    record {
      settings = record { protocol = pcm; bits = 16; frame = 64 };
      written = 0x8001 ∷ 0xA5C3 ∷ 0x9999 ∷ [];
      count = 100;
      sck = true;
      lrck = 0x8000000000000000800000000;
      sdo = 0x4000D2E1800000004CCC80000;
      underrun = 0x7FFFF;
      unread = 0xA72C ∷ 0xD397 ∷ 0xA72C ∷ 0xD397 ∷ [];
    }

abbrev pub pcm24_in64 : Case
pcm24_in64 =
    record {
      settings = record { protocol = pcm; bits = 24; frame = 64 };
      written = 0x8001 ∷ 0xA5C3 ∷ 0x999999 ∷ [];
      count = 100;
      sck = true;
      lrck = 0x8000000000000000800000000;
      sdo = 0x40008052E180004CCCCC800;
      underrun = 0x7FF;
      unread = 0xA72CD3 ∷ 0x97A72C ∷ 0xA72CD3 ∷ [];
    }

abbrev pub pcm32_in64 : Case
pcm32_in64 =
    record {
      settings = record { protocol = pcm; bits = 32; frame = 64 };
      written = 0x8001 ∷ 0xA5C3 ∷ 0x99999999 ∷ [];
      count = 100;
      sck = true;
      lrck = 0x8000000000000000800000000;
      sdo = 0x4000800052E1CCCCCCCC8;
      underrun = 0x7;
      unread = 0xA72CD397 ∷ 0xA72CD397 ∷ 0xA72CD397 ∷ [];
    }

abbrev pub cases : List Case
cases =
    i2s16_in32 ∷ i2s16_in64 ∷ i2s24_in64 ∷ i2s32_in64 ∷ left16_in32 ∷ left16_in64 ∷ left24_in64 ∷ left32_in64
    ∷ right16_in32 ∷ right16_in64 ∷ right24_in64 ∷ right32_in64 ∷ pcm16_in32 ∷ pcm16_in64 ∷ pcm24_in64 ∷ pcm32_in64 ∷ []

unfoldable pub cases_hold : List Case → Bool
cases_hold [] = true
cases_hold (x ∷ xs) = case_holds x && cases_hold xs

-- A session by its steps: a call with the refusal number and the sample that it must answer, edges with a level of SDI, or a look: SCK, LRCK
-- and SDO (2 is undriven); the two flags; the samples waiting and unread; whether the right channel is next.
pub data CardStep : Type 0 where
  says : Call → ℕ → ℕ → CardStep
  edges : ℕ → Bool → CardStep
  pins : Bool → Bool → ℕ → CardStep
  flags : Bool → Bool → CardStep
  holds : List ℕ → List ℕ → CardStep
  right : Bool → CardStep

abbrev pub ok : Call → CardStep
ok c = says c 0 0

unfoldable pub edges_on : ℕ → Bool → (Card → Bool) → Card → Bool
edges_on zero sdi rest m = rest m
edges_on (suc n) sdi rest m = edges_on n sdi rest (perform m (edge sdi))

unfoldable pub said : ℕ → ℕ → (Card → Bool) → Outcome → Bool
said number told rest o = eqb (said_of o.answer).number number && (eqb (said_of o.answer).told told && rest o.after)

unfoldable pub played : List CardStep → Card → Bool
played [] m = true
played (says c number told ∷ rest) m = said number told (played rest) (perform_of m c)
played (edges n sdi ∷ rest) m = edges_on n sdi (played rest) m
played (pins sck lrck sdo ∷ rest) m =
    (beq m.engine.pins.sck sck && (beq m.engine.pins.lrck lrck && eqb (output_number (sdo_of m)) sdo)) && played rest m
played (flags underrun overflow ∷ rest) m =
    (beq m.engine.flags.underrun underrun && beq m.engine.flags.overflow overflow) && played rest m
played (holds waiting unread ∷ rest) m =
    (same_numbers m.engine.waiting waiting && same_numbers m.engine.unread unread) && played rest m
played (right next ∷ rest) m = beq (right_next m) next && played rest m

-- Refusals: 2 while disabled; 23 for what is not named, and 3 before it; eight samples fit and the ninth gives 5; 6 with nothing unread.
abbrev pub refusals : List CardStep
refusals =
    pins false false 2
    ∷ says (write 1) 2 0
    ∷ says read 2 0
    ∷ says (edge false) 2 0
    ∷ says (set_length 24 32) 23 0
    ∷ says (set_length 16 16) 23 0
    ∷ says (set_length 32 32) 23 0
    ∷ says (set_length 20 64) 23 0
    ∷ ok (set_length 32 64)
    ∷ ok enable
    ∷ says (set_length 24 32) 3 0
    ∷ says (set_length 16 32) 3 0
    ∷ says (set_protocol left_justified) 3 0
    ∷ says read 6 0
    ∷ ok (write 1)
    ∷ ok (write 2)
    ∷ ok (write 3)
    ∷ ok (write 4)
    ∷ ok (write 5)
    ∷ ok (write 6)
    ∷ ok (write 7)
    ∷ ok (write 8)
    ∷ says (write 9) 5 0
    ∷ pins true true 0
    ∷ flags false false
    ∷ holds (1 ∷ 2 ∷ 3 ∷ 4 ∷ 5 ∷ 6 ∷ 7 ∷ 8 ∷ []) []
    ∷ ok enable
    ∷ holds (1 ∷ 2 ∷ 3 ∷ 4 ∷ 5 ∷ 6 ∷ 7 ∷ 8 ∷ []) []
    ∷ ok disable
    ∷ pins true true 2
    ∷ holds [] []
    ∷ ok disable
    ∷ pins true true 2
    ∷ []

-- An empty buffer sets the underrun flag at the first place; it stays through disabling and falls by its own clear alone. The pins keep
-- their levels.
abbrev pub starved : List CardStep
starved =
    ok enable
    ∷ pins true true 0
    ∷ flags false false
    ∷ edges 1 true
    ∷ pins false false 0
    ∷ flags false false
    ∷ edges 1 true
    ∷ pins true false 0
    ∷ right false
    ∷ edges 1 true
    ∷ pins false false 0
    ∷ flags true false
    ∷ right true
    ∷ edges 1 true
    ∷ pins true false 0
    ∷ ok clear_overflow
    ∷ flags true false
    ∷ ok disable
    ∷ pins true false 2
    ∷ flags true false
    ∷ right false
    ∷ ok enable
    ∷ flags true false
    ∷ ok clear_underrun
    ∷ flags false false
    ∷ []

-- Nine samples are received and none is read: the ninth is lost. A read makes room, and reception goes on: there is no mark.
abbrev pub overflowing : List CardStep
overflowing =
    ok (set_protocol left_justified)
    ∷ ok enable
    ∷ edges 287 true
    ∷ flags true false
    ∷ edges 1 true
    ∷ pins false true 0
    ∷ flags true true
    ∷ holds [] (65535 ∷ 65535 ∷ 65535 ∷ 65535 ∷ 65535 ∷ 65535 ∷ 65535 ∷ 65535 ∷ [])
    ∷ says read 0 65535
    ∷ flags true true
    ∷ ok clear_underrun
    ∷ flags false true
    ∷ edges 32 false
    ∷ flags true true
    ∷ holds [] (65535 ∷ 65535 ∷ 65535 ∷ 65535 ∷ 65535 ∷ 65535 ∷ 65535 ∷ 0 ∷ [])
    ∷ ok disable
    ∷ flags true true
    ∷ ok clear_overflow
    ∷ flags true false
    ∷ []

-- A sample keeps its low bits and leaves the buffer at its channel's first place: at LRCK's edge for right justified, before its zeros.
abbrev pub leaving : List CardStep
leaving =
    ok (set_protocol right_justified)
    ∷ ok (set_length 24 64)
    ∷ ok enable
    ∷ ok (write 0xFF800001)
    ∷ ok (write 7)
    ∷ holds (0x800001 ∷ 7 ∷ []) []
    ∷ right false
    ∷ edges 1 true
    ∷ holds (7 ∷ []) []
    ∷ right true
    ∷ pins true true 0
    ∷ edges 16 true
    ∷ pins true true 1
    ∷ edges 47 true
    ∷ holds (7 ∷ []) (0xFFFFFF ∷ [])
    ∷ right true
    ∷ edges 1 false
    ∷ right false
    ∷ holds [] (0xFFFFFF ∷ [])
    ∷ ok disable
    ∷ holds [] []
    ∷ flags false false
    ∷ []

-- PCM/DSP: the pulse and the channels by their first places.
abbrev pub packed : List CardStep
packed =
    ok (set_protocol pcm)
    ∷ ok (set_length 16 64)
    ∷ ok enable
    ∷ pins false false 0
    ∷ right false
    ∷ edges 1 true
    ∷ pins true true 0
    ∷ edges 2 true
    ∷ pins true false 0
    ∷ right true
    ∷ edges 31 true
    ∷ right true
    ∷ edges 1 true
    ∷ right false
    ∷ []

-- A sample of 32 ones goes out and one comes in: the shift register loses no bit.
abbrev pub ones : List CardStep
ones =
    ok (set_protocol left_justified)
    ∷ ok (set_length 32 64)
    ∷ ok enable
    ∷ ok (write 0xFFFFFFFF)
    ∷ edges 63 true
    ∷ pins true true 1
    ∷ holds [] []
    ∷ edges 1 true
    ∷ holds [] (0xFFFFFFFF ∷ [])
    ∷ []

abbrev pub sessions : List (List CardStep)
sessions = refusals ∷ starved ∷ overflowing ∷ leaving ∷ packed ∷ ones ∷ []

unfoldable pub sessions_hold : List (List CardStep) → Bool
sessions_hold [] = true
sessions_hold (x ∷ xs) = played x powered_up && sessions_hold xs
