-- The parts of a look.
--     bit_number, protocol_number_lem   a flag and the protocol in a number
--     output_off, output_high, output_low   SDO
--     right_yes, right_no   the next channel, by the frame
--     look_is       the whole number
-- Assumes nothing.
use Rattle.std.specs.Prelude.{◌+◌, ◌*◌, ◌%◌, ◌&&◌, ◌<◌, ◌≤◌, ◌≡◌}
use Rattle.laws.proofs.Common.{ℕ, Bool, List, sym, ap, ◌∙◌, arith, eqb-true, eqb-false, lt-ltb, le-ltb, and_first, eqb, ltb}
use Rattle.laws.proofs.Common.{leb, length, when◌then◌else◌, by_test}
use mir.Val.{bool_byte}
use Rattle.card_rules.specs.Settings.{shape_of}
use Rattle.card_rules.specs.Calls.{sdo_of, right_next}
use Rattle.card_rules.specs.Figures.{protocol_number}
use Rattle.card.specs.declared.Frame.{Frame}
use Rattle.card.specs.Memory.{bit_in, byte_in, protocol_in, bits_in, frame_in, settings_from, from, count_in, engine_in, head_in, place_in, card_in, framed}
use Rattle.card.proofs.Frames.{protocol_is}
use Rattle.card.proofs.Stored.{bit_on, bit_off}
use Rattle.card.proofs.Rings.{samples_length}
use Rattle.card_look.specs.Look.{output_bits, look_number}

pub bit_number : (x : ℕ) → bool_byte (bit_in x) ≡ x % 2
bit_number x =
    by_test (eqb (x % 2) 0) (λ e. let even : x % 2 ≡ 0 = eqb-true (x % 2) 0 e in rw (bit_off x even, even))
    (λ e.
    let odd : x % 2 ≡ 0 → ⊥ = eqb-false (x % 2) 0 e in
    let one : x % 2 ≡ 1 = omega arith in rw (bit_on x odd, one))

pub protocol_number_lem : (x : ℕ) → protocol_number (protocol_in x) ≡ x % 4
protocol_number_lem x =
    let p = protocol_is x in
    by_test (eqb (x % 4) 0) (λ e. let z : x % 4 ≡ 0 = eqb-true (x % 4) 0 e in rw (p.0 z, z))
    (λ no0.
    by_test (eqb (x % 4) 1) (λ e. let z : x % 4 ≡ 1 = eqb-true (x % 4) 1 e in rw (p.1 z, z))
    (λ no1.
    by_test (eqb (x % 4) 2) (λ e. let z : x % 4 ≡ 2 = eqb-true (x % 4) 2 e in rw (p.2 z, z))
    (λ no2.
    let a : x % 4 ≡ 0 → ⊥ = eqb-false (x % 4) 0 no0 in
    let b : x % 4 ≡ 1 → ⊥ = eqb-false (x % 4) 1 no1 in
    let c : x % 4 ≡ 2 → ⊥ = eqb-false (x % 4) 2 no2 in
    let three : x % 4 ≡ 3 = omega arith in rw (p.3 a b c, three))))

module _ (w : List ℕ) where
  -- SDO.
  pub output_off : place_in w 0 % 2 ≡ 0 → 0 ≡ output_bits (sdo_of (card_in w))
  unfolding sdo_of head_in when◌then◌else◌
  output_off e = rw (bit_off (place_in w 0) e)

  pub output_high : (place_in w 0 % 2 ≡ 0 → ⊥) → (place_in w 10 % 2 ≡ 0 → ⊥) → 12 ≡ output_bits (sdo_of (card_in w))
  unfolding sdo_of head_in engine_in when◌then◌else◌
  output_high on high' = rw (bit_on (place_in w 0) on, bit_on (place_in w 10) high')

  pub output_low : (place_in w 0 % 2 ≡ 0 → ⊥) → place_in w 10 % 2 ≡ 0 → 8 ≡ output_bits (sdo_of (card_in w))
  unfolding sdo_of head_in engine_in when◌then◌else◌
  output_low on low' = rw (bit_on (place_in w 0) on, bit_off (place_in w 10) low')

  -- The next channel: where the first test holds the second one tells it, and else the first one does.
  right_same : (f : Frame) → f ≡ framed (shape_of (settings_from (place_in w 1))) →
      (ltb f.first (place_in w 2 % 256) && leb (place_in w 2 % 256) f.second) ≡ right_next (card_in w)
  unfolding right_next framed head_in engine_in byte_in
  right_same f e = λ i. ltb (e i).first (place_in w 2 % 256) && leb (place_in w 2 % 256) (e i).second

  pub right_yes : (f : Frame) → f ≡ framed (shape_of (settings_from (place_in w 1))) → f.first < place_in w 2 % 256 →
      leb (place_in w 2 % 256) f.second ≡ right_next (card_in w)
  right_yes f e h = sym (ap (λ (t : Bool). t && leb (place_in w 2 % 256) f.second) (lt-ltb f.first (place_in w 2 % 256) h)) ∙ right_same f e

  pub right_no : (f : Frame) → f ≡ framed (shape_of (settings_from (place_in w 1))) → place_in w 2 % 256 ≤ f.first →
      ltb f.first (place_in w 2 % 256) ≡ right_next (card_in w)
  right_no f e h =
      let low = le-ltb f.first (place_in w 2 % 256) h in
      low ∙ sym (and_first _ (leb (place_in w 2 % 256) f.second) low) ∙ right_same f e

  -- The whole.
  pub look_is : (bits frame waiting unread sdo right : ℕ) → bits ≡ bits_in (place_in w 1) → frame ≡ frame_in (place_in w 1) →
      waiting ≡ count_in (place_in w 14) → unread ≡ count_in (place_in w 16) → sdo ≡ output_bits (sdo_of (card_in w)) →
      right ≡ bool_byte (right_next (card_in w)) →
      place_in w 8 % 2 + 2 * (place_in w 9 % 2) + sdo + 16 * (place_in w 11 % 2) + 32 * (place_in w 12 % 2) + 64 * right + 256 * waiting
      + 4096 * unread
      + 65536 * (place_in w 1 % 4)
      + 262144 * bits
      + 16777216 * frame
      ≡ look_number (card_in w)
  unfolding look_number head_in engine_in settings_from
  look_is bits frame waiting unread sdo right b f t u o r =
      let sent : length (card_in w).engine.waiting ≡ count_in (place_in w 14) = samples_length (place_in w 13) (place_in w 14) (from 24 (place_in w)) in
      let got : length (card_in w).engine.unread ≡ count_in (place_in w 16) = samples_length (place_in w 15) (place_in w 16) (from 32 (place_in w)) in
      omega
      (arith, b, f, t, u, o, r, sent, got, bit_number (place_in w 8), bit_number (place_in w 9), bit_number (place_in w 11), bit_number (place_in w 12), protocol_number_lem (place_in w 1))
