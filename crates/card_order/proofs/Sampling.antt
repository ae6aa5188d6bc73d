-- The edges of a sample that are sampled, the bits that SDO shows, and the received bits.
--     sampling, samples_odd   an edge that samples, and edges that do not
--     sampled_in_lem       how many edges of a sample sample
--     channel_bit_lem      what SDO shows in a clock with a bit
--     received_whole   the shift register loses no bit
-- Assumes nothing.
use Rattle.std.specs.Prelude.{◌+◌, ◌*◌, ◌-◌, ◌/◌, ◌%◌, ◌^◌, ◌≤◌, ◌<◌, ◌&&◌, ◌≡◌}
use Rattle.laws.proofs.Common.{ℕ, zero, suc, Bool, true, false, refl, ap}
use Rattle.laws.proofs.Common.{mod-eq_of_lt, pow-succ', arith, eqb-true, eqb-false, ne_eqb, ltb-true, ltb-false, lt-ltb}
use Rattle.laws.proofs.Common.{le-leb, ltb, leb, eqb, if_both, if_true, and_left, and_right, and_rest, by_test}
use native.Mathlib.Numerals.{add-one}
use mir.Val.{bool_byte}
use lib.Pow.{pow_mono}
use Rattle.word_order.specs.Bits.{bit_of, sampled_in}
use Rattle.word_order.specs.Port.{Under}
use Rattle.word_order.specs.Port as port
use Rattle.card_rules.specs.Settings.{Shape}
use Rattle.card_rules.specs.Edge.{samples, shifted_in, received_after, channel_bit}
use Rattle.card_order.specs.Invariant.{Fits, terms_of, Within}

pub samples_odd : (s : Shape) (e : ℕ) → e % 2 ≡ 1 → samples s e ≡ false
unfolding samples
samples_odd s e odd = rw (ne_eqb (e % 2) 0 (omega arith))

-- What an edge that samples tells of it.
pub sampling : (s : Shape) (e : ℕ) → samples s e ≡ true → (e % 2 ≡ 0) × (2 * s.lead < e)
unfolding samples
sampling s e takes =
    (eqb-true (e % 2) 0 (and_left (eqb (e % 2) 0) _ takes), ltb-true (2 * s.lead) e (and_right (eqb (e % 2) 0) _ takes))

-- How many edges of a sample sample: half, less the open clocks before the top bit.
pub sampled_in_lem : (s : Shape) (k : ℕ) → sampled_in (samples s) k ≡ k / 2 - s.lead
unfolding samples
sampled_in_lem s zero = omega arith
sampled_in_lem s (suc k) =
    let ih : sampled_in (samples s) k ≡ k / 2 - s.lead = sampled_in_lem s k in
    by_test (samples s (suc k)) (λ e. omega (arith, ap bool_byte e, (sampling s (suc k) e).0, (sampling s (suc k) e).1))
    (λ e.
    by_test (eqb (suc k % 2) 0)
    (λ g. omega (arith, ap bool_byte e, eqb-true (suc k % 2) 0 g, ltb-false (2 * s.lead) (suc k) (within e g)))
    (λ g. let odd : suc k % 2 ≡ 0 → ⊥ = eqb-false (suc k % 2) 0 g in omega (arith, ap bool_byte e)))
  where
    within : samples s (suc k) ≡ false → eqb (suc k % 2) 0 ≡ true → ltb (2 * s.lead) (suc k) ≡ false
    within e g = and_rest (eqb (suc k % 2) 0) _ e g

-- In a channel's clock with a bit SDO shows that bit.
pub channel_bit_lem : (s : Shape) (sample k : ℕ) → s.lead ≤ k → k < s.lead + s.bits →
    channel_bit s sample k ≡ bit_of sample (s.bits - 1 - (k - s.lead))
unfolding channel_bit
channel_bit_lem s sample k from to =
    if_true (leb s.lead k && ltb k (s.lead + s.bits)) _ _ (rw (le-leb s.lead k from, lt-ltb k (s.lead + s.bits) to))

-- The shift register loses no bit of a sample that fits it.
more_bits : (received k : ℕ) (b : Bool) → received < 2 ^ k → received * 2 + bool_byte b < 2 ^ (k + 1)
more_bits received k true h = rw (add-one k) (omega (arith, pow-succ' 2 k))
more_bits received k false h = rw (add-one k) (omega (arith, pow-succ' 2 k))

-- What has been received once an edge short of the last, or the last, has been given.
pub record Received (s : Shape) (sdi : Bool) (u : Under) : Type 0 where
  pub whole : received_after s sdi u ≡ port.received_after (terms_of s) sdi u
  pub few : received_after s sdi u < 2 ^ ((u.edges + 1) / 2 - s.lead)

pub received_whole : (s : Shape) → Fits s → (sdi : Bool) (u : Under) → Within s u → Received s sdi u
unfolding received_after port.received_after shifted_in
received_whole s f sdi u w =
    let r : (received_after s sdi u ≡ port.received_after (terms_of s) sdi u) × (received_after s sdi u < 2 ^ ((u.edges + 1) / 2 - s.lead)) =
    if_both (λ (x y : ℕ). (x ≡ y) × (x < 2 ^ ((u.edges + 1) / 2 - s.lead))) (samples s (u.edges + 1)) (samples s (u.edges + 1)) _ _ _ _ refl
    (λ e.
    let t = sampling s (u.edges + 1) e in
    let count : (u.edges + 1) / 2 - s.lead ≡ (u.edges / 2 - s.lead) + 1 = omega (arith, t.0, t.1) in
    let more : u.received * 2 + bool_byte sdi < 2 ^ (u.edges / 2 - s.lead + 1) =
    more_bits u.received (u.edges / 2 - s.lead) sdi w.few in
    let most : 2 ^ (u.edges / 2 - s.lead + 1) ≤ 2 ^ 32 =
    pow_mono {i = u.edges / 2 - s.lead + 1} {j = 32} (omega (arith, f.most, w.short, t.0, t.1)) in
    let same : (u.received * 2 + bool_byte sdi) % 4294967296 ≡ u.received * 2 + bool_byte sdi = mod-eq_of_lt (omega arith) in
    (same, rw (same, count) more))
    (λ e. (refl, stays e)) in
    record { whole = r.0; few = r.1 }
  where
    -- an edge that does not sample
    stays : samples s (u.edges + 1) ≡ false → u.received < 2 ^ ((u.edges + 1) / 2 - s.lead)
    stays e =
        let up : 2 ^ (u.edges / 2 - s.lead) ≤ 2 ^ ((u.edges + 1) / 2 - s.lead) = pow_mono (omega arith) in
        omega (arith, w.few)
