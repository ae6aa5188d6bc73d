-- The bits of a word of any width, the number that they spell, and the edges that are sampled.
--     spelled_last         one more bit doubles the number
--     spelled_top_bits     all w bits of a word that fits w spell the word
--     top_bits_added       a bit that comes in stands last
--     sampled_more, sampled_same   the next edge is sampled, or is not
--     bit_most             a bit counts at most 1
-- Assumes nothing.
use Rattle.std.specs.Prelude.{◌+◌, ◌*◌, ◌-◌, ◌/◌, ◌%◌, ◌^◌, ◌≤◌, ◌<◌, ◌∷◌, ◌++◌, ◌≡◌}
use Rattle.laws.proofs.Common.{ℕ, zero, suc, Bool, true, false, List, []}
use Rattle.laws.proofs.Common.{refl, sym, ap, ap₂, ◌∙◌, pow-succ', div-div-eq-div-mul, arith, eqb-true, eqb-false}
use Rattle.laws.proofs.Common.{eq-eqb, ne_eqb, eqb}
use mir.Val.{bool_byte}
use native.Mathlib.Numerals.{add-one}
use Rattle.word_order.specs.Bits.{bit_of, top_bits, spelled, sampled_in}

pub bit_most : (b : Bool) → bool_byte b ≤ 1
bit_most true = omega arith
bit_most false = omega arith

bit_halved : (v i : ℕ) → bit_of v (suc i) ≡ bit_of (v / 2) i
unfolding bit_of
bit_halved v i = rw (pow-succ' 2 i, ← div-div-eq-div-mul v 2 (2 ^ i))

bit_lowest : (v : ℕ) → bool_byte (bit_of v 0) ≡ v % 2
unfolding bit_of
bit_lowest v = go (eqb (v / 2 ^ 0 % 2) 1) refl
  where
    go : (b : Bool) → eqb (v / 2 ^ 0 % 2) 1 ≡ b → bool_byte b ≡ v % 2
    go true e = let odd : v / 2 ^ 0 % 2 ≡ 1 = eqb-true (v / 2 ^ 0 % 2) 1 e in omega arith
    go false e = let even : v / 2 ^ 0 % 2 ≡ 1 → ⊥ = eqb-false (v / 2 ^ 0 % 2) 1 e in omega arith

top_bits_halved : (w count v : ℕ) → count ≤ w → top_bits (suc w) count v ≡ top_bits w count (v / 2)
top_bits_halved w zero v h = refl
top_bits_halved w (suc count) v h =
    let above : suc w - 1 - count ≡ suc (w - 1 - count) = omega arith in
    ap₂ (λ (l : List Bool) (b : Bool). l ++ (b ∷ [])) (top_bits_halved w count v (omega arith))
    (ap (bit_of v) above ∙ bit_halved v (w - 1 - count))

top_bits_last : (w v : ℕ) → top_bits (suc w) (suc w) v ≡ top_bits w w (v / 2) ++ (bit_of v 0 ∷ [])
top_bits_last w v =
    let lowest : suc w - 1 - w ≡ 0 = omega arith in
    ap₂ (λ (l : List Bool) (b : Bool). l ++ (b ∷ [])) (top_bits_halved w w v (omega arith)) (ap (bit_of v) lowest)

-- One more bit doubles the number that is spelled.
pub spelled_last : (bits : List Bool) (n : ℕ) (b : Bool) → spelled n (bits ++ (b ∷ [])) ≡ spelled n bits * 2 + bool_byte b
spelled_last [] n b = refl
spelled_last (x ∷ bits) n b = spelled_last bits (n * 2 + bool_byte x) b

-- All w bits of a word that fits w spell the word.
pub spelled_top_bits : (w v : ℕ) → v < 2 ^ w → spelled 0 (top_bits w w v) ≡ v
spelled_top_bits zero v h = omega arith
spelled_top_bits (suc w) v h =
    let half : spelled 0 (top_bits w w (v / 2)) ≡ v / 2 = spelled_top_bits w (v / 2) (omega (arith, pow-succ' 2 w)) in
    ap (spelled 0) (top_bits_last w v)
    ∙ spelled_last (top_bits w w (v / 2)) 0 (bit_of v 0)
    ∙ omega (arith, bit_lowest v)

-- A bit that comes in stands last among the bits received.
bit_behind : (v : ℕ) (b : Bool) → bit_of (v * 2 + bool_byte b) 0 ≡ b
unfolding bit_of
bit_behind v true = eq-eqb ((v * 2 + 1) / 2 ^ 0 % 2) 1 (omega arith)
bit_behind v false = ne_eqb ((v * 2 + 0) / 2 ^ 0 % 2) 1 (omega arith)

half_behind : (v : ℕ) (b : Bool) → (v * 2 + bool_byte b) / 2 ≡ v
half_behind v true = omega arith
half_behind v false = omega arith

pub top_bits_added : (k received : ℕ) (b : Bool) →
    top_bits (suc k) (suc k) (received * 2 + bool_byte b) ≡ top_bits k k received ++ (b ∷ [])
top_bits_added k received b =
    top_bits_last k (received * 2 + bool_byte b)
    ∙ ap₂ (λ (v : ℕ) (x : Bool). top_bits k k v ++ (x ∷ [])) (half_behind received b) (bit_behind received b)

-- The edges that are sampled, one edge on.
sampled_next : (samples : ℕ → Bool) (e : ℕ) → sampled_in samples (e + 1) ≡ sampled_in samples e + bool_byte (samples (e + 1))
sampled_next samples e =
    ap (sampled_in samples) (add-one e) ∙ ap (λ (k : ℕ). sampled_in samples e + bool_byte (samples k)) (sym (add-one e))

pub sampled_more : (samples : ℕ → Bool) (e : ℕ) → samples (e + 1) ≡ true → sampled_in samples (e + 1) ≡ suc (sampled_in samples e)
sampled_more samples e h =
    sampled_next samples e ∙ ap (λ (b : Bool). sampled_in samples e + bool_byte b) h ∙ add-one (sampled_in samples e)

pub sampled_same : (samples : ℕ → Bool) (e : ℕ) → samples (e + 1) ≡ false → sampled_in samples (e + 1) ≡ sampled_in samples e
sampled_same samples e h =
    let none : bool_byte (samples (e + 1)) ≡ 0 = ap bool_byte h in omega (arith, sampled_next samples e)
