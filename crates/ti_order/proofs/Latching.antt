-- Which edges latch and how many have, which bit is shown, and what a write carries.
--     latches_same                     the rule's edges are the watcher's
--     latched_parity, open_parity      an edge that latches, and one that does not, by its number
--     sampled_half, sampled_whole      how many of the first edges latch
--     shown_stays, shown_moves         the place of the bit that is shown, across an edge
--     leads_wanted                     an edge that leads on is one that the watcher wants
--     carried_same, character_fits     the character of a write
-- Assumes nothing.
use Rattle.std.specs.Prelude.{◌+◌, ◌*◌, ◌-◌, ◌/◌, ◌%◌, ◌^◌, ◌≤◌, ◌<◌, ◌||◌, ◌∷◌, ◌++◌, ◌≡◌}
use Rattle.laws.proofs.Common.{ℕ, zero, suc, Bool, true, false, not, Bool·beq}
use Rattle.laws.proofs.Common.{List, [], refl, sym, ap, ap₂, subst, ◌∙◌, div-div-eq-div-mul, mod-lt, arith}
use Rattle.laws.proofs.Common.{eqb-true, eqb-false, eq-eqb, ne_eqb, lt-ltb, eqb, ltb, when◌then◌else◌, by_test}
use mir.Val.{bool_byte}
use lib.Pow.{pow-add, pow_pos, shr_lt, field, mod-mod-pow}
use Rattle.word_order.specs.Bits.{bit_of, top_bits, spelled, sampled_in}
use Rattle.word_order.proofs.WordBits.{spelled_top_bits, bit_most}
use Rattle.ti_rules.specs.declared.Settings.{Settings}
use Rattle.ti_rules.specs.Characters.{character_in}
use Rattle.ti_rules.specs.Edge.{latches, leads_on}
use Rattle.ti_rules.specs.Watch.{latched, wanted, carried}
use Rattle.ti_rules.specs.Flags.{shown_at}

-- The even edges are those that are not odd.
even_test : (k : ℕ) → eqb (k % 2) 0 ≡ not (eqb (k % 2) 1)
even_test k =
    by_test (eqb (k % 2) 1)
    (λ e. let odd : k % 2 ≡ 1 = eqb-true (k % 2) 1 e in ne_eqb (k % 2) 0 (λ z. omega arith) ∙ ap not (sym e))
    (λ e. let even : k % 2 ≡ 1 → ⊥ = eqb-false (k % 2) 1 e in eq-eqb (k % 2) 0 (omega arith) ∙ ap not (sym e))

-- The rule's edges.
pub latches_same : (phase : Bool) (k : ℕ) → latches phase k ≡ latched phase k
unfolding latches latched when◌then◌else◌
latches_same phase k = rw (even_test k) (go phase (eqb (k % 2) 1))
  where
    go : (p odd : Bool) → Bool·beq p odd ≡ (when p then odd else not odd)
    go true true = refl
    go true false = refl
    go false true = refl
    go false false = refl

pub latched_parity : (phase : Bool) (k : ℕ) → latched phase k ≡ true → k % 2 ≡ bool_byte phase
unfolding latched when◌then◌else◌
latched_parity true k e = eqb-true (k % 2) 1 e
latched_parity false k e = eqb-true (k % 2) 0 e

pub open_parity : (phase : Bool) (k : ℕ) → latched phase k ≡ false → (k + bool_byte phase) % 2 ≡ 1
unfolding latched when◌then◌else◌
open_parity true k e = let even : k % 2 ≡ 1 → ⊥ = eqb-false (k % 2) 1 e in omega arith
open_parity false k e = let odd : k % 2 ≡ 0 → ⊥ = eqb-false (k % 2) 0 e in omega arith

-- Of k edges half latch, the odd one more where the odd ones do.
pub sampled_half : (phase : Bool) (k : ℕ) → sampled_in (latched phase) k ≡ (k + bool_byte phase) / 2
sampled_half phase zero = omega (arith, bit_most phase)
sampled_half phase (suc k) =
    let half : sampled_in (latched phase) k ≡ (k + bool_byte phase) / 2 = sampled_half phase k in
    by_test (latched phase (suc k))
    (λ e. omega (arith, bit_most phase, ap bool_byte e, latched_parity phase (suc k) e))
    (λ e. omega (arith, bit_most phase, ap bool_byte e, open_parity phase (suc k) e))

pub sampled_whole : (phase : Bool) (w : ℕ) → sampled_in (latched phase) (2 * w) ≡ w
sampled_whole phase w = omega (arith, bit_most phase, sampled_half phase (2 * w))

-- The place of the bit that is shown after some edges.
pub shown_place : (phase : Bool) (k : ℕ) → shown_at phase k ≡ (k - (1 - bool_byte phase)) / 2
unfolding shown_at when◌then◌else◌
shown_place true k = omega arith
shown_place false k = omega arith

module _ (phase : Bool) (k : ℕ) where
  -- An edge that latches shows nothing new, and comes when something is shown.
  pub shown_stays : latched phase (k + 1) ≡ true → shown_at phase (k + 1) ≡ shown_at phase k
  shown_stays e =
      omega (arith, bit_most phase, latched_parity phase (k + 1) e, shown_place phase k, shown_place phase (k + 1))

  pub shown_already : latched phase (k + 1) ≡ true → (phase || ltb 0 k) ≡ true
  shown_already e = go phase (latched_parity phase (k + 1) e)
    where
      go : (p : Bool) → (k + 1) % 2 ≡ bool_byte p → (p || ltb 0 k) ≡ true
      go true x = refl
      go false x = lt-ltb 0 k (omega arith)

  pub shown_moves : latched phase (k + 1) ≡ false → shown_at phase (k + 1) ≡ (k + 1) / 2
  shown_moves e = omega (arith, bit_most phase, open_parity phase (k + 1) e, shown_place phase (k + 1))

  -- At an edge that latches the bit that is shown is the one that so many latched before it.
  pub shown_sampled : latched phase (k + 1) ≡ true → shown_at phase k ≡ sampled_in (latched phase) k
  shown_sampled e = omega (arith, bit_most phase, latched_parity phase (k + 1) e, shown_place phase k, sampled_half phase k)

-- An edge that leads on.
pub leads_wanted : (s : Settings) (sck : Bool) (k : ℕ) → leads_on s sck k ≡ Bool·beq sck (wanted s.polarity k)
unfolding leads_on wanted when◌then◌else◌
leads_wanted s sck k = rw (even_test k) (go sck s.polarity (eqb (k % 2) 1))
  where
    go : (a b odd : Bool) → Bool·beq (Bool·beq a b) odd ≡ Bool·beq a (when not odd then not b else b)
    go true true true = refl
    go true true false = refl
    go true false true = refl
    go true false false = refl
    go false true true = refl
    go false true false = refl
    go false false true = refl
    go false false false = refl

-- The highest bits of a value are those of the value without its lowest.
bit_above : (v k i : ℕ) → bit_of v (k + i) ≡ bit_of (v / 2 ^ k) i
unfolding bit_of
bit_above v k i = ap (λ (x : ℕ). eqb (x % 2) 1) (ap (λ (x : ℕ). v / x) (pow-add 2 k i) ∙ sym (div-div-eq-div-mul v (2 ^ k) (2 ^ i)))

top_above : (k w count v : ℕ) → count ≤ w → top_bits (k + w) count v ≡ top_bits w count (v / 2 ^ k)
top_above k w zero v h = refl
top_above k w (suc count) v h =
    let place : k + w - 1 - count ≡ k + (w - 1 - count) = omega arith in
    ap₂ (λ (l : List Bool) (b : Bool). l ++ (b ∷ [])) (top_above k w count v (omega arith))
    (ap (bit_of v) place ∙ bit_above v k (w - 1 - count))

-- The bits of 16 are those of the whole number.
bit_low : (v w i : ℕ) → i < w → bit_of (v % 2 ^ w) i ≡ bit_of v i
unfolding bit_of
bit_low v w i h =
    let whole : w ≡ w - i + i = omega arith in
    let some : w - i ≡ w - i - 1 + 1 = omega arith in
    ap (λ (x : ℕ). eqb (x % 2) 1) (ap (λ (n : ℕ). v % 2 ^ n / 2 ^ i) whole ∙ field v (w - i) i ∙ ap (λ (n : ℕ). v / 2 ^ i % 2 ^ n) some)
    ∙ ap (λ (x : ℕ). eqb x 1) (mod-mod-pow (v / 2 ^ i) (w - i - 1) 1)

top_low : (w count v : ℕ) → count ≤ w → top_bits w count (v % 2 ^ w) ≡ top_bits w count v
top_low w zero v h = refl
top_low w (suc count) v h =
    ap₂ (λ (l : List Bool) (b : Bool). l ++ (b ∷ [])) (top_low w count v (omega arith)) (bit_low v w (w - 1 - count) (omega arith))

module _ (s : Settings) (v : ℕ) (most : s.length ≤ 16) where
  -- A character has as many bits as the length says.
  pub character_fits : character_in s v < 2 ^ s.length
  unfolding character_in
  character_fits =
      let all : 16 ≡ s.length + (16 - s.length) = omega arith in
      shr_lt s.length (16 - s.length) (subst (λ (n : ℕ). v % 2 ^ 16 < 2 ^ n) all (mod-lt v (pow_pos 16)))

  pub carried_same : carried s v ≡ character_in s v
  unfolding carried character_in
  carried_same =
      let all : 16 ≡ 16 - s.length + s.length = omega arith in
      let bound : s.length ≤ s.length = omega arith in
      ap (spelled 0)
      (sym (top_low 16 s.length v most)
      ∙ ap (λ (n : ℕ). top_bits n s.length (v % 2 ^ 16)) all
      ∙ top_above (16 - s.length) s.length s.length (v % 2 ^ 16) bound)
      ∙ spelled_top_bits s.length (v % 2 ^ 16 / 2 ^ (16 - s.length)) character_fits
