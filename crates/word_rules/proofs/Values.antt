-- The values that the edges of a word move: each is told in closed form, which an edge does not change.
--     one_bit_lem, upper_bit           a bit as a number, and the upper one of the low bits of a word
--     left_is                      the bits left, by those that the invariant counts
--     fewer, as_many               the bits left after an edge that samples, and after one that does not
--     taken_on, kept_on            the bits left behind a number, at an edge that samples one of them and at one that does not
--     none_behind                  after the last edge none are left
--     received_on, received_end, received_small   the bits received, within 16 bits
--     levels_on, Shows, shows_on   the levels of SDO where it is sampled, while SDO is at the bit that the next such edge samples
--     sck_on, sck_end, sdo_on, sdo_end   the clock and SDO at the end
-- Assumes nothing.
use Rattle.std.specs.Prelude.{◌+◌, ◌*◌, ◌-◌, ◌/◌, ◌%◌, ◌^◌, ◌<◌, ◌≡◌}
use Rattle.laws.proofs.Common.{ℕ, suc, Bool, true, false, not, Bool·beq, refl, sym}
use Rattle.laws.proofs.Common.{ap, ◌∙◌, pow-succ', add-mul, mul_assoc, arith, eqb-true, eqb-false, eq-eqb, ltb-true}
use Rattle.laws.proofs.Common.{ltb-false, not-true, not-false, eqb, ltb, if_keeps, if_false, by_test, clash, like, unlike}
use Rattle.laws.proofs.Common.{so_lt, not_so_lt}
use native.Mathlib.Nat.{mod-add-div, add-mul-mod_self_left}
use mir.Val.{bool_byte}
use lib.Arith.{mod-mul}
use Rattle.word_order.specs.Bits.{bit_of}
use Rattle.word_order.proofs.WordBits.{bit_most}
use Rattle.module_types.specs.declared.Settings.{Settings}
use Rattle.module_rules.specs.Settings.{width_of, cke_of}
use Rattle.module_rules.specs.Bits.{samples, shifted_in, received_after, shown_bit, sdo_after}
use Rattle.module_rules.specs.Edge.{word_edges}
use Rattle.module_rules.specs.Invariant.{sampled}
use Rattle.module_rules.proofs.Sizes.{power_least}
use Rattle.module_invariant.proofs.Sampling.{sampled_more, sampled_same, sampled_all, sampled_most, shown_changed, parity_turns}
use Rattle.word_rules.specs.Word.{bits_sampled, bits_left, sdi_at, level_on}
use Rattle.word_rules.proofs.Closed.{behind, last_sck, last_sdo}

-- A bit counts for itself, and the low k + 1 bits are the upper one of them and the low k.
pub one_bit_lem : (v k : ℕ) → bool_byte (bit_of v k) ≡ v / 2 ^ k % 2
unfolding bit_of
one_bit_lem v k =
    by_test (eqb (v / 2 ^ k % 2) 1)
    (λ e. let odd = eqb-true (v / 2 ^ k % 2) 1 e in ap bool_byte e ∙ omega arith)
    (λ e. let even = eqb-false (v / 2 ^ k % 2) 1 e in ap bool_byte e ∙ omega arith)

pub upper_bit : (x v k : ℕ) → (x * 2 + bool_byte (bit_of v k)) * 2 ^ k + v % 2 ^ k ≡ x * 2 ^ suc k + v % 2 ^ suc k
upper_bit x v k =
    let bit = one_bit_lem v k in
    let low = mod-mul v {m = 2} {c = 2 ^ k} (omega arith) (power_least k) in
    ap (λ (b : ℕ). (x * 2 + b) * 2 ^ k + v % 2 ^ k) bit
    ∙ omega (arith, low, add-mul (x * 2) (v / 2 ^ k % 2) (2 ^ k), mul_assoc x 2 (2 ^ k))
    ∙ ap (λ (q : ℕ). x * q + v % q) (sym (pow-succ' 2 k))

-- The bits that are left, by those that the invariant counts.
pub left_is : (s : Settings) (k : ℕ) → bits_left s k ≡ width_of s - sampled (cke_of s) k
unfolding bits_left bits_sampled sampled
left_is s k = refl

module _ (s : Settings) (k : ℕ) (short : k < word_edges s) where
  pub fewer : samples (cke_of s) (k + 1) ≡ true → bits_left s k ≡ suc (bits_left s (k + 1))
  fewer e =
      let more = sampled_more (cke_of s) k e in
      let most = sampled_most (cke_of s) (k + 1) (width_of s) (omega arith) in
      omega (arith, left_is s k, left_is s (k + 1))

  pub as_many : samples (cke_of s) (k + 1) ≡ false → bits_left s (k + 1) ≡ bits_left s k
  as_many e = left_is s (k + 1) ∙ ap (λ (x : ℕ). width_of s - x) (sampled_same (cke_of s) k e) ∙ sym (left_is s k)

  pub taken_on : (v x : ℕ) → samples (cke_of s) (k + 1) ≡ true →
      behind s v (k + 1) (x * 2 + bool_byte (bit_of v (bits_left s k - 1))) ≡ behind s v k x
  unfolding behind
  taken_on v x e =
      let one = fewer e in
      let next : bits_left s k - 1 ≡ bits_left s (k + 1) = omega arith in
      rw (next, one) (upper_bit x v (bits_left s (k + 1)))

  pub kept_on : (v x : ℕ) → samples (cke_of s) (k + 1) ≡ false → behind s v (k + 1) x ≡ behind s v k x
  unfolding behind
  kept_on v x e = ap (λ (j : ℕ). x * 2 ^ j + v % 2 ^ j) (as_many e)

pub none_behind : (s : Settings) (v k x : ℕ) → k ≡ word_edges s → behind s v k x ≡ x
unfolding behind
none_behind s v k x e =
    let all = sampled_all (cke_of s) k (width_of s) e in
    let none : bits_left s k ≡ 0 = omega (arith, left_is s k) in
    rw none (omega arith)

-- The bits received. What 16 bits leave out does not come back.
cut_first : (x q y : ℕ) → (x % 65536 * q + y) % 65536 ≡ (x * q + y) % 65536
cut_first x q y =
    let whole : x * q + y ≡ x % 65536 * q + y + 65536 * (x / 65536 * q) =
    ap (λ (z : ℕ). z * q + y) (sym (mod-add-div x 65536)) ∙ omega (arith, add-mul (x % 65536) (65536 * (x / 65536)) q, mul_assoc 65536 (x / 65536) q) in
    sym (ap (λ (z : ℕ). z % 65536) whole ∙ add-mul-mod_self_left (x % 65536 * q + y) 65536 (x / 65536 * q))

cut : (s : Settings) (word k x : ℕ) → behind s word (k + 1) (x % 65536) % 65536 ≡ behind s word (k + 1) x % 65536
unfolding behind
cut s word k x = cut_first x (2 ^ bits_left s (k + 1)) (word % 2 ^ bits_left s (k + 1))

pub received_on : (s : Settings) (k : ℕ) → k < word_edges s → (word received : ℕ) →
    behind s word (k + 1) (received_after s (k + 1) (sdi_at s k word) received) % 65536 ≡ behind s word k received % 65536
unfolding received_after shifted_in sdi_at
received_on s k short word received =
    if_keeps (λ (x : ℕ). behind s word (k + 1) x % 65536 ≡ behind s word k received % 65536) (samples (cke_of s) (k + 1)) _ _
    (λ e. cut s word k _ ∙ ap (λ (x : ℕ). x % 65536) (taken_on s k short word received e))
    (λ e. ap (λ (x : ℕ). x % 65536) (kept_on s k short word received e))

pub received_small : (s : Settings) (k : ℕ) (sdi : Bool) (received : ℕ) → received < 65536 → received_after s k sdi received < 65536
unfolding received_after shifted_in
received_small s k sdi received h = if_keeps (λ (x : ℕ). x < 65536) (samples (cke_of s) k) _ _ (λ _. omega arith) (λ _. h)

pub received_end : (s : Settings) (word k received : ℕ) → k ≡ word_edges s → received < 65536 → behind s word k received % 65536 ≡ received
received_end s word k received e small = ap (λ (x : ℕ). x % 65536) (none_behind s word k received e) ∙ omega arith

-- The levels of SDO.
abbrev pub Shows : Settings → ℕ → ℕ → Bool → Type 0
Shows s sent k sdo = samples (cke_of s) (k + 1) ≡ true → sdo ≡ bit_of sent (bits_left s k - 1)

pub levels_on : (s : Settings) (k : ℕ) → k < word_edges s → (sent x : ℕ) (sdo : Bool) → Shows s sent k sdo →
    behind s sent (k + 1) (level_on s k sdo x) ≡ behind s sent k x
unfolding level_on
levels_on s k short sent x sdo shows =
    if_keeps (λ (y : ℕ). behind s sent (k + 1) y ≡ behind s sent k x) (samples (cke_of s) (k + 1)) _ _
    (λ e. ap (λ (b : Bool). behind s sent (k + 1) (x * 2 + bool_byte b)) (shows e) ∙ taken_on s k short sent x e)
    (λ e. kept_on s k short sent x e)

-- Edges by their parity: with CKE 0 the even ones sample and the odd ones change SDO, with CKE 1 the other way round.
even_samples : (cke : Bool) (k : ℕ) → samples cke k ≡ true → (k + bool_byte cke) % 2 ≡ 0
even_samples true k e = let odd = eqb-true (k % 2) 1 (sym (like true _ e)) in omega arith
even_samples false k e = let even = eqb-false (k % 2) 1 (sym (like false _ e)) in omega arith

odd_shows : (cke : Bool) (k : ℕ) → samples cke k ≡ false → (k + bool_byte cke) % 2 ≡ 1
odd_shows true k e = let even = eqb-false (k % 2) 1 (not-true _ (sym (unlike true (eqb (k % 2) 1) e))) in omega arith
odd_shows false k e = let odd = eqb-true (k % 2) 1 (not-false _ (sym (unlike false (eqb (k % 2) 1) e))) in omega arith

-- Of two edges one behind the other one changes SDO.
shows_before : (cke : Bool) (k : ℕ) → samples cke (k + 1) ≡ true → samples cke k ≡ false
shows_before cke k e =
    by_test (samples cke k) (λ f. clash (eqb 0 1) (eq-eqb 0 1 (omega (arith, even_samples cke (k + 1) e, even_samples cke k f))) refl) (λ f. f)

pub shows_on : (s : Settings) (sent k : ℕ) (sdo : Bool) → Shows s sent (k + 1) (sdo_after s sent (k + 1) sdo)
unfolding sdo_after shown_bit
shows_on s sent k sdo e =
    let changed = shows_before (cke_of s) (k + 1) e in
    if_false (samples (cke_of s) (k + 1)) _ _ changed
    ∙ ap (bit_of sent) (omega (arith, shown_changed (cke_of s) k changed, sampled_same (cke_of s) k changed, left_is s (k + 1)))

-- SCK.
pub sck_on : (k : ℕ) (sck : Bool) → last_sck (k + 1) (not sck) ≡ last_sck k sck
unfolding last_sck
sck_on k sck = ap (λ (b : Bool). Bool·beq b (not sck)) (parity_turns k) ∙ both (eqb (k % 2) 0) sck
  where
    both : (a b : Bool) → Bool·beq (not a) (not b) ≡ Bool·beq a b
    both true true = refl
    both true false = refl
    both false true = refl
    both false false = refl

pub sck_end : (s : Settings) (k : ℕ) (sck : Bool) → k ≡ word_edges s → last_sck k sck ≡ sck
unfolding last_sck
sck_end s k sck e = ap (λ (b : Bool). Bool·beq b sck) (eq-eqb (k % 2) 0 (omega arith)) ∙ same sck
  where
    same : (b : Bool) → Bool·beq true b ≡ b
    same true = refl
    same false = refl

-- SDO.
module _ (s : Settings) (sent k : ℕ) (sdo : Bool) where
  pub sdo_end : k + 1 ≡ word_edges s → last_sdo s sent k sdo ≡ sdo
  unfolding last_sdo
  sdo_end e = sym (not_so_lt (k + 1 + bool_byte (cke_of s)) (word_edges s) _ _ (omega arith) refl)

  pub sdo_on : k + 1 < word_edges s → last_sdo s sent (k + 1) (sdo_after s sent (k + 1) sdo) ≡ last_sdo s sent k sdo
  unfolding last_sdo sdo_after shown_bit
  sdo_on h =
      let most = bit_most (cke_of s) in
      if_keeps (λ (x : Bool). x ≡ last_sdo s sent k sdo) (ltb (k + 1 + 1 + bool_byte (cke_of s)) (word_edges s)) _ _
      (λ e. so_lt (k + 1 + bool_byte (cke_of s)) (word_edges s) _ _ (omega (arith, ltb-true (k + 1 + 1 + bool_byte (cke_of s)) (word_edges s) e)) refl)
      (λ f.
      let late = ltb-false (k + 1 + 1 + bool_byte (cke_of s)) (word_edges s) f in
      if_keeps (λ (x : Bool). x ≡ last_sdo s sent k sdo) (samples (cke_of s) (k + 1)) _ _
      (λ e. not_so_lt (k + 1 + bool_byte (cke_of s)) (word_edges s) _ _ (omega (arith, even_samples (cke_of s) (k + 1) e)) refl)
      (λ e.
      let odd = odd_shows (cke_of s) (k + 1) e in
      so_lt (k + 1 + bool_byte (cke_of s)) (word_edges s) _ _ (omega arith) (ap (bit_of sent) (omega arith))))
