-- The levels that one end shows where the edges sample, as the word that the other end samples.
--     bit_top, bit_low   the bits of a number that has the low bits of another behind it
--     Carries            a word that has the bits which are read of an end that sends, from an edge on
--     carries_on         it has them an edge on
--     carries_levels     the levels of SDO are such a word, and zeros are one under DISSDO
-- Assumes nothing.
use Rattle.std.specs.Prelude.{◌+◌, ◌*◌, ◌-◌, ◌/◌, ◌%◌, ◌^◌, ◌<◌, ◌≤◌, ◌&&◌, ◌≡◌}
use Rattle.laws.proofs.Common.{ℕ, zero, suc, Bool, true, false, not, refl}
use Rattle.laws.proofs.Common.{sym, ap, ◌∙◌, mod-lt, zero-div, div-eq_of_lt, mul-add-div_right, arith, eqb-true, eqb-false}
use Rattle.laws.proofs.Common.{eqb, when◌then◌else◌, if_keeps, if_true, by_test}
use mir.Val.{bool_byte}
use Rattle.word_order.specs.Bits.{bit_of}
use Rattle.module_rules.proofs.Types.{Settings, Progress}
use Rattle.module_rules.specs.Settings.{cke_of}
use Rattle.module_rules.specs.Bits.{samples, sdo_after}
use Rattle.module_rules.specs.Edge.{word_edges}
use Rattle.module_rules.proofs.Sizes.{power_least}
use Rattle.word_rules.specs.Word.{bits_left, level_on}
use Rattle.word_rules.proofs.Closed.{behind, all_levels}
use Rattle.word_rules.proofs.Values.{one_bit_lem, upper_bit, fewer, as_many, shows_on}

bit_top : (x v k : ℕ) → bit_of (x * 2 ^ k + v % 2 ^ k) k ≡ eqb (x % 2) 1
unfolding bit_of
bit_top x v k =
    let above : (x * 2 ^ k + v % 2 ^ k) / 2 ^ k ≡ x =
    mul-add-div_right (power_least k) x (v % 2 ^ k) ∙ omega (arith, div-eq_of_lt (mod-lt v (power_least k))) in
    ap (λ (y : ℕ). eqb (y % 2) 1) above

bit_here : (x v k : ℕ) → bit_of ((x * 2 + bool_byte (bit_of v k)) * 2 ^ k + v % 2 ^ k) k ≡ bit_of v k
unfolding bit_of
bit_here x v k =
    let low : (x * 2 + bool_byte (bit_of v k)) % 2 ≡ v / 2 ^ k % 2 = omega (arith, one_bit_lem v k) in
    bit_top (x * 2 + bool_byte (bit_of v k)) v k ∙ ap (λ (y : ℕ). eqb y 1) low

bit_low : (k x v j : ℕ) → j < k → bit_of (x * 2 ^ k + v % 2 ^ k) j ≡ bit_of v j
bit_low zero x v j h = absurd (omega (arith, h))
bit_low (suc k) x v j h =
    ap (λ (y : ℕ). bit_of y j) (sym (upper_bit x v k))
    ∙ by_test (eqb j k)
    (λ e. rw (eqb-true j k e) (bit_here x v k))
    (λ e. bit_low k (x * 2 + bool_byte (bit_of v k)) v j (omega (arith, h, eqb-false j k e)))

zero_bit : (j : ℕ) → bit_of 0 j ≡ false
unfolding bit_of
zero_bit j = ap (λ (y : ℕ). eqb (y % 2) 1) (zero-div (2 ^ j))

-- A word with the bits that are read of an end that sends `sent`, from an edge on behind k: SDO as it stands, if that edge samples, and later the
-- bits of the word sent.
pub record Carries (t : Settings) (sent k : ℕ) (sdo : Bool) (v : ℕ) : Type 0 where
  pub next : samples (cke_of t) (k + 1) ≡ true → bit_of v (bits_left t k - 1) ≡ (not t.con1.dissdo && sdo)
  pub later : (j : ℕ) → j < bits_left t (k + 1) → bit_of v j ≡ (not t.con1.dissdo && bit_of sent j)

module _ (t : Settings) (sent k : ℕ) (sdo : Bool) where
  no_more : k + 1 < word_edges t → bits_left t (k + 1 + 1) ≤ bits_left t (k + 1)
  no_more h =
      by_test (samples (cke_of t) (k + 1 + 1)) (λ e. omega (arith, fewer t (k + 1) h e)) (λ e. omega (arith, as_many t (k + 1) h e))

  pub carries_on : (v : ℕ) → k + 1 < word_edges t → Carries t sent k sdo v → Carries t sent (k + 1) (sdo_after t sent (k + 1) sdo) v
  carries_on v h c =
      record {
        next =
            λ e.
            c.later (bits_left t (k + 1) - 1) (omega (arith, fewer t (k + 1) h e))
            ∙ ap (λ (b : Bool). not t.con1.dissdo && b) (sym (shows_on t sent k sdo e));
        later = λ j below. c.later j (omega (arith, below, no_more h));
      }

-- The levels, with SDO driven or not.
heard_levels : (t : Settings) (p : Progress) (sdo : Bool) → p.edges < word_edges t → t.con1.dissdo ≡ false →
    Carries t p.word p.edges sdo (all_levels t p sdo)
unfolding all_levels behind level_on
heard_levels t p sdo short driven =
    let read : (b : Bool) → b ≡ (not t.con1.dissdo && b) = λ b. sym (ap (λ (d : Bool). not d && b) driven) in
    record {
      next =
          λ e.
          let left = fewer t p.edges short e in
          ap (bit_of _) (omega arith)
          ∙ bit_top _ p.word (bits_left t (p.edges + 1))
          ∙ ap (λ (x : ℕ). eqb (x % 2) 1) (if_true (samples (cke_of t) (p.edges + 1)) _ _ e)
          ∙ level sdo
          ∙ read sdo;
      later = λ j below. bit_low (bits_left t (p.edges + 1)) _ p.word j below ∙ read (bit_of p.word j);
    }
  where
    level : (b : Bool) → eqb ((0 * 2 + bool_byte b) % 2) 1 ≡ b
    level true = refl
    level false = refl

heard_none : (t : Settings) (sent k : ℕ) (sdo : Bool) → t.con1.dissdo ≡ true → Carries t sent k sdo 0
heard_none t sent k sdo off =
    let read : (b : Bool) → false ≡ (not t.con1.dissdo && b) = λ b. sym (ap (λ (d : Bool). not d && b) off) in
    record { next = λ e. zero_bit _ ∙ read sdo; later = λ j below. zero_bit j ∙ read (bit_of sent j) }

pub carries_levels : (t : Settings) (p : Progress) (sdo : Bool) → p.edges < word_edges t →
    Carries t p.word p.edges sdo (when t.con1.dissdo then 0 else all_levels t p sdo)
carries_levels t p sdo short =
    if_keeps (Carries t p.word p.edges sdo) t.con1.dissdo _ _ (heard_none t p.word p.edges sdo)
    (heard_levels t p sdo short)
