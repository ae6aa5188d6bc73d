-- How the edges of a word move its clock and its received bits.
--     sampled_more, sampled_same   an edge that samples adds one bit, and any other none
--     sampled_none, sampled_all    no bit before the first edge, and w bits after edge 2w
--     sampled_most                 no more than w bits by edge 2w
--     received_fits                the bits received fit the number of bits sampled
--     shown_sampled                above the bit that SDO shows after an edge stand those sampled before that edge
--     shown_kept, shown_changed    the bit after an edge that samples, and after one that changes SDO
--     turned                       each edge takes the clock to its other level
-- Assumes nothing.
use Rattle.std.specs.Prelude.{◌+◌, ◌-◌, ◌*◌, ◌/◌, ◌%◌, ◌^◌, ◌<◌, ◌≤◌, ◌≡◌}
use Rattle.laws.proofs.Common.{ℕ, suc, Bool, true, false, not, Bool·beq, refl}
use Rattle.laws.proofs.Common.{sym, arith, eqb-true, eqb-false, eq-eqb, ne_eqb, not-true, not-false, eqb, when◌then◌else◌}
use Rattle.laws.proofs.Common.{if_keeps, like, unlike, by_test}
use Rattle.module_types.specs.declared.Settings.{Settings}
use Rattle.module_rules.specs.Settings.{cke_of}
use Rattle.module_rules.specs.Bits.{samples, shifted_in, received_after}
use Rattle.module_rules.specs.Invariant.{sampled}

-- An edge that samples adds a bit.
pub sampled_more : (cke : Bool) (k : ℕ) → samples cke (k + 1) ≡ true → sampled cke (k + 1) ≡ suc (sampled cke k)
unfolding sampled when◌then◌else◌
sampled_more true k e =
    let odd : (k + 1) % 2 ≡ 1 = eqb-true ((k + 1) % 2) 1 (sym (like true _ e)) in
    omega arith
sampled_more false k e =
    let even : (k + 1) % 2 ≡ 1 → ⊥ = eqb-false ((k + 1) % 2) 1 (sym (like false _ e)) in
    omega arith

-- An edge that does not sample adds none.
pub sampled_same : (cke : Bool) (k : ℕ) → samples cke (k + 1) ≡ false → sampled cke (k + 1) ≡ sampled cke k
unfolding sampled when◌then◌else◌
sampled_same true k e =
    let is_odd : Bool = eqb ((k + 1) % 2) 1 in
    let even : (k + 1) % 2 ≡ 1 → ⊥ = eqb-false ((k + 1) % 2) 1 (not-true is_odd (sym (unlike true is_odd e))) in
    omega arith
sampled_same false k e =
    let is_odd : Bool = eqb ((k + 1) % 2) 1 in
    let odd : (k + 1) % 2 ≡ 1 = eqb-true ((k + 1) % 2) 1 (not-false is_odd (sym (unlike false is_odd e))) in
    omega arith

-- Before the first edge no bit is sampled.
pub sampled_none : (cke : Bool) → sampled cke 0 ≡ 0
unfolding sampled when◌then◌else◌
sampled_none true = refl
sampled_none false = refl

-- After edge 2w, w bits are sampled.
pub sampled_all : (cke : Bool) (k w : ℕ) → k ≡ 2 * w → sampled cke k ≡ w
unfolding sampled when◌then◌else◌
sampled_all true k w e = omega arith
sampled_all false k w e = omega arith

-- By edge 2w no more than w bits are sampled.
pub sampled_most : (cke : Bool) (k w : ℕ) → k ≤ 2 * w → sampled cke k ≤ w
unfolding sampled when◌then◌else◌
sampled_most true k w h = omega arith
sampled_most false k w h = omega arith

-- Above the bit that SDO shows after an edge stand as many bits as were sampled before that edge.
pub shown_sampled : (cke : Bool) (k : ℕ) → (when cke then k + 1 else k + 1 - 1) / 2 ≡ sampled cke k
unfolding sampled when◌then◌else◌
shown_sampled true k = refl
shown_sampled false k = omega arith

-- An edge that samples finds SDO at the bit that the edge before it left there.
pub shown_kept : (cke : Bool) (k : ℕ) → samples cke (k + 1) ≡ true → (when cke then k else k - 1) / 2 ≡ sampled cke k
unfolding sampled when◌then◌else◌
shown_kept true k e =
    let odd : (k + 1) % 2 ≡ 1 = eqb-true ((k + 1) % 2) 1 (sym (like true _ e)) in
    omega arith
shown_kept false k e =
    let even : (k + 1) % 2 ≡ 1 → ⊥ = eqb-false ((k + 1) % 2) 1 (sym (like false _ e)) in
    omega arith

-- An edge that does not sample takes SDO to the bit below those sampled.
pub shown_changed : (cke : Bool) (k : ℕ) → samples cke (k + 1) ≡ false → (k + 1) / 2 ≡ sampled cke k
unfolding sampled when◌then◌else◌
shown_changed true k e = refl
shown_changed false k e =
    let is_odd : Bool = eqb ((k + 1) % 2) 1 in
    let odd : (k + 1) % 2 ≡ 1 = eqb-true ((k + 1) % 2) 1 (not-false is_odd (sym (unlike false is_odd e))) in
    omega arith

-- A sampled bit makes the received bits one longer.
shifted_in_fits : (k received : ℕ) (sdi : Bool) → received < 2 ^ k → shifted_in received sdi < 2 ^ suc k
unfolding shifted_in
shifted_in_fits k received true h = omega arith
shifted_in_fits k received false h = omega arith

-- The bits received fit the number of bits sampled, after an edge as before it.
pub received_fits : (s : Settings) (k : ℕ) (sdi : Bool) (received : ℕ) →
    received < 2 ^ sampled (cke_of s) k → received_after s (k + 1) sdi received < 2 ^ sampled (cke_of s) (k + 1)
unfolding received_after
received_fits s k sdi received h =
    if_keeps (λ (x : ℕ). x < 2 ^ sampled (cke_of s) (k + 1)) (samples (cke_of s) (k + 1)) _ _
    (λ e. rw (sampled_more (cke_of s) k e) (shifted_in_fits (sampled (cke_of s) k) received sdi h))
    (λ e. rw (sampled_same (cke_of s) k e) h)

-- Of two numbers that follow one another, one is even.
pub parity_turns : (k : ℕ) → eqb ((k + 1) % 2) 0 ≡ not (eqb (k % 2) 0)
parity_turns k =
    by_test (eqb (k % 2) 0) (λ e. rw e (ne_eqb ((k + 1) % 2) 0 (λ z. omega (arith, z, eqb-true (k % 2) 0 e))))
    (λ e. let odd : k % 2 ≡ 0 → ⊥ = eqb-false (k % 2) 0 e in rw e (eq-eqb ((k + 1) % 2) 0 (omega arith)))

-- A level agrees with what another does not.
pub beq_not : (a b : Bool) → Bool·beq a (not b) ≡ not (Bool·beq a b)
beq_not true true = refl
beq_not true false = refl
beq_not false true = refl
beq_not false false = refl

-- To agree with high is to be high.
pub beq_high : (a : Bool) → Bool·beq a true ≡ a
beq_high true = refl
beq_high false = refl

-- To agree with low is to be low.
pub beq_low : (a : Bool) → Bool·beq a false ≡ not a
beq_low true = refl
beq_low false = refl

-- The clock's level after k edges turns to its level after k + 1.
pub turned : (ckp : Bool) (k : ℕ) → not (Bool·beq ckp (eqb (k % 2) 0)) ≡ Bool·beq ckp (eqb ((k + 1) % 2) 0)
turned ckp k = rw (parity_turns k) (sym (beq_not ckp (eqb (k % 2) 0)))
