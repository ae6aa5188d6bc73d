-- Equations that can be tested.
--     Claim, Holds, judge   such an equation, what it says, and its test
--     judge_exact           the test is true exactly if it holds
--     AllHold, all_judged, all_judged_lem, all_hold_lem   the same of a list
-- Assumes nothing.
use Rattle.std.specs.Prelude.{◌&&◌, ◌||◌, ◌∷◌, ◌≡◌}
use Rattle.laws.proofs.Common.{ℕ, Bool, true, false, not, Bool·beq, List, [], refl, sym, ap, ap₂, ◌∙◌}
use Rattle.laws.proofs.Common.{eqb-true, eq-eqb, eqb, clash, and_left, and_right, and_both, like}
use Rattle.module_rules.proofs.Types.{Output, Low, High, Undriven, Answer, Refused, Done, Value, NoEdge, Edge}
use Rattle.module_rules.specs.Flags.{Placed}

-- Two levels, numbers, lists of numbers or of placed bits, or outputs that must be equal; an answer that must be this value; and a
-- claim under a condition.
pub data Claim : Type 0 where
  level : Bool → Bool → Claim
  number : ℕ → ℕ → Claim
  levels : List Placed → List Placed → Claim
  numbers : List ℕ → List ℕ → Claim
  pin : Output → Output → Claim
  told : Answer → ℕ → Claim
  provided : Bool → Claim → Claim

abbrev pub Holds : Claim → Type 0
Holds (level a b) = a ≡ b
Holds (number a b) = a ≡ b
Holds (levels a b) = a ≡ b
Holds (numbers a b) = a ≡ b
Holds (pin a b) = a ≡ b
Holds (told a v) = a ≡ Value v
Holds (provided b k) = b ≡ true → Holds k

abbrev pub same_levels : List Placed → List Placed → Bool
same_levels [] [] = true
same_levels [] (b ∷ bs) = false
same_levels (a ∷ rest) [] = false
same_levels (a ∷ rest) (b ∷ bs) = (Bool·beq a.bit b.bit && eqb a.place b.place) && same_levels rest bs

abbrev pub same_numbers : List ℕ → List ℕ → Bool
same_numbers [] [] = true
same_numbers [] (b ∷ bs) = false
same_numbers (a ∷ rest) [] = false
same_numbers (a ∷ rest) (b ∷ bs) = eqb a b && same_numbers rest bs

abbrev pub place : Output → ℕ
place Low = 0
place High = 1
place Undriven = 2

abbrev pub tells : Answer → ℕ → Bool
tells (Refused r) v = false
tells Done v = false
tells (Value w) v = eqb w v
tells NoEdge v = false
tells Edge v = false

abbrev pub judge : Claim → Bool
judge (level a b) = Bool·beq a b
judge (number a b) = eqb a b
judge (levels a b) = same_levels a b
judge (numbers a b) = same_numbers a b
judge (pin a b) = eqb (place a) (place b)
judge (told a v) = tells a v
judge (provided b k) = not b || judge k

-- The tests of levels, lists and outputs.
level_same : (a b : Bool) → a ≡ b → Bool·beq a b ≡ true
level_same true b e = ap (Bool·beq true) (sym e)
level_same false b e = ap (Bool·beq false) (sym e)

placed_judged : (a b : Placed) → (Bool·beq a.bit b.bit && eqb a.place b.place) ≡ true → a ≡ b
placed_judged a b e =
    let same : a.bit ≡ b.bit = like a.bit b.bit (and_left (Bool·beq a.bit b.bit) _ e) in
    let there : a.place ≡ b.place = eqb-true a.place b.place (and_right (Bool·beq a.bit b.bit) _ e) in
    λ i. record { bit = same i; place = there i }

levels_judged : (a b : List Placed) → same_levels a b ≡ true → a ≡ b
levels_judged [] [] e = refl
levels_judged [] (b ∷ bs) e = clash false e refl
levels_judged (a ∷ rest) [] e = clash false e refl
levels_judged (a ∷ rest) (b ∷ bs) e =
    let first : Bool = Bool·beq a.bit b.bit && eqb a.place b.place in
    ap₂ (λ (x : Placed) (xs : List Placed). x ∷ xs) (placed_judged a b (and_left first _ e)) (levels_judged rest bs (and_right first _ e))

levels_same : (a : List Placed) → same_levels a a ≡ true
levels_same [] = refl
levels_same (a ∷ rest) =
    and_both _ _ (and_both _ _ (level_same a.bit a.bit refl) (eq-eqb a.place a.place refl)) (levels_same rest)

numbers_judged : (a b : List ℕ) → same_numbers a b ≡ true → a ≡ b
numbers_judged [] [] e = refl
numbers_judged [] (b ∷ bs) e = clash false e refl
numbers_judged (a ∷ rest) [] e = clash false e refl
numbers_judged (a ∷ rest) (b ∷ bs) e =
    ap₂ (λ (x : ℕ) (xs : List ℕ). x ∷ xs) (eqb-true a b (and_left (eqb a b) _ e)) (numbers_judged rest bs (and_right (eqb a b) _ e))

numbers_same : (a : List ℕ) → same_numbers a a ≡ true
numbers_same [] = refl
numbers_same (a ∷ rest) = and_both (eqb a a) _ (eq-eqb a a refl) (numbers_same rest)

pins_judged : (a b : Output) → eqb (place a) (place b) ≡ true → a ≡ b
pins_judged Low Low e = refl
pins_judged Low High e = clash false e refl
pins_judged Low Undriven e = clash false e refl
pins_judged High Low e = clash false e refl
pins_judged High High e = refl
pins_judged High Undriven e = clash false e refl
pins_judged Undriven Low e = clash false e refl
pins_judged Undriven High e = clash false e refl
pins_judged Undriven Undriven e = refl

told_judged : (a : Answer) (v : ℕ) → tells a v ≡ true → a ≡ Value v
told_judged (Refused r) v e = clash false e refl
told_judged Done v e = clash false e refl
told_judged (Value w) v e = ap (λ (k : ℕ). Value k) (eqb-true w v e)
told_judged NoEdge v e = clash false e refl
told_judged Edge v e = clash false e refl

-- The test is true exactly if the claim holds.
pub judge_exact : (k : Claim) → (judge k ≡ true → Holds k) × (Holds k → judge k ≡ true)
judge_exact (level a b) = (like a b, level_same a b)
judge_exact (number a b) = (eqb-true a b, eq-eqb a b)
judge_exact (levels a b) = (levels_judged a b, λ e. ap (same_levels a) (sym e) ∙ levels_same a)
judge_exact (numbers a b) = (numbers_judged a b, λ e. ap (same_numbers a) (sym e) ∙ numbers_same a)
judge_exact (pin a b) = (pins_judged a b, λ e. eq-eqb (place a) (place b) (ap place e))
judge_exact (told a v) = (told_judged a v, λ e. ap (λ (x : Answer). tells x v) e ∙ eq-eqb v v refl)
judge_exact (provided true k) = (λ e on. (judge_exact k).0 e, λ h. (judge_exact k).1 (h refl))
judge_exact (provided false k) = (λ e on. clash false on refl, λ h. refl)

-- A list of claims.
infixr 5 ◌also◌
pub data AllHold : List Claim → Type 0 where
  none : AllHold []
  ◌also◌ : {k : Claim} {ks : List Claim} → Holds k → AllHold ks → AllHold (k ∷ ks)

abbrev pub all_judged : List Claim → Bool
all_judged [] = true
all_judged (k ∷ ks) = judge k && all_judged ks

pub all_judged_lem : {ks : List Claim} → AllHold ks → all_judged ks ≡ true
all_judged_lem none = refl
all_judged_lem (◌also◌ {k = k} {ks = ks} h rest) = and_both (judge k) (all_judged ks) ((judge_exact k).1 h) (all_judged_lem rest)

pub all_hold_lem : (ks : List Claim) → all_judged ks ≡ true → AllHold ks
all_hold_lem [] e = none
all_hold_lem (k ∷ ks) e = (judge_exact k).0 (and_left (judge k) _ e) also all_hold_lem ks (and_right (judge k) _ e)
