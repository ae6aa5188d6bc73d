-- Equations that can be tested.
--     Claim, Holds, judge   such an equation, what it says, and its test
--     judged                the test of a claim that holds is true
--     AllHold, all_judged, all_judged_lem   the same of a list
-- Assumes nothing.
use Prim.Native.Nat.{ℕ}
use mathlib.Core.Bool.{Bool, true, false, not, ◌&&◌, ◌||◌, beq}
use mathlib.Core.List.{List, [], ◌∷◌}
use mathlib.Core.Path.{◌≡◌, refl, sym, ap, ◌∙◌}
use borrow.Author.Tests.{eq-eqb}
use lib.Dec.{eqb}
use Rattle.laws.specs.Same.{same_numbers, same_levels}
use Rattle.laws.proofs.Keeps.{and_both}

-- Two levels, numbers or lists of them that must be equal, and a claim under a condition.
pub data Claim : Type 0 where
  level : Bool → Bool → Claim
  number : ℕ → ℕ → Claim
  levels : List Bool → List Bool → Claim
  numbers : List ℕ → List ℕ → Claim
  provided : Bool → Claim → Claim

abbrev pub Holds : Claim → Type 0
Holds (level a b) = a ≡ b
Holds (number a b) = a ≡ b
Holds (levels a b) = a ≡ b
Holds (numbers a b) = a ≡ b
Holds (provided b k) = b ≡ true → Holds k

abbrev pub judge : Claim → Bool
judge (level a b) = beq a b
judge (number a b) = eqb a b
judge (levels a b) = same_levels a b
judge (numbers a b) = same_numbers a b
judge (provided b k) = not b || judge k

level_same : (a : Bool) → beq a a ≡ true
level_same true = refl
level_same false = refl

levels_same : (a : List Bool) → same_levels a a ≡ true
levels_same [] = refl
levels_same (a ∷ rest) = and_both (beq a a) _ (level_same a) (levels_same rest)

numbers_same : (a : List ℕ) → same_numbers a a ≡ true
numbers_same [] = refl
numbers_same (a ∷ rest) = and_both (eqb a a) _ (eq-eqb a a refl) (numbers_same rest)

pub judged : (k : Claim) → Holds k → judge k ≡ true
judged (level a b) e = ap (beq a) (sym e) ∙ level_same a
judged (number a b) e = eq-eqb a b e
judged (levels a b) e = ap (same_levels a) (sym e) ∙ levels_same a
judged (numbers a b) e = ap (same_numbers a) (sym e) ∙ numbers_same a
judged (provided true k) h = judged k (h refl)
judged (provided false k) h = refl

infixr 5 ◌also◌
pub data AllHold : List Claim → Type 0 where
  none : AllHold []
  ◌also◌ : {k : Claim} {ks : List Claim} → Holds k → AllHold ks → AllHold (k ∷ ks)

abbrev pub all_judged : List Claim → Bool
all_judged [] = true
all_judged (k ∷ ks) = judge k && all_judged ks

pub all_judged_lem : {ks : List Claim} → AllHold ks → all_judged ks ≡ true
all_judged_lem none = refl
all_judged_lem (◌also◌ {k = k} {ks = ks} h rest) = and_both (judge k) (all_judged ks) (judged k h) (all_judged_lem rest)
