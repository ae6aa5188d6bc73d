-- How a fact settles a choice. Each law takes the fact and what the chosen value equals, and gives what the choice
-- equals: the proof of a branching function follows its branches with one law a test.
--     so, not_so         the test is true, or false
--     so_lt, not_so_lt   a test a < b, by a < b, or by b ≤ a
--     so_le, not_so_le   a test a ≤ b, by a ≤ b, or by b < a
--     so_eq, not_so_eq   a test a = b, by a ≡ b, or by its refutation
--     by_case            a function at an argument known to be a case
-- Assumes nothing.
use Prim.Native.Nat.{ℕ, ◌<◌, ◌≤◌}
use mathlib.Core.Bool.{Bool, true, false}
use mathlib.Core.Path.{◌≡◌, ap, sym, ◌∙◌}
use borrow.Author.Tests.{lt-ltb, le-ltb, le-leb, lt-leb, eq-eqb, ne_eqb}
use lib.Dec.{ltb, leb, eqb}
use Rattle.laws.specs.Choice.{when◌then◌else◌}

module _ {A : Type 0} {z : A} where
  pub so : (b : Bool) (x y : A) → b ≡ true → z ≡ x → z ≡ (when b then x else y)
  unfolding when◌then◌else◌
  so b x y e h = rw e h

  pub not_so : (b : Bool) (x y : A) → b ≡ false → z ≡ y → z ≡ (when b then x else y)
  unfolding when◌then◌else◌
  not_so b x y e h = rw e h

  pub so_lt : (a b : ℕ) (x y : A) → a < b → z ≡ x → z ≡ (when ltb a b then x else y)
  so_lt a b x y h = so (ltb a b) x y (lt-ltb a b h)

  pub not_so_lt : (a b : ℕ) (x y : A) → b ≤ a → z ≡ y → z ≡ (when ltb a b then x else y)
  not_so_lt a b x y h = not_so (ltb a b) x y (le-ltb a b h)

  pub so_le : (a b : ℕ) (x y : A) → a ≤ b → z ≡ x → z ≡ (when leb a b then x else y)
  so_le a b x y h = so (leb a b) x y (le-leb a b h)

  pub not_so_le : (a b : ℕ) (x y : A) → b < a → z ≡ y → z ≡ (when leb a b then x else y)
  not_so_le a b x y h = not_so (leb a b) x y (lt-leb a b h)

  pub so_eq : (a b : ℕ) (x y : A) → a ≡ b → z ≡ x → z ≡ (when eqb a b then x else y)
  so_eq a b x y h = so (eqb a b) x y (eq-eqb a b h)

  pub not_so_eq : (a b : ℕ) (x y : A) → (a ≡ b → ⊥) → z ≡ y → z ≡ (when eqb a b then x else y)
  not_so_eq a b x y h = not_so (eqb a b) x y (ne_eqb a b h)

-- What a function gives at a case, it gives at what is known to be that case.
pub by_case : {A B : Type 0} {z : B} (f : A → B) {x y : A} → x ≡ y → z ≡ f y → z ≡ f x
by_case f e h = h ∙ ap f (sym e)
