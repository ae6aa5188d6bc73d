-- Single numbers that are written into memory, one after the other.
use Rattle.std.specs.Prelude.{ℕ, List, [], ◌∷◌, set}

-- A place and the number that is written there.
pub record Write : Type 0 where
  pub place : ℕ
  pub number : ℕ

abbrev pub at : ℕ → ℕ → Write
at place number = record { place = place; number = number }

abbrev pub writes : List ℕ → List Write → List ℕ
writes w [] = w
writes w (x ∷ xs) = writes (set w x.place x.number) xs
