-- The words of a buffer that are written into memory.
use Rattle.std.specs.Prelude.{ℕ, ◌+◌, List, [], ◌∷◌, get_or}
use Rattle.laws.specs.Writes.{Write, at}

-- The words of a buffer, from a place on.
abbrev pub words_written : ℕ → List ℕ → List Write
words_written first words =
    at first (get_or words 0 0)
    ∷ at (first + 1) (get_or words 1 0)
    ∷ at (first + 2) (get_or words 2 0)
    ∷ at (first + 3) (get_or words 3 0)
    ∷ at (first + 4) (get_or words 4 0)
    ∷ at (first + 5) (get_or words 5 0)
    ∷ at (first + 6) (get_or words 6 0)
    ∷ at (first + 7) (get_or words 7 0)
    ∷ at (first + 8) (get_or words 8 0)
    ∷ at (first + 9) (get_or words 9 0)
    ∷ at (first + 10) (get_or words 10 0)
    ∷ at (first + 11) (get_or words 11 0)
    ∷ at (first + 12) (get_or words 12 0)
    ∷ at (first + 13) (get_or words 13 0)
    ∷ at (first + 14) (get_or words 14 0)
    ∷ at (first + 15) (get_or words 15 0)
    ∷ []
