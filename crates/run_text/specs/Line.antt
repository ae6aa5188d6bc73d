-- The line by which a program tells that it refuses.
use Rattle.std.specs.Prelude.{ℕ, List, [], ◌∷◌, ◌++◌}
use Rattle.std.specs.Fmt.{decimal}

-- `E `, the number in decimal, and the end of the line
abbrev pub refusal_line : ℕ → List ℕ
refusal_line n = (69 ∷ 32 ∷ []) ++ decimal n ++ (10 ∷ [])
