-- Lists that agree, as a test.
use Rattle.std.specs.Prelude.{ℕ, Bool, true, false, ◌&&◌, List, [], ◌∷◌, eqb}
use Rattle.std.specs.Bool.{beq}

abbrev pub same_numbers : List ℕ → List ℕ → Bool
same_numbers [] [] = true
same_numbers [] (b ∷ bs) = false
same_numbers (a ∷ rest) [] = false
same_numbers (a ∷ rest) (b ∷ bs) = eqb a b && same_numbers rest bs

abbrev pub same_levels : List Bool → List Bool → Bool
same_levels [] [] = true
same_levels [] (b ∷ bs) = false
same_levels (a ∷ rest) [] = false
same_levels (a ∷ rest) (b ∷ bs) = beq a b && same_levels rest bs
