-- A level as a number: 0 is low, anything else is high.
use Rattle.std.specs.Prelude.{ℕ, Bool, not, eqb}

abbrev pub level_in : ℕ → Bool
level_in x = not (eqb x 0)
