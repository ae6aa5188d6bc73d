-- A whole number as a 64-bit float. Those of 32 bits are all there.
use Rattle.std.specs.Prelude.{ℕ, pos, Float}
use Rattle.std.specs.Float.{binary64}
use Rattle.std.specs.Float.Ieee.{of_int}

abbrev pub float_of : ℕ → Float
float_of n = of_int binary64 (pos n)
