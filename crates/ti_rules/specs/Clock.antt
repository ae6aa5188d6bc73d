-- Document 002, 1.4.3, with request Ten: the bit rate of a master.
use Rattle.std.specs.Prelude.{ℕ, ◌+◌, ◌%◌, ltb, Float}
use Rattle.std.specs.Float.{binary64}
use Rattle.std.specs.Float.Ieee.{div}
use Rattle.floats.specs.Whole.{float_of}
use Rattle.laws.specs.Choice.{when◌then◌else◌}

-- SPIBRR counts by its low seven bits. 3 to 127 divide by one more, 0 to 2 by 4.
unfoldable pub divider_of : ℕ → ℕ
divider_of spibrr = when ltb (spibrr % 128) 3 then 4 else spibrr % 128 + 1

-- The rate: one division. LSPCLK 0 gives 0.
unfoldable pub rate_of : ℕ → ℕ → Float
rate_of spibrr lspclk = div binary64 (float_of lspclk) (float_of (divider_of spibrr))
