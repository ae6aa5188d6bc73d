-- The bytes of what changed.
--     binary_digits    a number in binary is so many digits in base two
-- Assumes nothing.
use Rattle.std.specs.Prelude.{◌/◌, ◌%◌, ◌≡◌}
use Rattle.laws.proofs.Common.{ℕ, zero, suc, refl, arith}
use Rattle.script_digits.specs.Digits.{digits_of}
use Rattle.script_digits.proofs.Digits.{low_letter}
use Rattle.wave_steps.specs.Wave.{binary_of}

pub binary_digits : (places n : ℕ) → binary_of places n ≡ digits_of 2 places n
unfolding binary_of digits_of
binary_digits zero n = refl
binary_digits (suc places) n = cc (binary_digits places (n / 2), low_letter (n % 2) (omega arith))
