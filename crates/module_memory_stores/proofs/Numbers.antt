-- Levels and flags are numbers.
--     level_back   a level that is stored as a number is read back
-- Assumes nothing.
use Rattle.std.specs.Prelude.{◌≡◌}
use Rattle.laws.proofs.Common.{Bool, true, false, refl}
use mir.Val.{bool_byte}
use Rattle.module_memory.specs.Memory.{bit_in}

pub level_back : (b : Bool) → bit_in (bool_byte b) ≡ b
unfolding bit_in
level_back true = refl
level_back false = refl
