-- Small numbers are bytes.
--     byte_small   a number below 256 is its own low byte
-- Assumes nothing.
use Rattle.std.specs.Prelude.{◌<◌, ◌≡◌}
use Rattle.laws.proofs.Common.{ℕ, arith}
use Rattle.module_memory.specs.Memory.{byte_in}

pub byte_small : (x : ℕ) → x < 256 → byte_in x ≡ x
unfolding byte_in
byte_small x h = omega arith
