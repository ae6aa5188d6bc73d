-- Numbers of bits and powers of two, within 32 bits.
--     unit_least, unit-most          1 shifted by up to 16 places
--     product_fits, sum_fits         a number of 16 bits times it, and the low bits of another behind that
-- Assumes nothing.
use Rattle.std.specs.Prelude.{◌+◌, ◌*◌, ◌%◌, ◌^◌, ◌<◌, ◌≤◌, ◌≡◌}
use Rattle.laws.proofs.Common.{ℕ, ap, mul-le-mul, mod-lt, arith}
use lib.Pow.{pow_pos, pow_mono}
use Rattle.module_rules.proofs.Sizes.{one_shifted}

module _ (n : ℕ) (few : n ≤ 16) where
  abbrev unit : ℕ
  unit = 1 * 2 ^ n % 2 ^ 32

  pub unit_least : 0 < unit
  unit_least = omega (arith, one_shifted n few, pow_pos n)

  unit-most : unit ≤ 65536
  unit-most = omega (arith, one_shifted n few, pow_mono {i = n} {j = 16} few)

  product_most : (x : ℕ) → x < 65536 → x * unit ≤ 4294901760
  product_most x h = mul-le-mul {n₂ = 65535} {m₂ = 65536} (omega arith) unit-most

  pub product_fits : (x : ℕ) → x < 65536 → x * unit < 4294967296
  product_fits x h = omega (arith, product_most x h)

  pub sum_fits : (x v : ℕ) → x < 65536 → x * unit + v % unit < 4294967296
  sum_fits x v h = omega (arith, product_most x h, mod-lt v unit_least, unit-most)

  pub behind_is : (x v : ℕ) → x * unit + v % unit ≡ x * 2 ^ n + v % 2 ^ n
  behind_is x v = ap (λ (q : ℕ). x * q + v % q) (one_shifted n few)
