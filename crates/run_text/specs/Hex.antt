-- A number of 16 bits in four hexadecimal digits, in upper case.
use Rattle.std.specs.Prelude.{ℕ, List, true, ◌/◌, ◌%◌, ◌++◌}
use Rattle.std.specs.Fmt.{radix_digits}

-- the four digits, the highest first, each as `{:X}` writes it
abbrev pub four_hex : ℕ → List ℕ
four_hex n = radix_digits 16 true (n / 4096) ++ radix_digits 16 true (n / 256 % 16) ++ radix_digits 16 true (n / 16 % 16) ++ radix_digits 16 true (n % 16)
