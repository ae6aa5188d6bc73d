-- The bits of a word, and the number that bits spell.
use Rattle.std.specs.Prelude.{ℕ, zero, suc, ◌+◌, ◌*◌, ◌-◌, ◌/◌, ◌%◌, ◌^◌, Bool, List, [], ◌∷◌, ◌++◌, eqb}
use mir.Val.{bool_byte}

-- Bit `i` of a number, 0 the lowest.
unfoldable pub bit_of : ℕ → ℕ → Bool
bit_of v i = eqb (v / 2 ^ i % 2) 1

-- The highest bits of a word of the given width, highest first.
abbrev pub top_bits : ℕ → ℕ → ℕ → List Bool
top_bits width zero word = []
top_bits width (suc count) word = top_bits width count word ++ (bit_of word (width - 1 - count) ∷ [])

-- The number that bits spell, highest first.
abbrev pub spelled : ℕ → List Bool → ℕ
spelled n [] = n
spelled n (b ∷ bits) = spelled (n * 2 + bool_byte b) bits

-- How many of a word's first edges are sampled.
abbrev pub sampled_in : (ℕ → Bool) → ℕ → ℕ
sampled_in samples zero = 0
sampled_in samples (suc edges) = sampled_in samples edges + bool_byte (samples (suc edges))
