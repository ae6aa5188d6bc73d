-- The numbers of the bytes that are digits.
--     digit_range    a decimal digit is one from 48 to 57
--     hex_range      a hexadecimal digit is one of these, or one from 65 to 70
-- Assumes nothing.
use Rattle.std.specs.Prelude.{◌≤◌, ◌||◌, ◌≡◌}
use Rattle.laws.proofs.Common.{ℕ, Bool, true, false, refl, leb-true, leb, and_left, and_right}
use mathlib.Core.Logic.{◌⊎◌, inl, inr, ⊎_map}
use Rattle.script_rules.specs.Script.{digit, hex_digit, between, fits_place}

-- A disjunction that is true has a part that is true.
one_of : (a b : Bool) → (a || b) ≡ true → (a ≡ true) ⊎ (b ≡ true)
one_of true b e = inl refl
one_of false b e = inr e

in_range : (low high b : ℕ) → between low high b ≡ true → (low ≤ b) × (b ≤ high)
unfolding between
in_range low high b e =
    (leb-true low b (and_left (leb low b) (leb b high) e), leb-true b high (and_right (leb low b) (leb b high) e))

pub digit_range : (b : ℕ) → fits_place digit b ≡ true → (48 ≤ b) × (b ≤ 57)
unfolding fits_place
digit_range b e = in_range 48 57 b e

pub hex_range : (b : ℕ) → fits_place hex_digit b ≡ true → ((48 ≤ b) × (b ≤ 57)) ⊎ ((65 ≤ b) × (b ≤ 70))
unfolding fits_place
hex_range b e = ⊎_map (in_range 48 57 b) (in_range 65 70 b) (one_of (between 48 57 b) (between 65 70 b) e)
