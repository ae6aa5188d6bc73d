-- `script_lines::eight_bytes` meets its contract: of the forms, one alone is of eight bytes. Assumes nothing.
use Rattle.std.specs.Prelude.{◌<◌, ◌∷◌, ◌≡◌}
use Rattle.laws.proofs.Common.{ℕ, arith, true, List, [], refl, sym, ◌∙◌, get_or, so, not_so}
use Rattle.script_rules.specs.Script.{hex_digit, level, fits_place, has_form, write_form, digit_value, four_hex_value}
use Rattle.script_lines.proofs.Digits.{digit_range}
use Rattle.script_lines.proofs.Forms.{fits_at, and-true, of_eight}
use Rattle.script_lines.proofs.eight_bytes.Goals as goal
use Rattle.script_lines.proofs.eight_bytes.Goals.{Then-k-s}

-- The line of the eight bytes. The test is whether it has the form of a write, and then each byte fits its place.
abbrev line : Then-k-s → List ℕ
line c = c.args.k ∷ c.args.s ∷ c.args.n ∷ c.args.t ∷ c.args.a ∷ c.args.b ∷ c.args.c ∷ c.args.d ∷ []

is_write : (c : Then-k-s) → has_form write_form (line c) ≡ true
unfolding has_form write_form fits_place
is_write c = cc (and-true (fits_place hex_digit c.args.d))

fits : (c : Then-k-s) (i : ℕ) → i < 8 → fits_place (get_or write_form i level) (get_or (line c) i 0) ≡ true
unfolding write_form
fits c i h = fits_at write_form (line c) (is_write c) i h

pub hex_value-requires : goal.hex_value-requires
unfolding has_form write_form fits_place digit_value four_hex_value
hex_value-requires c = fits (goal.at.hex_value-requires c).Then-k-s 4 (omega arith)

pub hex_value-requires-then-k-s : goal.hex_value-requires-then-k-s
unfolding has_form write_form fits_place digit_value four_hex_value
hex_value-requires-then-k-s c = fits (goal.at.hex_value-requires-then-k-s c).Then-k-s 5 (omega arith)

pub hex_value-requires-then-k-s-2 : goal.hex_value-requires-then-k-s-2
unfolding has_form write_form fits_place digit_value four_hex_value
hex_value-requires-then-k-s-2 c = fits (goal.at.hex_value-requires-then-k-s-2 c).Then-k-s 6 (omega arith)

pub hex_value-requires-then-k-s-3 : goal.hex_value-requires-then-k-s-3
unfolding has_form write_form fits_place digit_value four_hex_value
hex_value-requires-then-k-s-3 c = fits (goal.at.hex_value-requires-then-k-s-3 c).Then-k-s 7 (omega arith)

pub overflow_sub-result : goal.overflow_sub-result
unfolding has_form write_form fits_place digit_value four_hex_value
overflow_sub-result c =
    omega (arith, digit_range c.args.n (fits (goal.at.overflow_sub-result c).Then-k-s 2 (omega arith)))

pub returns-then-k-s : goal.returns-then-k-s
unfolding has_form write_form fits_place digit_value four_hex_value
returns-then-k-s c =
    so _ _ _ (is_write ((goal.at.returns-then-k-s c).Then-k-s)) (cc) ∙ sym (of_eight _ _ _ _ _ _ _ _)

pub returns : goal.returns
unfolding has_form write_form fits_place digit_value four_hex_value
returns c =
    not_so _ _ _ (cc (and-true (fits_place hex_digit c.args.d))) refl ∙ sym (of_eight _ _ _ _ _ _ _ _)
