-- `script_lines::three_bytes` meets its contract: of the forms, two are of three bytes. Assumes nothing.
use Rattle.std.specs.Prelude.{◌∷◌, ◌≡◌}
use Rattle.laws.proofs.Common.{arith, true, false, [], refl, sym, ◌∙◌, so, not_so}
use Rattle.script_rules.specs.Script.{digit, level, fits_place, has_form, read_form, tick_form, digit_value, level_value}
use Rattle.script_lines.proofs.Digits.{digit_range}
use Rattle.script_lines.proofs.Forms.{fits_at, and-true, of_three}
use Rattle.script_lines.proofs.three_bytes.Goals as goal
use Rattle.script_lines.proofs.three_bytes.Goals.{Else-k-s, Then-k-s}

-- The first test is whether the line has the form of a read.
is_read : (c : Then-k-s) → has_form read_form (c.args.k ∷ c.args.s ∷ c.args.n ∷ []) ≡ true
unfolding has_form read_form fits_place
is_read c = cc (and-true (fits_place digit c.args.n))

not_read : (c : Else-k-s) → has_form read_form (c.args.k ∷ c.args.s ∷ c.args.n ∷ []) ≡ false
unfolding has_form read_form fits_place
not_read c = cc (and-true (fits_place digit c.args.n))

pub overflow_sub-result : goal.overflow_sub-result
unfolding has_form read_form tick_form fits_place digit_value level_value
overflow_sub-result c =
    omega (arith, digit_range c.args.n (fits_at read_form (c.args.k ∷ c.args.s ∷ c.args.n ∷ []) (is_read (goal.at.overflow_sub-result c).Then-k-s) 2 (omega arith)))

pub returns-then-k-s : goal.returns-then-k-s
unfolding has_form read_form tick_form fits_place digit_value level_value
returns-then-k-s c = so _ _ _ (is_read (goal.at.returns-then-k-s c).Then-k-s) refl ∙ sym (of_three _ _ _)

pub returns-then-k-s-2 : goal.returns-then-k-s-2
unfolding has_form read_form tick_form fits_place digit_value level_value
returns-then-k-s-2 c =
    not_so _ _ _ (not_read (goal.at.returns-then-k-s-2 c).Else-k-s) (so _ _ _ (cc (and-true (fits_place level c.args.n))) refl)
    ∙ sym (of_three _ _ _)

pub returns : goal.returns
unfolding has_form read_form tick_form fits_place digit_value level_value
returns c =
    not_so _ _ _ (not_read (goal.at.returns c).Else-k-s) (not_so _ _ _ (cc (and-true (fits_place level c.args.n))) refl)
    ∙ sym (of_three _ _ _)
