-- What the forms of a line say.
--     fits_at        each byte of a line that has a form has_form its place
--     of_eight, of_three, of_five, of_seven, of_one    the forms differ in their length: what a line of that length reads as
--     and-true       the last byte's test ends the row of tests
-- Assumes nothing.
use Rattle.std.specs.Prelude.{◌<◌, ◌&&◌, ◌∷◌, ◌≡◌, Some, None}
use Rattle.laws.proofs.Common.{ℕ, zero, suc, arith, Bool, true, false, List, [], refl, eqb, length, get_or}
use Rattle.laws.proofs.Common.{when◌then◌else◌, clash, and_left, and_right}
use Prim.Native.Char.{code}
use Rattle.module_types.specs.declared.Call.TheVariants.{Read, Write, Tick, Pin, Clear}
use Rattle.script_rules.specs.Script.{Place, level, fits_place, has_form, write_form, read_form, tick_form, tick_ss_form, pin_form, clear_form, digit_value, four_hex_value, level_value, reading_of}

pub fits_at : (form : List Place) (line : List ℕ) → has_form form line ≡ true → (k : ℕ) → k < length form →
    fits_place (get_or form k level) (get_or line k 0) ≡ true
unfolding has_form
fits_at [] [] e k h = absurd (omega arith)
fits_at [] (b ∷ bs) e k h = clash false e refl
fits_at (p ∷ ps) [] e k h = clash false e refl
fits_at (p ∷ ps) (b ∷ bs) e zero h = and_left (fits_place p b) (has_form ps bs) e
fits_at (p ∷ ps) (b ∷ bs) e (suc k) h = fits_at ps bs (and_right (fits_place p b) (has_form ps bs) e) k (omega arith)

-- A row of tests that runs on behind the line's last byte, or ends before it, fails.
and-false : (b : Bool) → (b && false) ≡ false
and-false true = refl
and-false false = refl

pub and-true : (b : Bool) → (b && true) ≡ b
and-true true = refl
and-true false = refl

pub of_eight : (k s n t a b c d : ℕ) → let line = k ∷ s ∷ n ∷ t ∷ a ∷ b ∷ c ∷ d ∷ [] in
    reading_of line ≡ (when has_form write_form line then Some (Write (digit_value n) (four_hex_value a b c d)) else None)
unfolding reading_of has_form write_form read_form tick_form tick_ss_form pin_form clear_form when◌then◌else◌
of_eight k s n t a b c d = simp and-false

pub of_three : (k s n : ℕ) → let line = k ∷ s ∷ n ∷ [] in
    reading_of line
    ≡ (when has_form read_form line then Some (Read (digit_value n))
    else when has_form tick_form line then Some (Tick (level_value n) false) else None)
unfolding reading_of has_form write_form read_form tick_form tick_ss_form pin_form clear_form when◌then◌else◌
of_three k s n = simp and-false

pub of_five : (k s a t b : ℕ) → let line = k ∷ s ∷ a ∷ t ∷ b ∷ [] in
    reading_of line ≡ (when has_form tick_ss_form line then Some (Tick (level_value a) (level_value b)) else None)
unfolding reading_of has_form write_form read_form tick_form tick_ss_form pin_form clear_form when◌then◌else◌
of_five k s a t b = simp and-false

pub of_seven : (k s a t b u c : ℕ) → let line = k ∷ s ∷ a ∷ t ∷ b ∷ u ∷ c ∷ [] in
    reading_of line ≡ (when has_form pin_form line then Some (Pin (level_value a) (level_value b) (level_value c)) else None)
unfolding reading_of has_form write_form read_form tick_form tick_ss_form pin_form clear_form when◌then◌else◌
of_seven k s a t b u c = simp and-false

pub of_one : (k : ℕ) → reading_of (k ∷ []) ≡ (when eqb k (code "C") then Some Clear else None)
unfolding reading_of has_form fits_place write_form read_form tick_form tick_ss_form pin_form clear_form when◌then◌else◌
of_one k = simp (and-false, and-true)
