-- How a script's bytes fall into lines.
--     reads_all_lem, reads_no_more_lem    the bytes that are read: all of a short script, and no byte past the last that counts
--     reads_at_most               never more than that
--     read_part                   they are a part of the script, from the front
--     lines_begin                 the lines of some bytes are the first line, and the lines of what stands behind it and its LF
--     NoLf, no_lf, no_lf_append   a text without LF, one that is written out, and two of them joined
--     lines_end                   a text without LF, an LF and a rest are that text as a line, and the lines of the rest
--     lines_at_most               there are no more lines than bytes
--     first_line_taken            the first line is what the bytes begin with
--     no_form, too_long_lem           a line of a length that no form has, as one of more than 16 bytes, cannot be read
-- Assumes nothing.
use Rattle.std.specs.Prelude.{◌+◌, ◌≤◌, ◌<◌, ◌&&◌, ◌∷◌, ◌++◌, ◌≡◌, None}
use Rattle.laws.proofs.Common.{ℕ, zero, suc, Bool, true, false, not, List, [], refl, ap}
use Rattle.laws.proofs.Common.{◌∙◌, suc-add, arith, not-true, eqb, length, take, drop, length-take, take_all, take_at}
use Rattle.laws.proofs.Common.{when◌then◌else◌, if_keeps, if_false, and-false, and_left, and_right}
use Rattle.script_rules.specs.Script.{lf, most_bytes, read_from, longer, lines_of, Place, fits_place, has_form, write_form, read_form, tick_form, tick_ss_form, pin_form, clear_form, reading_of}
use Rattle.script_rules.specs.Session.{first_line}

-- What is read.

-- A script of no more bytes than are read is read whole.
pub reads_all_lem : (input : List ℕ) → length input ≤ 65535 → read_from input ≡ input
unfolding read_from most_bytes
reads_all_lem input h = take_all most_bytes input (omega arith)

-- Of a script with more bytes than are read, those behind them are not read.
pub reads_no_more_lem : (input more : List ℕ) → length input ≡ 65535 → read_from (input ++ more) ≡ input
unfolding read_from most_bytes
reads_no_more_lem input more e = take_at input more most_bytes (omega arith)

-- Of any script no more than these are read.
pub reads_at_most : (input : List ℕ) → length (read_from input) ≤ most_bytes
unfolding read_from
reads_at_most input = omega (arith, length-take most_bytes input)

taken_length : (n : ℕ) (l : List ℕ) → take (length (take n l)) l ≡ take n l
taken_length zero l = refl
taken_length (suc n) [] = refl
taken_length (suc n) (x ∷ l) = ap (λ (r : List ℕ). x ∷ r) (taken_length n l)

-- As many bytes as are read, from the front, are those that are read.
pub read_part : (input : List ℕ) (n : ℕ) → n ≡ length (read_from input) → take n input ≡ read_from input
unfolding read_from
read_part input n e = rw e (taken_length most_bytes input)

-- Lines.

-- Two ways to read a first byte agree if what is read behind it agrees.
by_first : (t : Bool) (b : ℕ) (bs : List ℕ) →
    longer b (lines_of bs) ≡ (b ∷ first_line bs) ∷ lines_of (drop (length (first_line bs) + 1) bs) →
    (when t then [] ∷ lines_of bs else longer b (lines_of bs))
    ≡ (when t then [] else b ∷ first_line bs) ∷ lines_of (drop (length (when t then [] else b ∷ first_line bs) + 1) (b ∷ bs))
unfolding when◌then◌else◌
by_first true b bs e = refl
by_first false b bs e = rw suc-add e

-- The lines of some bytes are the first line, and the lines of what stands behind it and its LF.
pub lines_begin : (bs : List ℕ) → 0 < length bs → lines_of bs ≡ first_line bs ∷ lines_of (drop (length (first_line bs) + 1) bs)
unfolding lines_of longer first_line
lines_begin [] h = absurd (omega arith)
lines_begin (b ∷ []) h = by_first (eqb b lf) b [] refl
lines_begin (b ∷ (c ∷ bs)) h = by_first (eqb b lf) b (c ∷ bs) (ap (longer b) (lines_begin (c ∷ bs) (omega arith)))

-- A text without LF.
abbrev pub NoLf : List ℕ → Type 0
NoLf [] = Unit {0}
NoLf (b ∷ bs) = (eqb b lf ≡ false) × NoLf bs

-- A text that is written out has no LF if the test finds none.
abbrev none_is_lf : List ℕ → Bool
none_is_lf [] = true
none_is_lf (b ∷ bs) = not (eqb b lf) && none_is_lf bs

pub no_lf : (t : List ℕ) → none_is_lf t ≡ true → NoLf t
no_lf [] e = tt
no_lf (b ∷ bs) e = (not-true (eqb b lf) (and_left (not (eqb b lf)) (none_is_lf bs) e), no_lf bs (and_right (not (eqb b lf)) (none_is_lf bs) e))

-- Two texts without LF are one text without LF.
pub no_lf_append : (s t : List ℕ) → NoLf s → NoLf t → NoLf (s ++ t)
no_lf_append [] t h k = k
no_lf_append (b ∷ s) t h k = (h.0, no_lf_append s t h.1 k)

-- A text without LF, an LF and a rest are that text as a line, and the lines of the rest.
pub lines_end : (t rest : List ℕ) → NoLf t → lines_of (t ++ (lf ∷ rest)) ≡ t ∷ lines_of rest
unfolding lines_of longer when◌then◌else◌
lines_end [] rest h = refl
lines_end (b ∷ t) rest h = if_false (eqb b lf) _ _ h.0 ∙ ap (longer b) (lines_end t rest h.1)

-- A byte more makes at most one line more.
longer_at_most : (b : ℕ) (lines : List (List ℕ)) → length (longer b lines) ≤ suc (length lines)
unfolding longer
longer_at_most b [] = omega arith
longer_at_most b (line ∷ lines) = omega arith

-- There are no more lines than bytes.
pub lines_at_most : (bs : List ℕ) → length (lines_of bs) ≤ length bs
unfolding lines_of
lines_at_most [] = omega arith
lines_at_most (b ∷ bs) =
    if_keeps (λ (ls : List (List ℕ)). length ls ≤ suc (length bs)) (eqb b lf) _ _
    (λ e. omega (arith, lines_at_most bs))
    (λ e. omega (arith, lines_at_most bs, longer_at_most b (lines_of bs)))

-- The first line is what the bytes begin with.
pub first_line_taken : (bs : List ℕ) → take (length (first_line bs)) bs ≡ first_line bs
unfolding first_line
first_line_taken [] = refl
first_line_taken (b ∷ bs) =
    if_keeps (λ (line : List ℕ). take (length line) (b ∷ bs) ≡ line) (eqb b lf) _ _
    (λ e. refl)
    (λ e. ap {B = List ℕ} (λ line. b ∷ line) (first_line_taken bs))

-- Lines of another length.

-- A line of another length than a form has places does not have that form.
not_fits : (ps : List Place) (bs : List ℕ) → (length bs ≡ length ps → ⊥) → has_form ps bs ≡ false
unfolding has_form
not_fits [] [] h = absurd (h refl)
not_fits [] (b ∷ bs) h = refl
not_fits (p ∷ ps) [] h = refl
not_fits (p ∷ ps) (b ∷ bs) h = and-false (fits_place p b) (has_form ps bs) (not_fits ps bs (λ e. h (ap suc e)))

-- A line of a length that no form has cannot be read.
pub no_form : (line : List ℕ) → (length line ≡ 8 → ⊥) → (length line ≡ 3 → ⊥) → (length line ≡ 5 → ⊥) → (length line ≡ 7 → ⊥) →
    (length line ≡ 1 → ⊥) → reading_of line ≡ None
unfolding reading_of write_form read_form tick_form tick_ss_form pin_form clear_form when◌then◌else◌
no_form line w r t p c =
    rw (
      not_fits write_form line w,
      not_fits read_form line r,
      not_fits tick_form line r,
      not_fits tick_ss_form line t,
      not_fits pin_form line p,
      not_fits clear_form line c,
    )

pub too_long_lem : (line : List ℕ) → 16 < length line → reading_of line ≡ None
too_long_lem line h = no_form line (λ e. omega arith) (λ e. omega arith) (λ e. omega arith) (λ e. omega arith) (λ e. omega arith)
