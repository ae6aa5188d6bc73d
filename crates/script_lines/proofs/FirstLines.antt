-- How long the line is that begins at a place of some bytes.
--     to_first_lf, first_place  the first line of some bytes is as long as the place of their first LF, or as they are if they have none
--     from_place  the bytes from a place on, as a slice of them all
--     runs_out    past the last byte it has no byte
--     within      it ends within the bytes
--     part        it is a part of them
--     no_line     past the last byte nothing can be read
-- Assumes nothing.
use Rattle.std.specs.Prelude.{◌+◌, ◌-◌, ◌<◌, ◌≤◌, ◌≡◌, ◌==◌, None, eqb, ltb, unwrap_or}
use Rattle.std.specs.List.{position, position_or_len}
use Rattle.std.proofs.lemmas.List.Recursion.{is_position_or_len}
use Rattle.laws.proofs.Common.{ℕ, List, ap, ◌∙◌, refl, sym, arith, ltb-false, length, take, drop, by_test}
use Rattle.laws.proofs.Common.{drop_of_length-le, length-take, length-drop, take_all, when◌then◌else◌}
use Rattle.script_rules.specs.Script.{lf, has_form, write_form, read_form, tick_form, tick_ss_form, pin_form, clear_form, reading_of}
use Rattle.script_rules.specs.Session.{first_line}
use Rattle.script_rules.proofs.ScriptLines.{first_line_taken}

pub to_first_lf : (bytes : List ℕ) → length (first_line bytes) ≡ position_or_len (λ b. b == lf) bytes
unfolding first_line when◌then◌else◌
to_first_lf bytes =
    is_position_or_len (λ bs. length (first_line bs)) (λ b. b == lf) refl
    (λ b bs. by_test (eqb b lf) (λ e. rw e refl) (λ e. rw e (omega arith)))
    bytes

pub first_place : (bytes : List ℕ) → unwrap_or (position (λ b. b == lf) bytes) (length bytes) ≡ length (first_line bytes)
first_place bytes =
    sym (by_test (ltb (position_or_len (λ b. b == lf) bytes) (length bytes))
    (λ e. rw e (to_first_lf bytes))
    (λ e. rw e (omega (arith, ltb-false _ _ e, to_first_lf bytes, ap length (first_line_taken bytes), length-take (length (first_line bytes)) bytes))))

module _ (bytes : List ℕ) (place : ℕ) where
  pub from_place : take (length bytes - place) (drop place bytes) ≡ drop place bytes
  from_place = take_all _ (drop place bytes) (omega (arith, length-drop place bytes))

  pub runs_out : length bytes ≤ place → length (first_line (drop place bytes)) ≡ 0
  unfolding first_line
  runs_out h = rw (drop_of_length-le bytes h)

  pub within : (n : ℕ) → n ≡ length (first_line (drop place bytes)) → place < length bytes → place + n ≤ length bytes
  within n e h =
      omega (
        arith,
        ap length (first_line_taken (drop place bytes)),
        length-take (length (first_line (drop place bytes))) (drop place bytes),
        length-drop place bytes,
      )

  pub part : (n : ℕ) → n ≡ length (first_line (drop place bytes)) → take n (drop place bytes) ≡ first_line (drop place bytes)
  part n e = ap (λ (k : ℕ). take k (drop place bytes)) e ∙ first_line_taken (drop place bytes)

  pub no_line : length bytes ≤ place → reading_of (first_line (drop place bytes)) ≡ None
  unfolding first_line reading_of has_form write_form read_form tick_form tick_ss_form pin_form clear_form when◌then◌else◌
  no_line h = rw (drop_of_length-le bytes h)
