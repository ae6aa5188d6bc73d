-- The pieces of a script make the whole of it. A session that is reached by playing has counted no more lines than bytes:
-- each line is at least its LF, or the end of the script. So it has ended only where no byte is left, and playing as many
-- lines as are left, or more, plays them all.
--     next_line_first      a session that has not ended has its next line in front of the lines that are left after it
--     plays_the_rest       lines enough play the rest of a script: its answers, and the module in which it ends
--     played_add, answers_add
--                          lines played in two goes are played in one
--     pieces_are_lines, pieces_text_is_answers
--                          pieces are their lines, played in one go
--     in_pieces_lem, ends_there_lem
--                          256 pieces from the start are the whole script
-- Assumes nothing.
use Rattle.std.specs.Prelude.{◌+◌, ◌*◌, ◌≤◌, ◌<◌, ◌∷◌, ◌++◌, ◌≡◌}
use Rattle.laws.proofs.Common.{ℕ, zero, suc, true, false, List, [], append_assoc, refl}
use Rattle.laws.proofs.Common.{sym, ap, ◌∙◌, zero-add, suc-add, add_assoc, zero-mul, suc-mul, arith, leb-true, leb-false}
use Rattle.laws.proofs.Common.{ltb-true, leb, length, drop, length-drop, drop_of_length-le, drop-drop, when◌then◌else◌, if_true}
use Rattle.laws.proofs.Common.{or_left, or_rest, by_test}
use native.Mathlib.Nat.{add_comm}
use Rattle.module_rules.specs.Calls.{powered_up, after_calls}
use Rattle.script_rules.specs.declared.Session.{Session}
use Rattle.script_rules.specs.Script.{most_bytes, read_from, lines_of, reading_of, answer_line, answers_from, lines_calls, script_output, script_calls}
use Rattle.script_rules.specs.Session.{started, bytes_left, ended, line_of, line_played, played, answers, piece_lines, piece_after, piece_text, pieces, pieces_text}
use Rattle.script_rules.proofs.ScriptLines.{reads_at_most, lines_begin, lines_at_most}
use Rattle.script_rules.proofs.ScriptText.{call_of_line}

-- A list of no elements.
none : {A : Type 0} (l : List A) → length l ≤ 0 → l ≡ []
none [] h = refl
none (x ∷ l) h = absurd (omega arith)

module _ (input : List ℕ) where
  -- A session that counts no more lines than bytes has ended only where no byte is left.
  ended_is_empty : (s : Session) → s.lines ≤ s.at → ended input s ≡ true → bytes_left input s ≡ []
  unfolding ended bytes_left
  ended_is_empty s h e =
      drop_of_length-le (read_from input)
      (by_test (leb (length (read_from input)) s.at)
      (λ t. leb-true _ _ t)
      (λ f. omega (arith, ltb-true most_bytes s.lines (or_rest _ _ e f), reads_at_most input)))

  -- A session that has not ended has its next line in front of those that are left after it.
  pub next_line_first : (s : Session) → ended input s ≡ false →
      lines_of (bytes_left input s) ≡ line_of input s ∷ lines_of (bytes_left input (line_played input s))
  unfolding ended bytes_left line_of line_played
  next_line_first s e =
      let inside : s.at < length (read_from input) = leb-false _ _ (or_left _ _ e) in
      lines_begin (drop s.at (read_from input)) (omega (arith, length-drop s.at (read_from input)))
      ∙ rw (drop-drop, add_assoc)

  -- Lines enough play the rest of a script.
  pub plays_the_rest : (count : ℕ) (s : Session) → s.lines ≤ s.at → length (lines_of (bytes_left input s)) ≤ count →
      (answers count input s ≡ answers_from s.spi s.lines (lines_of (bytes_left input s)))
      × ((played count input s).spi ≡ after_calls s.spi (lines_calls (lines_of (bytes_left input s))))
  unfolding answers played answers_from lines_calls lines_of line_played when◌then◌else◌
  plays_the_rest zero s h k = rw (none (lines_of (bytes_left input s)) k) (refl, refl)
  plays_the_rest (suc count) s h k =
      by_test (ended input s)
      (λ e. rw (e, ended_is_empty s h e) (refl, refl))
      (λ e.
      let next = next_line_first s e in
      let rest = plays_the_rest count (line_played input s) (omega arith) (omega (arith, ap length next)) in
      rw (e, next) (
        ap (λ (t : List ℕ). answer_line (s.lines + 1) s.spi (reading_of (line_of input s)) ++ t) rest.0,
        rest.1 ∙ sym (call_of_line s.spi (reading_of (line_of input s)) _),
      ))

  -- A session that has ended answers nothing more, and stays where it is.
  pub ended_answers : (count : ℕ) (s : Session) → ended input s ≡ true → answers count input s ≡ []
  unfolding answers
  ended_answers zero s e = refl
  ended_answers (suc count) s e = if_true (ended input s) _ _ e

  pub ended_stays : (count : ℕ) (s : Session) → ended input s ≡ true → played count input s ≡ s
  unfolding played
  ended_stays zero s e = refl
  ended_stays (suc count) s e = if_true (ended input s) _ _ e

  -- Lines played in two goes are played in one.
  pub played_add : (a b : ℕ) (s : Session) → played (a + b) input s ≡ played b input (played a input s)
  unfolding played when◌then◌else◌
  played_add zero b s = rw zero-add
  played_add (suc a) b s =
      rw suc-add
      (by_test (ended input s)
      (λ e. rw e (sym (ended_stays b s e)))
      (λ e. rw e (played_add a b (line_played input s))))

  pub answers_add : (a b : ℕ) (s : Session) →
      answers (a + b) input s ≡ answers a input s ++ answers b input (played a input s)
  unfolding answers played when◌then◌else◌
  answers_add zero b s = rw zero-add
  answers_add (suc a) b s =
      rw suc-add
      (by_test (ended input s)
      (λ e. rw e (sym (ended_answers b s e)))
      (λ e. rw (e, answers_add a b (line_played input s), append_assoc)))

  -- Pieces are their lines, played in one go.
  pub pieces_are_lines : (count : ℕ) (s : Session) → pieces count input s ≡ played (count * piece_lines) input s
  unfolding pieces piece_after played
  pieces_are_lines zero s = rw zero-mul
  pieces_are_lines (suc count) s =
      pieces_are_lines count (piece_after input s)
      ∙ rw (suc-mul, add_comm) (sym (played_add piece_lines (count * piece_lines) s))

  pub pieces_text_is_answers : (count : ℕ) (s : Session) → pieces_text count input s ≡ answers (count * piece_lines) input s
  unfolding pieces_text piece_text piece_after answers
  pieces_text_is_answers zero s = rw zero-mul
  pieces_text_is_answers (suc count) s =
      rw (suc-mul, add_comm, answers_add, pieces_text_is_answers count (piece_after input s))

  -- A script has no more lines than 256 pieces.
  pieces-enough : length (lines_of (read_from input)) ≤ 256 * piece_lines
  unfolding most_bytes piece_lines
  pieces-enough = omega (arith, lines_at_most (read_from input), reads_at_most input)

  -- The whole script is played by 256 pieces.
  whole : (answers (256 * piece_lines) input started ≡ script_output input)
      × ((played (256 * piece_lines) input started).spi ≡ after_calls powered_up (script_calls input))
  unfolding started bytes_left script_output script_calls
  whole = plays_the_rest (256 * piece_lines) started (omega arith) pieces-enough

-- 256 pieces from the start write the whole output.
pub in_pieces_lem : (input : List ℕ) → pieces_text 256 input started ≡ script_output input
in_pieces_lem input = pieces_text_is_answers input 256 started ∙ (whole input).0

-- They end in the module that the script's calls reach.
pub ends_there_lem : (input : List ℕ) → (pieces 256 input started).spi ≡ after_calls powered_up (script_calls input)
ends_there_lem input = ap (λ (s : Session). s.spi) (pieces_are_lines input 256 started) ∙ (whole input).1
