-- The demands on saved sessions of specs/SaveDemands.antt, all of them.
--     saves_hold      what the buyer signs for, of saved sessions
--     buffer_length   the buffer stays as long as it is
-- Assumes nothing.
use Rattle.std.specs.Prelude.{◌+◌, ◌*◌, ◌≤◌, ◌&&◌, ◌||◌, ◌∷◌, ◌++◌, Ok, Err, ◌≡◌}
use Rattle.laws.proofs.Common.{ℕ, Bool, true, false, not, List, [], refl, sym, ap}
use Rattle.laws.proofs.Common.{◌∙◌, arith, leb-true, leb, ltb, length, take, drop, length-append, length-drop, take_at}
use Rattle.laws.proofs.Common.{drop_at, when◌then◌else◌, if_true, if_false, and_left, and_right, by_test}
use Rattle.module_rules.proofs.Types.{Module, Call}
use Rattle.module_rules.specs.RefusalTable.{row, first_number}
use Rattle.module_rules.specs.Calls.{powered_up, after_calls}
use Rattle.script_rules.specs.Script.{read_from, lines_of, script_calls, script_end}
use Rattle.trace_rules.specs.Trace.{section_count, file_calls, played_of, is_made, played_module}
use Rattle.trace_save_rules.specs.Save.{kept_calls, saved_file, has_room, no_room, saved_of, buffer_after, saved_number_of, saved_length_of}
use Rattle.trace_save_rules.specs.SaveDemands.{calls_kept, file_size, Kept, Saves}
use Rattle.trace_save_rules.proofs.SaveExamplesHold.{save_examples_hold}
use Rattle.trace_save_rules.proofs.SaveFile.{all_kept, file_length, file_section, file_played, file_calls_lem}
use Rattle.trace_save_rules.proofs.SaveLines.{at_most, kept_calls_lem, all_kept_lem, kept_ends}

-- The row of the table.
rows_law : (long narrow : Bool) (n : ℕ) →
    saved_number_of (when not long && not narrow then Ok n else Err no_room) ≡ first_number (row 20 (long || narrow) ∷ [])
unfolding when◌then◌else◌ saved_number_of
rows_law true narrow n = refl
rows_law false true n = refl
rows_law false false n = refl

module _ (input : List ℕ) where
  calls_kept_lem : kept_calls input ≡ calls_kept input
  unfolding kept_calls
  calls_kept_lem = kept_calls_lem (lines_of (read_from input))

  -- Each of them is one that a record can hold.
  held : all_kept (kept_calls input) ≡ true
  unfolding kept_calls
  held = all_kept_lem (lines_of (read_from input))

  -- The file's length, in the paper's words.
  pub saved_length : length (saved_file input) ≡ file_size input
  unfolding saved_file
  saved_length = file_length (kept_calls input) held ∙ ap (λ (cs : List Call). 10 + 4 * length cs) calls_kept_lem

  -- It has one section, whose calls are those of the lines kept.
  saved-section : section_count (saved_file input) ≡ 1
  unfolding saved_file
  saved-section = file_section (kept_calls input)

  saved-calls : file_calls (saved_file input) ≡ calls_kept input
  unfolding saved_file
  saved-calls = file_calls_lem (kept_calls input) held ∙ calls_kept_lem

  -- The file is played, makes a call for each line that was kept, and ends where the script does.
  saved-played : length (saved_file input) ≤ 65535 → played_of (saved_file input) ≡ Ok (length (calls_kept input))
  unfolding saved_file
  saved-played h = file_played (kept_calls input) held h ∙ ap (λ (cs : List Call). Ok (length cs)) calls_kept_lem

  saved-ends : length (saved_file input) ≤ 65535 → (m : Module) → played_module m (saved_file input) ≡ script_end input
  unfolding played_module saved_file kept_calls script_end script_calls
  saved-ends h m =
      if_true (is_made (played_of (saved_file input))) _ _ (ap is_made (saved-played h))
      ∙ ap (after_calls powered_up) (file_calls_lem (kept_calls input) held)
      ∙ kept_ends (lines_of (read_from input)) powered_up

  -- What is answered if it has_room, and if not.
  module _ (room : ℕ) where
    fits-is : has_room (saved_file input) room ≡ (not (ltb 65535 (file_size input)) && not (ltb room (file_size input)))
    unfolding has_room
    fits-is = cc (at_most 65535 (length (saved_file input)), at_most room (length (saved_file input)), saved_length)

    refused_exactly_lem :
        saved_number_of (saved_of input room) ≡ first_number (row 20 (ltb 65535 (file_size input) || ltb room (file_size input)) ∷ [])
    unfolding saved_of
    refused_exactly_lem =
        ap (λ (t : Bool). saved_number_of (when t then Ok (length (saved_file input)) else Err no_room)) fits-is
        ∙ rows_law (ltb 65535 (file_size input)) (ltb room (file_size input)) (length (saved_file input))

    written : has_room (saved_file input) room ≡ true → saved_of input room ≡ Ok (length (saved_file input))
    unfolding saved_of
    written on = if_true (has_room (saved_file input) room) _ _ on

    unsaved : has_room (saved_file input) room ≡ false → saved_number_of (saved_of input room) ≡ 20
    unfolding saved_of saved_number_of
    unsaved off = ap saved_number_of (if_false (has_room (saved_file input) room) _ _ off)

    fitting : saved_number_of (saved_of input room) ≡ 0 → has_room (saved_file input) room ≡ true
    fitting e = by_test (has_room (saved_file input) room) (λ on. on) (λ off. absurd (omega (arith, e, unsaved off)))

  -- The buffer.
  module _ (buffer : List ℕ) where
    refused_unchanged_lem : saved_number_of (saved_of input (length buffer)) ≡ 20 →
        (buffer_after input buffer ≡ buffer) × (saved_length_of (saved_of input (length buffer)) ≡ 0)
    unfolding buffer_after saved_of saved_number_of saved_length_of
    refused_unchanged_lem e =
        by_test (has_room (saved_file input) (length buffer))
        (λ on. absurd (omega (arith, e, ap saved_number_of (written (length buffer) on))))
        (λ off. (
          if_false (has_room (saved_file input) (length buffer)) _ _ off,
          ap saved_length_of (if_false (has_room (saved_file input) (length buffer)) _ _ off),
        ))

    kept : saved_number_of (saved_of input (length buffer)) ≡ 0 →
        Kept input (saved_length_of (saved_of input (length buffer))) buffer (buffer_after input buffer)
    unfolding buffer_after has_room saved_length_of
    kept e =
        let f = saved_file input in
        let on = fitting (length buffer) e in
        let short = leb-true (length f) 65535 (and_left (leb (length f) 65535) _ on) in
        let room = leb-true (length f) (length buffer) (and_right (leb (length f) 65535) _ on) in
        let n : saved_length_of (saved_of input (length buffer)) ≡ length f = ap saved_length_of (written (length buffer) on) in
        let after : buffer_after input buffer ≡ f ++ drop (length f) buffer = if_true (has_room f (length buffer)) _ _ on in
        let file : take (saved_length_of (saved_of input (length buffer))) (buffer_after input buffer) ≡ f =
        cc (n, after, take_at f (drop (length f) buffer) (length f) refl) in
        record {
          size = n ∙ saved_length;
          section = ap section_count file ∙ saved-section;
          calls = ap file_calls file ∙ saved-calls;
          plays = ap played_of file ∙ saved-played short;
          ends = λ m. ap (played_module m) file ∙ saved-ends short m;
          behind = cc (n, after, drop_at f (drop (length f) buffer) (length f) refl);
          whole = ap length after ∙ omega (arith, length-append f (drop (length f) buffer), length-drop (length f) buffer);
        }

-- The buffer stays as long as it is.
pub buffer_length : (input buffer : List ℕ) → length (buffer_after input buffer) ≡ length buffer
unfolding saved_number_of
buffer_length input buffer =
    by_test (has_room (saved_file input) (length buffer))
    (λ on. (kept input buffer (ap saved_number_of (written input (length buffer) on))).whole)
    (λ off. ap length (refused_unchanged_lem input buffer (unsaved input (length buffer) off)).0)

pub saves_hold : Saves
saves_hold =
    record {
      paper_examples = save_examples_hold;
      refused_exactly = refused_exactly_lem;
      refused_unchanged = refused_unchanged_lem;
      kept = kept;
      one_outcome = λ input buffer x y u v e f g h. (e ∙ sym f, g ∙ sym h);
    }
