-- The customer's demands on saved sessions. The record Saves holds every statement, and proofs/SaveDemandsHold.antt proves it.
use Rattle.std.specs.Prelude.{ℕ, ◌+◌, ◌*◌, true, ◌||◌, List, [], ◌∷◌, ◌++◌, Option, Some, None, Result, Ok, ◌≡◌, ltb, length, take, drop}
use Rattle.laws.specs.Choice.{when◌then◌else◌}
use Rattle.module_types.specs.declared.Module.{Module}
use Rattle.module_types.specs.declared.Call.{Call}
use Rattle.module_rules.specs.RefusalTable.{row, first_number, asks}
use Rattle.script_rules.specs.Script.{read_from, lines_of, reading_of, script_end}
use Rattle.trace_rules.specs.Trace.{section_count, file_calls, played_of, played_module}
use Rattle.trace_save_rules.specs.declared.NoRoom.{NoRoom}
use Rattle.trace_save_rules.specs.Save.{saved_of, buffer_after, saved_number_of, saved_length_of}
use Rattle.trace_save_rules.specs.SaveExamples.{save_examples}

-- The call of a line that is kept. A line that cannot be read, which gets 9, is left out, and so is one that names a register above 3.
abbrev pub line_kept : Option Call → List Call
line_kept None = []
line_kept (Some c) = when ltb 3 (asks c).register then [] else c ∷ []

-- The calls of the lines of a session that are kept, in order.
abbrev pub lines_kept : List (List ℕ) → List Call
lines_kept [] = []
lines_kept (line ∷ lines) = line_kept (reading_of line) ++ lines_kept lines

abbrev pub calls_kept : List ℕ → List Call
calls_kept input = lines_kept (lines_of (read_from input))

-- The file of a session has 10 bytes, and four for each line that is kept.
abbrev pub file_size : List ℕ → ℕ
file_size input = 10 + 4 * length (calls_kept input)

-- A session that is saved in `n` bytes of a buffer. These bytes are a right trace file of one section, whose calls are those of the
-- lines kept, in order. Playing it counts each once, and ends in the module in which the script ends. The bytes behind it are those
-- of before.
pub record Kept (input : List ℕ) (n : ℕ) (before after : List ℕ) : Type 0 where
  pub size : n ≡ file_size input
  pub section : section_count (take n after) ≡ 1
  pub calls : file_calls (take n after) ≡ calls_kept input
  pub plays : played_of (take n after) ≡ Ok (length (calls_kept input))
  pub ends : (m : Module) → played_module m (take n after) ≡ script_end input
  pub behind : drop n after ≡ drop n before
  pub whole : length after ≡ length before

-- A save is refused exactly if the file would have more than 65,535 bytes or more than the buffer, and then leaves the buffer as it
-- was and tells no length. Any other is kept. There are no two outcomes.
pub record Saves : Type 0 where
  pub paper_examples : save_examples ≡ true
  pub refused_exactly : (input : List ℕ) (room : ℕ) →
      saved_number_of (saved_of input room) ≡ first_number (row 20 (ltb 65535 (file_size input) || ltb room (file_size input)) ∷ [])
  pub refused_unchanged : (input buffer : List ℕ) → saved_number_of (saved_of input (length buffer)) ≡ 20 →
      (buffer_after input buffer ≡ buffer) × (saved_length_of (saved_of input (length buffer)) ≡ 0)
  pub kept : (input buffer : List ℕ) → saved_number_of (saved_of input (length buffer)) ≡ 0 →
      Kept input (saved_length_of (saved_of input (length buffer))) buffer (buffer_after input buffer)
  pub one_outcome : (input buffer : List ℕ) (x y : Result ℕ NoRoom) (u v : List ℕ) → x ≡ saved_of input (length buffer) →
      y ≡ saved_of input (length buffer) → u ≡ buffer_after input buffer → v ≡ buffer_after input buffer → (x ≡ y) × (u ≡ v)
