-- The customer's demands on the script program. The record Scripts holds every statement, and
-- proofs/ScriptDemandsHold.antt proves it.
use Rattle.std.specs.Prelude.{ℕ, ◌+◌, ◌<◌, ◌≤◌, true, List, [], ◌∷◌, ◌++◌, ◌≡◌, length, take, get_or, None}
use Rattle.module_rules.specs.Calls.{powered_up, after_calls}
use Rattle.script_rules.specs.declared.Session.{Session}
use Rattle.script_rules.specs.Script.{space, read_from, lines_of, reading_of, decimal_of, line_text, script_output, script_calls, lines_calls}
use Rattle.script_rules.specs.Session.{started, piece_after, piece_text, pieces, pieces_text}
use Rattle.script_rules.specs.ScriptExamples.{script_examples}

-- The program reads the first 65,535 bytes and no more. Every line has one line in the output, in order: its number, a
-- space, and what it tells of the module that the lines before it left. A line of more than 16 bytes cannot be read. The
-- output is written in pieces: 256 of them make the whole of it, they end in the module that the script's calls reach from
-- power-up, and each fits a buffer of 4,096 bytes. A piece leaves no two sessions and no two texts; the memory in which a
-- session's module is held may differ (docs/PROMISES.md).
pub record Scripts : Type 0 where
  pub paper_examples : script_examples ≡ true
  pub reads_all : (input : List ℕ) → length input ≤ 65535 → read_from input ≡ input
  pub reads_no_more : (input more : List ℕ) → length input ≡ 65535 → read_from (input ++ more) ≡ input
  pub every_line : (input : List ℕ) → length (lines_of (script_output input)) ≡ length (lines_of (read_from input))
  pub in_order : (input : List ℕ) (k : ℕ) → k < length (lines_of (read_from input)) →
      get_or (lines_of (script_output input)) k []
      ≡ decimal_of (k + 1)
      ++ (space
      ∷ line_text (after_calls powered_up (lines_calls (take k (lines_of (read_from input)))))
      (reading_of (get_or (lines_of (read_from input)) k [])))
  pub too_long : (line : List ℕ) → 16 < length line → reading_of line ≡ None
  pub in_pieces : (input : List ℕ) → pieces_text 256 input started ≡ script_output input
  pub ends_there : (input : List ℕ) → (pieces 256 input started).spi ≡ after_calls powered_up (script_calls input)
  pub piece_fits : (input : List ℕ) (s : Session) → length (piece_text input s) ≤ 4096
  pub one_outcome : (input : List ℕ) (s x y : Session) (u v : List ℕ) → x ≡ piece_after input s → y ≡ piece_after input s →
      u ≡ piece_text input s → v ≡ piece_text input s → (x ≡ y) × (u ≡ v)
