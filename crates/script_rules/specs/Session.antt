-- How crates/script_player plays a script: piece by piece, 256 lines at a time, each piece into a lent buffer of 4,096 bytes.
-- proofs/SessionWhole.antt proves that the pieces make the whole of specs/Script.antt.
use Rattle.std.specs.Prelude.{ℕ, zero, suc, ◌+◌, Bool, ◌||◌, List, [], ◌∷◌, ◌++◌, eqb, leb, ltb, length, drop}
use Rattle.laws.specs.Choice.{when◌then◌else◌}
use Rattle.module_rules.specs.Calls.{powered_up}
use Rattle.script_rules.specs.declared.Session.{Session}
use Rattle.script_rules.specs.Script.{lf, most_bytes, read_from, reading_of, line_after, answer_line}

-- A script starts with a module at power-up.
unfoldable pub started : Session
started = record { spi = powered_up; lines = 0; at = 0 }

-- The bytes before the first LF.
unfoldable pub first_line : List ℕ → List ℕ
first_line [] = []
first_line (b ∷ bs) = when eqb b lf then [] else b ∷ first_line bs

-- The bytes from the next line on.
unfoldable pub bytes_left : List ℕ → Session → List ℕ
bytes_left input s = drop s.at (read_from input)

-- Nothing is left to play. A script has no more lines than bytes, so a session that counts more was not reached by playing:
-- it is answered as one that has ended.
unfoldable pub ended : List ℕ → Session → Bool
ended input s = leb (length (read_from input)) s.at || ltb most_bytes s.lines

-- One line is played: the next place is behind the line and its LF.
unfoldable pub line_of : List ℕ → Session → List ℕ
line_of input s = first_line (bytes_left input s)

unfoldable pub line_played : List ℕ → Session → Session
line_played input s =
    record {
      spi = line_after s.spi (reading_of (line_of input s));
      lines = s.lines + 1;
      at = s.at + length (line_of input s) + 1;
    }

-- A number of lines are played, or those that are left if they are fewer, and what they answer.
unfoldable pub played : ℕ → List ℕ → Session → Session
played zero input s = s
played (suc count) input s = when ended input s then s else played count input (line_played input s)

unfoldable pub answers : ℕ → List ℕ → Session → List ℕ
answers zero input s = []
answers (suc count) input s =
    when ended input s then []
    else answer_line (s.lines + 1) s.spi (reading_of (line_of input s)) ++ answers count input (line_played input s)

-- A piece is 256 lines.
unfoldable pub piece_lines : ℕ
piece_lines = 256

unfoldable pub piece_after : List ℕ → Session → Session
piece_after input s = played piece_lines input s

unfoldable pub piece_text : List ℕ → Session → List ℕ
piece_text input s = answers piece_lines input s

-- A number of pieces, one after the other: where the session stands, and everything that they wrote.
unfoldable pub pieces : ℕ → List ℕ → Session → Session
pieces zero input s = s
pieces (suc count) input s = pieces count input (piece_after input s)

unfoldable pub pieces_text : ℕ → List ℕ → Session → List ℕ
pieces_text zero input s = []
pieces_text (suc count) input s = piece_text input s ++ pieces_text count input (piece_after input s)
