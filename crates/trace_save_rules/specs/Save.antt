-- Document 02, Six: a script session is saved as a trace file of one section, at the start of a buffer that the caller lends. The
-- session is what the script program reads of its input.
use Rattle.std.specs.Prelude.{ℕ, ◌+◌, Bool, true, false, ◌&&◌, List, [], ◌∷◌, ◌++◌, Option, Some, None, Result, Ok, Err, leb, length}
use Rattle.laws.specs.Choice.{when◌then◌else◌}
use Rattle.module_types.specs.declared.Call.{Call}
use Rattle.module_types.specs.declared.Call.TheVariants.{Read, Write, Tick, Pin, ClockStep, Clear}
use Rattle.script_rules.specs.Script.{read_from, lines_of, reading_of}
use Rattle.trace_rules.specs.TraceBytes.{entry, file, placed}
use Rattle.trace_save_rules.specs.declared.NoRoom.{NoRoom}

-- A line that cannot be read is left out, and so is one that names a register above 3. All others are kept, whether the module
-- refuses them or not. No line asks for a clock step, and no record of a trace file holds one.
unfoldable pub keeps : Call → Bool
keeps (Read register) = leb register 3
keeps (Write register v) = leb register 3
keeps (Tick sdi ss) = true
keeps (Pin sck sdi ss) = true
keeps (ClockStep sck sdi ss) = false
keeps Clear = true

unfoldable pub kept_of : Option Call → List Call
kept_of None = []
kept_of (Some c) = when keeps c then c ∷ [] else []

unfoldable pub kept_from : List (List ℕ) → List Call
kept_from [] = []
kept_from (line ∷ lines) = kept_of (reading_of line) ++ kept_from lines

unfoldable pub kept_calls : List ℕ → List Call
kept_calls input = kept_from (lines_of (read_from input))

-- The levels of the wires as an argument: bit 0 is SDI, bit 1 SCK, bit 2 SS.
unfoldable pub wires : Bool → Bool → Bool → ℕ
wires sdi sck ss = (when sdi then 1 else 0) + (when sck then 2 else 0) + (when ss then 4 else 0)

-- A call as a record: kinds 0 to 4 are write, read, tick, pins and clear. What a kind does not use is 0.
unfoldable pub record_of : Call → List ℕ
record_of (Write register v) = entry 0 register v
record_of (Read register) = entry 1 register 0
record_of (Tick sdi ss) = entry 2 (wires sdi false ss) 0
record_of (Pin sck sdi ss) = entry 3 (wires sdi sck ss) 0
record_of Clear = entry 4 0 0
record_of (ClockStep sck sdi ss) = []

unfoldable pub record_bytes : List Call → List ℕ
record_bytes [] = []
record_bytes (c ∷ cs) = record_of c ++ record_bytes cs

-- The file: one section, with a record for each line that is kept.
unfoldable pub file_of : List Call → List ℕ
file_of cs = file (record_bytes cs ∷ [])

unfoldable pub saved_file : List ℕ → List ℕ
saved_file input = file_of (kept_calls input)

-- It has_room if it has at most 65,535 bytes, as every trace file, and the buffer has room for it.
unfoldable pub has_room : List ℕ → ℕ → Bool
has_room f room = leb (length f) 65535 && leb (length f) room

-- The answer: the file's length, or 20.
abbrev pub no_room : NoRoom
no_room = record {}

unfoldable pub saved_of : List ℕ → ℕ → Result ℕ NoRoom
saved_of input room = when has_room (saved_file input) room then Ok (length (saved_file input)) else Err no_room

-- The buffer after it: the file, and behind it the bytes of before. A refused save leaves all of them.
unfoldable pub buffer_after : List ℕ → List ℕ → List ℕ
buffer_after input buffer = when has_room (saved_file input) (length buffer) then placed (saved_file input) buffer else buffer

-- The numbers of an answer: that of the refusal, 0 if saved; and the file's length, 0 if refused.
unfoldable pub saved_number_of : Result ℕ NoRoom → ℕ
saved_number_of (Err e) = 20
saved_number_of (Ok n) = 0

unfoldable pub saved_length_of : Result ℕ NoRoom → ℕ
saved_length_of (Err e) = 0
saved_length_of (Ok n) = n
