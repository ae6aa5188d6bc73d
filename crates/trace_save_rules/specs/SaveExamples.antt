-- Document 02, Six: scripts, the size of the lent buffer, and the answer with the buffer after it. proofs/SaveExamplesHold.antt
-- runs the definitions on them.
use Rattle.std.specs.Prelude.{ℕ, Bool, true, ◌&&◌, List, [], ◌∷◌, ◌++◌, eqb, length, replicate}
use Prim.Native.String.{String}
use Rattle.script_rules.specs.Script.{bytes}
use Rattle.script_rules.specs.ScriptExamples.{same_bytes}
use Rattle.trace_save_rules.specs.Save.{saved_of, buffer_after, saved_number_of, saved_length_of}

-- A buffer of so many bytes before it is lent, 0xAA each.
abbrev pub lent : ℕ → List ℕ
lent room = replicate room 0xAA

-- A session is saved: the answer is the file's length, and the buffer holds the file and, behind it, its own bytes.
abbrev pub saved : String → ℕ → List ℕ → ℕ → Bool
saved script room file behind =
    eqb (saved_number_of (saved_of (bytes script) room)) 0
    && (eqb (saved_length_of (saved_of (bytes script) room)) (length file)
    && same_bytes (buffer_after (bytes script) (lent room)) (file ++ lent behind))

-- It is refused with 20, no length is told, and the buffer is as before.
abbrev pub refused : String → ℕ → Bool
refused script room =
    eqb (saved_number_of (saved_of (bytes script) room)) 20
    && (eqb (saved_length_of (saved_of (bytes script) room)) 0
    && same_bytes (buffer_after (bytes script) (lent room)) (lent room))

abbrev pub every : List Bool → Bool
every [] = true
every (b ∷ bs) = b && every bs

-- Document 01's worked script, whose third and tenth lines are refused, and its file.
abbrev pub worked : String
worked = "W 1 0020\nW 0 8000\nR 3\nW 3 00A5\nR 0\nW 3 003C\nR 0\nT 1\nT 0\nW 1 0000\n"

abbrev pub worked_file : List ℕ
worked_file =
    0x01 ∷ 0x00 ∷ 0x0A ∷ 0x00 ∷ 0x00 ∷ 0x00 ∷ 0x28 ∷ 0x00 ∷ 0x00 ∷ 0x00
    ∷ 0x00 ∷ 0x01 ∷ 0x20 ∷ 0x00
    ∷ 0x00 ∷ 0x00 ∷ 0x00 ∷ 0x80
    ∷ 0x01 ∷ 0x03 ∷ 0x00 ∷ 0x00
    ∷ 0x00 ∷ 0x03 ∷ 0xA5 ∷ 0x00
    ∷ 0x01 ∷ 0x00 ∷ 0x00 ∷ 0x00
    ∷ 0x00 ∷ 0x03 ∷ 0x3C ∷ 0x00
    ∷ 0x01 ∷ 0x00 ∷ 0x00 ∷ 0x00
    ∷ 0x02 ∷ 0x01 ∷ 0x00 ∷ 0x00
    ∷ 0x02 ∷ 0x00 ∷ 0x00 ∷ 0x00
    ∷ 0x00 ∷ 0x01 ∷ 0x00 ∷ 0x00
    ∷ []

abbrev pub empty_file : List ℕ
empty_file = 0x01 ∷ 0x00 ∷ 0x0A ∷ 0x00 ∷ 0x00 ∷ 0x00 ∷ 0x00 ∷ 0x00 ∷ 0x00 ∷ 0x00 ∷ []

abbrev pub saves : List Bool
saves =
    -- an empty session, in a buffer that is just large enough, and in one that is not
    saved "" 10 empty_file 0
    ∷ refused "" 9
    ∷ refused "" 0
    -- the worked script, in the same two
    ∷ saved worked 50 worked_file 0
    ∷ saved worked 53 worked_file 3
    ∷ refused worked 49
    -- left out: lines that cannot be read, and registers above 3
    ∷ saved "X\nW 4 0000\nR 4\nR 9\n\nC\nR 3\n" 100
    (0x01 ∷ 0x00 ∷ 0x0A ∷ 0x00 ∷ 0x00 ∷ 0x00 ∷ 0x08 ∷ 0x00 ∷ 0x00 ∷ 0x00 ∷ 0x04 ∷ 0x00 ∷ 0x00 ∷ 0x00 ∷ 0x01 ∷ 0x03 ∷ 0x00 ∷ 0x00 ∷ []) 82
    -- every kind of call
    ∷ saved "W 3 FFFF\nR 1\nR 2\nT 1\nT 0 1\nP 1 0 1\nC\n" 100
    (0x01 ∷ 0x00 ∷ 0x0A ∷ 0x00 ∷ 0x00 ∷ 0x00 ∷ 0x1C ∷ 0x00 ∷ 0x00 ∷ 0x00
    ∷ 0x00 ∷ 0x03 ∷ 0xFF ∷ 0xFF
    ∷ 0x01 ∷ 0x01 ∷ 0x00 ∷ 0x00
    ∷ 0x01 ∷ 0x02 ∷ 0x00 ∷ 0x00
    ∷ 0x02 ∷ 0x01 ∷ 0x00 ∷ 0x00
    ∷ 0x02 ∷ 0x04 ∷ 0x00 ∷ 0x00
    ∷ 0x03 ∷ 0x06 ∷ 0x00 ∷ 0x00
    ∷ 0x04 ∷ 0x00 ∷ 0x00 ∷ 0x00
    ∷ []) 62
    ∷ []

abbrev pub save_examples : Bool
save_examples = every saves
