-- Document 02, Five: trace files with what they must answer. proofs/TraceExamplesHold.antt runs the definitions on them.
use Rattle.std.specs.Prelude.{ℕ, Bool, true, false, ◌&&◌, List, [], ◌∷◌, ◌++◌, eqb, replicate, Result, Ok, Err}
use Rattle.trace_rules.specs.declared.Fault.{Fault}
use Rattle.std.specs.Bool.{beq}
use Rattle.module_types.specs.declared.Module.{Module}
use Rattle.module_rules.specs.Registers.{con1_value, con2_value, stat_value}
use Rattle.module_rules.specs.Buffers.{first_unread}
use Rattle.module_rules.specs.Calls.{powered_up, interrupt_of}
use Rattle.trace_rules.specs.Trace.{fault_number_of, played_of, played_module}
use Rattle.trace_rules.specs.TraceBytes.{half, word, entry, joined, file}

-- Records of some kinds.
abbrev pub write : ℕ → ℕ → List ℕ
write register value = entry 0 register value

abbrev pub tick : List ℕ
tick = entry 2 1 0

abbrev pub pins : ℕ → List ℕ
pins wires = entry 3 wires 0

abbrev pub clear : List ℕ
clear = entry 4 0 0

abbrev pub play : ℕ → ℕ → List ℕ
play section count = entry 5 section count

-- What a play says: the number of its refusal, and the calls that counted.
abbrev pub says : Result ℕ Fault → ℕ → ℕ → Bool
says (Err w) number count = eqb (fault_number_of w) number && eqb count 0
says (Ok made) number count = eqb number 0 && eqb made count

abbrev pub refused : ℕ → List ℕ → Bool
refused number f = says (played_of f) number 0

abbrev pub made : ℕ → List ℕ → Bool
made count f = says (played_of f) 0 count

-- The registers and the flag of the module after it.
abbrev pub shows : Module → ℕ → ℕ → ℕ → Bool → Bool
shows m stat con1 con2 flag =
    eqb (stat_value m) stat
    && (eqb (con1_value m.settings.con1) con1 && (eqb (con2_value m.settings.con2) con2 && beq (interrupt_of m) flag))

abbrev pub ends : ℕ → ℕ → ℕ → Bool → List ℕ → Bool
ends stat con1 con2 flag f = shows (played_module powered_up f) stat con1 con2 flag

-- The first word that it received.
abbrev pub receives : ℕ → List ℕ → Bool
receives word f = eqb (first_unread (played_module powered_up f).engine.receive) word

abbrev pub every : List Bool → Bool
every [] = true
every (b ∷ bs) = b && every bs

-- A host in enhanced operation, enabled, with a word to send.
abbrev pub host : List ℕ
host = write 1 0x0020 ++ (write 2 0x0001 ++ (write 0 0x8000 ++ write 3 0x00A5))

-- A host sends a word, its sixteen ticks one behind the other, and in a section that is played sixteen times.
abbrev pub one_word : List ℕ
one_word = file ((host ++ (joined (replicate 16 tick) ++ entry 1 3 0)) ∷ [])

abbrev pub one_word_played : List ℕ
one_word_played = file ((host ++ (play 1 16 ++ entry 1 3 0)) ∷ tick ∷ [])

-- A client gets a word by eight clocks with SDI, one behind the other, and in a section that is played eight times.
abbrev pub client_word : List ℕ
client_word = file ((write 0 0x8000 ++ joined (replicate 8 (pins 3 ++ pins 1))) ∷ [])

abbrev pub client_word_played : List ℕ
client_word_played = file ((write 0 0x8000 ++ play 1 8) ∷ (pins 3 ++ pins 1) ∷ [])

-- Sections that each play the next.
abbrev pub levels_to : List (List ℕ) → List ℕ
levels_to more = file (play 1 1 ∷ play 2 1 ∷ play 3 1 ∷ play 4 1 ∷ play 5 1 ∷ play 6 1 ∷ play 7 1 ∷ more)

-- Files that are played.
abbrev pub played_files : List Bool
played_files =
    made 1 (file (write 1 0x0020 ∷ []))
    ∷ ends 0x0000 0x0020 0x0000 false (file (write 1 0x0020 ∷ []))
    ∷ made 21 one_word
    ∷ ends 0x80A0 0x0020 0x0001 true one_word
    ∷ made 37 one_word_played
    ∷ ends 0x80A0 0x0020 0x0001 true one_word_played
    -- zero times counts nothing
    ∷ made 3 (file ((write 1 0x0020 ++ (write 2 0x0001 ++ (write 0 0x8000 ++ play 1 0))) ∷ tick ∷ []))
    ∷ ends 0x80A0 0x0020 0x0001 false (file ((write 1 0x0020 ++ (write 2 0x0001 ++ (write 0 0x8000 ++ play 1 0))) ∷ tick ∷ []))
    -- an empty section 0, and 64 empty sections
    ∷ made 0 (file ([] ∷ []))
    ∷ made 0 (file (replicate 64 []))
    -- a refused call counts, and play goes on
    ∷ made 2 (file ((entry 1 3 0 ++ clear) ∷ []))
    ∷ ends 0x0000 0x0020 0x0000 false (file ((entry 1 3 0 ++ write 1 0x0020) ∷ []))
    -- eight levels
    ∷ made 8 (levels_to (clear ∷ []))
    -- 65,535 calls, and 65,025
    ∷ made 65535 (file ((play 1 32767 ++ clear) ∷ clear ∷ []))
    ∷ made 65025 (file (play 1 255 ∷ play 2 127 ∷ clear ∷ []))
    -- a tick with SS, a pin call with all levels
    ∷ made 1 (file (entry 2 4 0 ∷ []))
    ∷ made 1 (file (pins 7 ∷ []))
    -- bit 0 of a tick is SDI, bit 2 is SS
    ∷ receives 0x00FF (file ((host ++ joined (replicate 16 tick)) ∷ []))
    ∷ receives 0x0000 (file ((host ++ joined (replicate 16 (entry 2 4 0))) ∷ []))
    -- bit 0 of pins is SDI, bit 1 SCK, bit 2 SS, here without SSEN
    ∷ receives 0x00FF client_word
    ∷ receives 0x0000 (file ((write 0 0x8000 ++ joined (replicate 8 (pins 6 ++ pins 4))) ∷ []))
    -- a play makes its calls in order, each time anew, and before those behind it
    ∷ made 25 client_word_played
    ∷ receives 0x00FF client_word_played
    ∷ ends 0x0000 0x0060 0x0000 false (file ((play 1 1 ++ write 1 0x0060) ∷ (write 1 0x0020 ++ write 1 0x0040) ∷ []))
    ∷ ends 0x0000 0x0040 0x0000 false (file (play 1 1 ∷ (write 1 0x0020 ++ write 1 0x0040) ∷ []))
    -- a clear record clears
    ∷ ends 0x80A0 0x0020 0x0001 false (file ((host ++ (joined (replicate 16 tick) ++ (entry 1 3 0 ++ clear))) ∷ []))
    ∷ []

-- Wrong contents or length: a byte too many, no byte, no section, 65 sections, a gap behind the table and between sections, a
-- length that is no multiple of 4, a start below the table, a table that is cut, a file of 65,538 bytes, sections in another order; a
-- count of 257, a start and a length that are right by their low bytes only. 17 comes first.
abbrev pub wrong_contents : List Bool
wrong_contents =
    refused 17 (file (clear ∷ []) ++ (0 ∷ []))
    ∷ refused 17 []
    ∷ refused 17 (half 0)
    ∷ refused 17 (file (replicate 65 []))
    ∷ refused 17 (half 1 ++ (word 11 ++ (word 4 ++ (0 ∷ clear))))
    ∷ refused 17 (half 2 ++ (word 18 ++ (word 0 ++ (word 22 ++ (word 4 ++ (clear ++ clear))))))
    ∷ refused 17 (half 1 ++ (word 10 ++ (word 2 ++ (4 ∷ 0 ∷ []))))
    ∷ refused 17 (half 1 ++ (word 6 ++ (word 8 ++ clear)))
    ∷ refused 17 (half 2 ++ (word 18 ++ word 0))
    ∷ refused 17 (file ((6 ∷ replicate 65527 0) ∷ []))
    ∷ refused 17 (half 2 ++ (word 22 ++ (word 4 ++ (word 18 ++ (word 4 ++ (clear ++ clear))))))
    ∷ refused 17 (half 257 ++ (word 10 ++ (word 4 ++ clear)))
    ∷ refused 17 (half 1 ++ (word 65546 ++ (word 4 ++ clear)))
    ∷ refused 17 (half 1 ++ (word 10 ++ (word 65540 ++ clear)))
    ∷ refused 17 (file (entry 6 0 0 ∷ []) ++ (0 ∷ []))
    ∷ []

-- Wrong records: played downwards, itself, a section that is not there, at level 8; in a section that is never played, and before the
-- calls are counted.
abbrev pub wrong_plays : List Bool
wrong_plays =
    refused 18 (file (clear ∷ play 0 1 ∷ []))
    ∷ refused 18 (file (play 0 1 ∷ []))
    ∷ refused 18 (file (play 1 0 ∷ []))
    ∷ refused 18 (levels_to (play 8 1 ∷ clear ∷ []))
    ∷ refused 18 (levels_to (play 8 0 ∷ clear ∷ []))
    ∷ refused 18 (file (clear ∷ entry 6 0 0 ∷ []))
    ∷ refused 18 (file ((play 1 65535 ++ entry 6 0 0) ∷ clear ∷ []))
    ∷ []

-- A file of one record is refused with 18, for each of these arguments.
abbrev pub wrong_for : ℕ → ℕ → List ℕ → Bool
wrong_for kind value [] = true
wrong_for kind value (argument ∷ more) = refused 18 (file (entry kind argument value ∷ [])) && wrong_for kind value more

-- Registers above 3; a tick with SCK; bits above the wires; a clear with an argument; a value that is not used, in either byte; kinds
-- above 5.
abbrev pub wrong_records : List Bool
wrong_records =
    wrong_for 0 0x0000 (4 ∷ 5 ∷ 6 ∷ 7 ∷ 8 ∷ 16 ∷ 32 ∷ 64 ∷ 128 ∷ 255 ∷ [])
    ∷ wrong_for 1 0x0000 (4 ∷ 5 ∷ 6 ∷ 7 ∷ 8 ∷ 16 ∷ 32 ∷ 64 ∷ 128 ∷ 255 ∷ [])
    ∷ wrong_for 2 0x0000 (2 ∷ 3 ∷ 6 ∷ 7 ∷ 8 ∷ 9 ∷ 12 ∷ 16 ∷ 32 ∷ 64 ∷ 128 ∷ 253 ∷ 255 ∷ [])
    ∷ wrong_for 3 0x0000 (8 ∷ 9 ∷ 15 ∷ 16 ∷ 32 ∷ 64 ∷ 128 ∷ 255 ∷ [])
    ∷ wrong_for 4 0x0000 (1 ∷ 2 ∷ 3 ∷ 4 ∷ 8 ∷ 16 ∷ 32 ∷ 64 ∷ 128 ∷ 255 ∷ [])
    ∷ wrong_for 1 0x0001 (0 ∷ 3 ∷ [])
    ∷ wrong_for 1 0x0100 (0 ∷ 3 ∷ [])
    ∷ wrong_for 2 0x0001 (0 ∷ 1 ∷ 4 ∷ 5 ∷ [])
    ∷ wrong_for 2 0x0100 (0 ∷ 1 ∷ 4 ∷ 5 ∷ [])
    ∷ wrong_for 3 0x0001 (0 ∷ 7 ∷ [])
    ∷ wrong_for 3 0x0100 (0 ∷ 7 ∷ [])
    ∷ wrong_for 4 0x0001 (0 ∷ [])
    ∷ wrong_for 4 0x0100 (0 ∷ [])
    ∷ wrong_for 6 0x0000 (0 ∷ 1 ∷ [])
    ∷ wrong_for 7 0x0000 (0 ∷ 1 ∷ [])
    ∷ wrong_for 8 0x0000 (0 ∷ 1 ∷ [])
    ∷ wrong_for 133 0x0000 (0 ∷ 1 ∷ [])
    ∷ wrong_for 255 0x0000 (0 ∷ 1 ∷ [])
    ∷ []

-- Levels count over all sections and all plays, made or not: section 1 is played by none or zero times, and plays eight deep from
-- there are wrong in the one case at level 9, in the other at level 8.
abbrev pub unplayed_levels : List Bool
unplayed_levels =
    refused 18 (file (clear ∷ play 2 1 ∷ play 3 1 ∷ play 4 1 ∷ play 5 1 ∷ play 6 1 ∷ play 7 1 ∷ play 8 1 ∷ play 9 1 ∷ clear ∷ []))
    ∷ refused 18 (file (play 1 0 ∷ play 2 1 ∷ play 3 1 ∷ play 4 1 ∷ play 5 1 ∷ play 6 1 ∷ play 7 1 ∷ play 8 1 ∷ clear ∷ []))
    ∷ made 1 (file (clear ∷ play 2 1 ∷ play 3 1 ∷ play 4 1 ∷ play 5 1 ∷ play 6 1 ∷ play 7 1 ∷ play 8 1 ∷ clear ∷ []))
    ∷ []

-- The highest player counts, and no other: sections 0 and 1 play 2, which stands at 3, and its plays reach level 8; section 8 stands
-- at 8 by section 6, whatever 7, played by none, or 0 gives.
abbrev pub highest_players : List Bool
highest_players =
    made 15 (file ((play 1 1 ++ play 2 1) ∷ play 2 1 ∷ play 3 1 ∷ play 4 1 ∷ play 5 1 ∷ play 6 1 ∷ play 7 1 ∷ clear ∷ []))
    ∷ refused 18 (file (play 1 1 ∷ play 2 1 ∷ play 3 1 ∷ play 4 1 ∷ play 5 1 ∷ play 6 1 ∷ play 8 1 ∷ play 8 1 ∷ play 9 1 ∷ clear ∷ []))
    ∷ refused 18 (file ((play 8 1 ++ play 1 1) ∷ play 2 1 ∷ play 3 1 ∷ play 4 1 ∷ play 5 1 ∷ play 6 1 ∷ play 8 1 ∷ clear ∷ play 9 1 ∷ clear ∷ []))
    ∷ []

-- Too many calls: 32,768 plays of one call, and 65,536 repeats of a section that makes none.
abbrev pub too_many_calls : List Bool
too_many_calls =
    refused 19 (file (play 1 32768 ∷ clear ∷ []))
    ∷ refused 19 (file ((play 1 65535 ++ clear) ∷ [] ∷ []))
    ∷ made 65535 (file (play 1 65535 ∷ [] ∷ []))
    ∷ []

abbrev pub trace_examples : Bool
trace_examples =
    every
    (played_files
    ++ (wrong_contents ++ (wrong_plays ++ (wrong_records ++ (unplayed_levels ++ (highest_players ++ too_many_calls))))))
