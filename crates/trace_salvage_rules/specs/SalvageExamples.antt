-- Document 02, Fourteen: files, the size of the lent buffer, and the answer with the buffer after it. proofs/SalvageExamplesHold.antt
-- runs the definitions on them.
use Rattle.std.specs.Prelude.{ℕ, ◌-◌, Bool, true, false, ◌&&◌, List, [], ◌∷◌, ◌++◌, Result, Ok, Err, eqb, length, replicate, take}
use Rattle.trace_rules.specs.TraceBytes.{half, word, entry, file}
use Rattle.trace_rules.specs.TraceExamples.{write, clear, play, every, host, levels_to, one_word_played}
use Rattle.trace_salvage_rules.specs.declared.Salvaged.{Salvaged}
use Rattle.trace_salvage_rules.specs.declared.SalvageFault.{SalvageFault}
use Rattle.trace_salvage_rules.specs.Salvage.{salvaged_of, salvage_number_of, buffer_after}

-- The same bytes.
abbrev pub same_bytes : List ℕ → List ℕ → Bool
same_bytes [] [] = true
same_bytes [] (b ∷ bs) = false
same_bytes (a ∷ rest) [] = false
same_bytes (a ∷ rest) (b ∷ bs) = eqb a b && same_bytes rest bs

-- A buffer of so many bytes before it is lent, 0xAA each.
abbrev pub lent : ℕ → List ℕ
lent room = replicate room 0xAA

-- A file is salvaged: the sections cut, the bytes lost and the new file's length are told, and the buffer holds the new file and, behind
-- it, its own bytes.
abbrev pub tells : Result Salvaged SalvageFault → ℕ → ℕ → ℕ → Bool
tells (Err e) cut lost n = false
tells (Ok s) cut lost n = eqb s.cut cut && (eqb s.lost lost && eqb s.length n)

abbrev pub salvaged : ℕ → ℕ → List ℕ → ℕ → List ℕ → Bool
salvaged cut lost f room new =
    tells (salvaged_of f room) cut lost (length new) && same_bytes (buffer_after f (lent room)) (new ++ lent (room - length new))

-- It is refused, and the buffer is as before.
abbrev pub refused : ℕ → List ℕ → ℕ → Bool
refused number f room = eqb (salvage_number_of (salvaged_of f room)) number && same_bytes (buffer_after f (lent room)) (lent room)

-- A whole file: a host sends a word by ticks that a second section has. It loses nothing, bytes behind it are left off, and it does not
-- fit a buffer that is one byte too small.
abbrev pub whole_files : List Bool
whole_files =
    salvaged 0 0 one_word_played 100 one_word_played
    ∷ salvaged 0 0 (one_word_played ++ (1 ∷ 2 ∷ 3 ∷ [])) 100 one_word_played
    ∷ refused 20 one_word_played 45
    ∷ []

-- It breaks off within the last record, within section 0, and within the table of contents.
abbrev pub broken_off : List Bool
broken_off =
    salvaged 1 4 (take 44 one_word_played) 100 (file ((host ++ (play 1 16 ++ entry 1 3 0)) ∷ [] ∷ []))
    ∷ salvaged 2 24 (take 24 one_word_played) 100 (file (write 1 0x0020 ∷ [] ∷ []))
    ∷ refused 17 (take 9 one_word_played) 100
    ∷ []

-- A section ends before its first wrong record; a length of 6 has an odd end; and a section that is cut to nothing may be played.
abbrev pub cut_sections : List Bool
cut_sections =
    salvaged 1 8 (file ((clear ++ (entry 6 0 0 ++ clear)) ∷ clear ∷ [])) 100 (file (clear ∷ clear ∷ []))
    ∷ salvaged 1 2 (half 2 ++ (word 18 ++ (word 4 ++ (word 22 ++ (word 6 ++ (clear ++ (clear ++ clear))))))) 100 (file (clear ∷ clear ∷ []))
    ∷ salvaged 1 4 (file (play 1 2 ∷ entry 6 0 0 ∷ [])) 100 (file (play 1 2 ∷ [] ∷ []))
    ∷ []

-- A play at level 8 is cut. A play that is cut raises no level: section 0 plays section 1 behind a wrong record, so that section 8 is
-- played at level 7.
abbrev pub chained : List ℕ → List ℕ
chained first =
    file (first ∷ play 2 1 ∷ play 3 1 ∷ play 4 1 ∷ play 5 1 ∷ play 6 1 ∷ play 7 1 ∷ play 8 1 ∷ clear ∷ [])

abbrev pub kept_levels : List Bool
kept_levels =
    salvaged 1 4 (levels_to (play 8 1 ∷ clear ∷ [])) 200 (levels_to ([] ∷ clear ∷ []))
    ∷ salvaged 1 8 (chained (entry 6 0 0 ++ play 1 1)) 200 (chained [])
    ∷ []

-- A gap, which is told before the room; and a last stated end of 65,536 and of 65,535.
abbrev pub stated_ends : List Bool
stated_ends =
    refused 17 (half 1 ++ (word 11 ++ (word 0 ++ (0 ∷ [])))) 100
    ∷ refused 17 (half 1 ++ (word 11 ++ (word 0 ++ (0 ∷ [])))) 0
    ∷ refused 17 (half 1 ++ (word 10 ++ (word 65526 ++ clear))) 100
    ∷ salvaged 1 65521 (half 1 ++ (word 10 ++ (word 65525 ++ clear))) 100 (file (clear ∷ []))
    ∷ []

abbrev pub salvage_examples : Bool
salvage_examples = every (whole_files ++ (broken_off ++ (cut_sections ++ (kept_levels ++ stated_ends))))
