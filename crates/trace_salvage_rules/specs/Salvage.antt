-- Document 02, Fourteen: from a trace file that broke off, a new file that Five refuses neither with 17 nor with 18, at the start of a
-- buffer that the caller lends. What a right record is, and a section's level, are Five's own, over the records kept.
use Rattle.std.specs.Prelude.{ℕ, zero, suc, ◌+◌, ◌-◌, ◌*◌, Bool, not, ◌&&◌, List, [], ◌∷◌, ◌++◌, Result, Ok, Err, is_ok, leb, ltb, length, take, get_or}
use Rattle.laws.specs.Choice.{when◌then◌else◌}
use Rattle.trace_rules.specs.declared.Entry.{Entry}
use Rattle.trace_rules.specs.Trace.{most_bytes, section_count, size_of, place_of, table_right, body_of, entries_of, section_level, right_record}
use Rattle.trace_rules.specs.TraceBytes.{file, sections_from, placed}
use Rattle.trace_salvage_rules.specs.declared.Salvaged.{Salvaged}
use Rattle.trace_salvage_rules.specs.declared.SalvageFault.{SalvageFault}
use Rattle.trace_salvage_rules.specs.declared.SalvageFault.TheVariants.{BadContents, NoRoom}

-- A file can be salvaged if its table of contents is whole and gapless, and its last section is not stated to end behind the last byte
-- that a file may have.
unfoldable pub salvageable : List ℕ → Bool
salvageable f = table_right f && leb (place_of f (section_count f)) most_bytes

-- A section is cut before its first wrong record. One that runs past the section's or the file's end is none of its records anyway.
unfoldable pub beginning : ℕ → ℕ → ℕ → List Entry → List Entry
beginning count level k [] = []
beginning count level k (e ∷ es) = when right_record count level k e then e ∷ beginning count level k es else []

-- What the first `n` sections keep, in file order: each next one by the level that it has over the records kept so far. `s` are the
-- sections' records, by number.
abbrev pub among : List (List Entry) → ℕ → List Entry
among kept k = get_or kept k []

unfoldable pub with_next : ℕ → (ℕ → List Entry) → ℕ → List (List Entry) → List (List Entry)
with_next count s k kept = kept ++ (beginning count (section_level (among kept) k) k (s k) ∷ [])

unfoldable pub kept_below : ℕ → (ℕ → List Entry) → ℕ → List (List Entry)
kept_below count s zero = []
kept_below count s (suc n) = with_next count s n (kept_below count s n)

unfoldable pub kept_of : List ℕ → List (List Entry)
kept_of f = kept_below (section_count f) (entries_of f) (section_count f)

-- The new file has as many sections, each with the bytes of the records that it keeps. Its starts and lengths are written anew, and
-- what stood behind the last section is left off.
unfoldable pub cut_body : List ℕ → List (List Entry) → ℕ → List ℕ
cut_body f kept k = take (4 * length (among kept k)) (body_of f k)

unfoldable pub cut_bodies : List ℕ → List (List Entry) → List (List ℕ)
cut_bodies f kept = sections_from (cut_body f kept) (section_count f) 0

unfoldable pub salvaged_file : List ℕ → List ℕ
salvaged_file f = file (cut_bodies f (kept_of f))

-- The sections cut are those whose length fell, and the bytes lost are the old lengths' sum less that of the new ones. Both count what
-- the tables state.
unfoldable pub sum_below : (ℕ → ℕ) → ℕ → ℕ
sum_below of zero = 0
sum_below of (suc n) = sum_below of n + of n

unfoldable pub fell_in : List ℕ → List ℕ → ℕ → ℕ
fell_in f new k = when ltb (size_of new k) (size_of f k) then 1 else 0

unfoldable pub sections_cut : List ℕ → List ℕ → ℕ
sections_cut f new = sum_below (fell_in f new) (section_count f)

unfoldable pub bytes_lost : List ℕ → List ℕ → ℕ
bytes_lost f new = sum_below (size_of f) (section_count f) - sum_below (size_of new) (section_count f)

-- What is told: the sections cut, the bytes lost, and the new file's length.
abbrev pub told : ℕ → ℕ → ℕ → Salvaged
told cut lost n = record { cut = cut; lost = lost; length = n }

-- The answer: 17, then 20, else what was lost and the new file's length.
unfoldable pub answer_with : List ℕ → List ℕ → ℕ → Result Salvaged SalvageFault
answer_with f new room = when ltb room (length new) then Err NoRoom else Ok (told (sections_cut f new) (bytes_lost f new) (length new))

unfoldable pub salvaged_of : List ℕ → ℕ → Result Salvaged SalvageFault
salvaged_of f room = when not (salvageable f) then Err BadContents else answer_with f (salvaged_file f) room

unfoldable pub salvage_number_of : Result Salvaged SalvageFault → ℕ
-- the section count is wrong, the contents are not whole or gapless, or the file or its last stated end passes 65,535
salvage_number_of (Err BadContents) = 17
-- the lent buffer is too small
salvage_number_of (Err NoRoom) = 20
-- salvaged
salvage_number_of (Ok s) = 0

-- The buffer after it: the new file, and behind it the bytes of before. A refusal leaves all of them.
unfoldable pub buffer_after : List ℕ → List ℕ → List ℕ
buffer_after f buffer = when is_ok (salvaged_of f (length buffer)) then placed (salvaged_file f) buffer else buffer
