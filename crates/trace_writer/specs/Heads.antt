-- The parts of a file that is written.
use Rattle.std.specs.Prelude.{ℕ, zero, suc, ◌+◌, ◌*◌, ◌<◌, ◌≤◌, List, [], ◌++◌, Option, Some, None, MatchOption, ◌≡◌, length, take, get_or}
use Rattle.laws.specs.Choice.{when◌then◌else◌}
use Rattle.module_types.specs.declared.Call.{Call}
use Rattle.script_rules.specs.Script.{lines_of}
use Rattle.script_rules.specs.Texts.{put}
use Rattle.trace_rules.specs.Trace.{size_of, body_of}
use Rattle.trace_rules.specs.TraceBytes.{half, word, joined, sections_from}
use Rattle.trace_save_rules.specs.Save.{keeps, kept_of, kept_from, record_of, record_bytes}
use Rattle.trace_salvage_rules.specs.Salvage.{salvaged_file}

-- The record of a call, if the call is kept.
unfoldable pub kept_record : Call → Option (List ℕ)
kept_record c = when keeps c then Some (record_of c) else None

-- The record of a line is there exactly if the line is kept, and is all that the line makes.
abbrev pub KeptRecord : Option Call → Option (List ℕ) → Type 0
KeptRecord line made =
    MatchOption made (kept_of line ≡ []) (λ bytes. (length (kept_of line) ≡ 1) × (bytes ≡ record_bytes (kept_of line)))

-- The table of contents of `n` sections from number `k` on, of these sizes, the first of them at a place.
abbrev pub table_of : List ℕ → ℕ → ℕ → ℕ → List ℕ
table_of sizes at zero k = []
table_of sizes at (suc n) k = word at ++ (word (get_or sizes k 0) ++ table_of sizes (at + get_or sizes k 0) n (k + 1))

-- What stands before the sections: how many there are, and their table of contents.
unfoldable pub head_of : ℕ → List ℕ → List ℕ
head_of n sizes = half n ++ table_of sizes (2 + 8 * n) n 0

-- A buffer after the records of a session were put from a place on.
abbrev pub put_records : List ℕ → ℕ → List ℕ → List ℕ
put_records buffer place session = put buffer place (record_bytes (kept_from (lines_of session)))

-- The beginning of a section's bytes that has the size for it.
abbrev pub part_of : List ℕ → List ℕ → ℕ → List ℕ
part_of f sizes k = take (get_or sizes k 0) (body_of f k)

-- A buffer after the beginnings of `n` sections were put from a place on.
abbrev pub put_parts : List ℕ → ℕ → List ℕ → ℕ → List ℕ → List ℕ
put_parts f n sizes place buffer = put buffer place (joined (sections_from (part_of f sizes) n 0))

-- They are there, and have room.
pub record Within (f : List ℕ) (n : ℕ) (sizes : List ℕ) (place : ℕ) (buffer : List ℕ) : Type 0 where
  pub parts : (k : ℕ) → k < n → get_or sizes k 0 ≤ length (body_of f k)
  pub room : place + length (joined (sections_from (part_of f sizes) n 0)) ≤ length buffer

-- The sizes of the first `n` sections of the new file.
pub record KeptSizes (f : List ℕ) (n : ℕ) (sizes : List ℕ) : Type 0 where
  pub all : length sizes ≡ 64
  pub each : (k : ℕ) → k < n → get_or sizes k 0 ≡ size_of (salvaged_file f) k
