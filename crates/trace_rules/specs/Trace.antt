-- Document 02, Five: a trace file. A file is a list of bytes. It has a table of contents and sections of records; a record is a
-- call, or plays another section. Playing section 0 on a fresh module makes the file's calls in order.
use Rattle.std.specs.Prelude.{ℕ, zero, suc, ◌+◌, ◌*◌, ◌/◌, ◌%◌, Bool, true, false, not, ◌&&◌, ◌||◌, List, [], ◌∷◌, ◌++◌, eqb, leb, ltb, length, take, drop, get_or, Result, Ok, Err}
use Rattle.laws.specs.Choice.{when◌then◌else◌}
use Rattle.module_types.specs.declared.Module.{Module}
use Rattle.module_types.specs.declared.Call.{Call}
use Rattle.module_types.specs.declared.Call.TheVariants.{Read, Write, Tick, Pin, Clear}
use Rattle.module_rules.specs.Calls.{powered_up, after_calls}
use Rattle.trace_rules.specs.declared.Entry.{Entry}
use Rattle.trace_rules.specs.declared.Fault.{Fault}
use Rattle.trace_rules.specs.declared.Fault.TheVariants.{BadContents, BadRecord, TooManyCalls}

-- The limits: the bytes of a file, its sections, their levels, and the calls.
abbrev pub most_bytes : ℕ
most_bytes = 65535

abbrev pub most_sections : ℕ
most_sections = 64

abbrev pub most_levels : ℕ
most_levels = 8

abbrev pub most_calls : ℕ
most_calls = 65535

-- The kinds of records.
abbrev pub write_kind : ℕ
write_kind = 0

abbrev pub read_kind : ℕ
read_kind = 1

abbrev pub tick_kind : ℕ
tick_kind = 2

abbrev pub pins_kind : ℕ
pins_kind = 3

abbrev pub clear_kind : ℕ
clear_kind = 4

abbrev pub play_kind : ℕ
play_kind = 5

-- Numbers of two and four bytes, the lowest byte first.
unfoldable pub byte_at : List ℕ → ℕ → ℕ
byte_at f i = get_or f i 0

unfoldable pub half_at : List ℕ → ℕ → ℕ
half_at f i = byte_at f i + 256 * byte_at f (i + 1)

unfoldable pub word_at : List ℕ → ℕ → ℕ
word_at f i = half_at f i + 65536 * half_at f (i + 2)

-- The table of contents: the number of sections, then the start and the length of each. A start counts from the file's first
-- byte.
unfoldable pub section_count : List ℕ → ℕ
section_count f = half_at f 0

unfoldable pub table_end : List ℕ → ℕ
table_end f = 2 + 8 * section_count f

unfoldable pub start_of : List ℕ → ℕ → ℕ
start_of f k = word_at f (2 + 8 * k)

unfoldable pub size_of : List ℕ → ℕ → ℕ
size_of f k = word_at f (6 + 8 * k)

-- A test of every number below one.
unfoldable pub all_below : (ℕ → Bool) → ℕ → Bool
all_below test zero = true
all_below test (suc n) = all_below test n && test n

-- Where a section must start: behind the table and the sections below it.
abbrev pub place_of : List ℕ → ℕ → ℕ
place_of f zero = table_end f
place_of f (suc k) = place_of f k + size_of f k

-- Three tests of the sections: none lies behind a gap, each has whole records, and the last ends the file.
abbrev pub gapless : List ℕ → ℕ → Bool
gapless f n = all_below (λ k. eqb (start_of f k) (place_of f k)) n

abbrev pub in_fours : List ℕ → ℕ → Bool
in_fours f n = all_below (λ k. eqb (size_of f k % 4) 0) n

abbrev pub ends_file : List ℕ → ℕ → Bool
ends_file f n = eqb (place_of f n) (length f)

-- The table of contents is whole and gapless: 1 to 64 sections, the table within a file of at most 65,535 bytes, and no gap, behind the
-- table neither.
unfoldable pub table_right : List ℕ → Bool
table_right f =
    leb (length f) most_bytes
    && (leb 1 (section_count f)
    && (leb (section_count f) most_sections && (leb (table_end f) (length f) && gapless f (section_count f))))

-- The contents are right.
unfoldable pub contents_right : List ℕ → Bool
contents_right f = table_right f && (in_fours f (section_count f) && ends_file f (section_count f))

-- A section's body is part of the file itself, and its records have four bytes each.
unfoldable pub body_of : List ℕ → ℕ → List ℕ
body_of f k = take (size_of f k) (drop (start_of f k) f)

unfoldable pub entries_in : List ℕ → List Entry
entries_in [] = []
entries_in (a ∷ []) = []
entries_in (a ∷ (b ∷ [])) = []
entries_in (a ∷ (b ∷ (c ∷ []))) = []
entries_in (a ∷ (b ∷ (c ∷ (d ∷ rest)))) = record { kind = a; argument = b; value = c + 256 * d } ∷ entries_in rest

unfoldable pub entries_of : List ℕ → ℕ → List Entry
entries_of f k = entries_in (body_of f k)

-- A record plays a section, and these records do.
unfoldable pub is_play : Entry → Bool
is_play e = eqb e.kind play_kind

unfoldable pub plays_any : List Entry → ℕ → Bool
plays_any [] k = false
plays_any (e ∷ es) k = (is_play e && eqb e.argument k) || plays_any es k

-- The level of a section is one more than the highest among the lower-numbered ones that play it, zero times included, or 1 if
-- none does. `s` are the sections' records, by number; `levels` are the levels of the sections below `n`.
unfoldable pub higher : ℕ → ℕ → ℕ
higher a b = when leb a b then b else a

unfoldable pub highest_player : (ℕ → List Entry) → List ℕ → ℕ → ℕ → ℕ
highest_player s levels k zero = 0
highest_player s levels k (suc j) =
    higher (highest_player s levels k j) (when plays_any (s j) k then get_or levels j 0 else 0)

unfoldable pub levels_below : (ℕ → List Entry) → ℕ → List ℕ
levels_below s zero = []
levels_below s (suc n) = levels_below s n ++ ((1 + highest_player s (levels_below s n) n n) ∷ [])

unfoldable pub section_level : (ℕ → List Entry) → ℕ → ℕ
section_level s k = 1 + highest_player s (levels_below s k) k k

-- The levels of the wires in an argument: bit 0 is SDI, bit 1 SCK, bit 2 SS.
unfoldable pub wire_in : ℕ → ℕ → Bool
wire_in argument weight = eqb (argument / weight % 2) 1

-- A right record of section `k`, which stands at a level, among so many sections. A write and a read name a register from 0 to 3, a
-- tick has no SCK, and what a kind does not use is 0. A play names a higher-numbered section that exists, and stands in a section below
-- level 8. No other kind is right.
unfoldable pub right_record : ℕ → ℕ → ℕ → Entry → Bool
right_record count level k e =
    when eqb e.kind write_kind then leb e.argument 3
    else when eqb e.kind read_kind then leb e.argument 3 && eqb e.value 0
    else when eqb e.kind tick_kind then (ltb e.argument 8 && not (wire_in e.argument 2)) && eqb e.value 0
    else when eqb e.kind pins_kind then ltb e.argument 8 && eqb e.value 0
    else when eqb e.kind clear_kind then eqb e.argument 0 && eqb e.value 0
    else when is_play e then ltb k e.argument && (ltb e.argument count && ltb level most_levels)
    else false

unfoldable pub all_right : ℕ → ℕ → ℕ → List Entry → Bool
all_right count level k [] = true
all_right count level k (e ∷ es) = right_record count level k e && all_right count level k es

-- The same of section `k` of a file.
abbrev pub right_of : List ℕ → ℕ → Entry → Bool
right_of f k e = right_record (section_count f) (section_level (entries_of f) k) k e

abbrev pub all_of : List ℕ → ℕ → List Entry → Bool
all_of f k es = all_right (section_count f) (section_level (entries_of f) k) k es

-- Every record of every section is right, played or not.
unfoldable pub records_right : List ℕ → Bool
records_right f = all_below (λ k. all_of f k (entries_of f k)) (section_count f)

-- The call of a record that is one.
unfoldable pub call_of : Entry → Call
call_of e =
    when eqb e.kind write_kind then Write e.argument e.value
    else when eqb e.kind read_kind then Read e.argument
    else when eqb e.kind tick_kind then Tick (wire_in e.argument 1) (wire_in e.argument 4)
    else when eqb e.kind pins_kind then Pin (wire_in e.argument 2) (wire_in e.argument 1) (wire_in e.argument 4)
    else Clear

-- A list so many times over.
unfoldable pub times : ℕ → List Call → List Call
times zero cs = []
times (suc n) cs = cs ++ times n cs

-- The calls of records, with those of each section that they play; and of a section with so many levels left. Each nested play
-- has one level fewer.
unfoldable pub calls_by : (ℕ → List Call) → List Entry → List Call
calls_by sub [] = []
calls_by sub (e ∷ es) = (when is_play e then times e.value (sub e.argument) else call_of e ∷ []) ++ calls_by sub es

unfoldable pub play_calls : List ℕ → ℕ → ℕ → List Call
play_calls f zero k = []
play_calls f (suc left) k = calls_by (play_calls f left) (entries_of f k)

-- What counts: each call, and each repeat of a play before its calls.
unfoldable pub count_by : (ℕ → ℕ) → List Entry → ℕ
count_by sub [] = 0
count_by sub (e ∷ es) = (when is_play e then e.value * (1 + sub e.argument) else 1) + count_by sub es

unfoldable pub play_count : List ℕ → ℕ → ℕ → ℕ
play_count f zero k = 0
play_count f (suc left) k = count_by (play_count f left) (entries_of f k)

-- A file: section 0, with eight levels.
unfoldable pub file_calls : List ℕ → List Call
file_calls f = play_calls f most_levels 0

unfoldable pub file_count : List ℕ → ℕ
file_count f = play_count f most_levels 0

-- The table's number for each fault.
unfoldable pub fault_number_of : Fault → ℕ
-- the contents or the file's length are wrong
fault_number_of BadContents = 17
-- a record is wrong
fault_number_of BadRecord = 18
-- the next call would be number 65,536
fault_number_of TooManyCalls = 19

-- Playing a file: 17, then 18, then 19; else the calls that counted.
unfoldable pub played_of : List ℕ → Result ℕ Fault
played_of f =
    when not (contents_right f) then Err BadContents
    else when not (records_right f) then Err BadRecord
    else when ltb most_calls (file_count f) then Err TooManyCalls
    else Ok (file_count f)

-- The module after it: a fresh one after the file's calls. A refused play leaves the module of before.
abbrev pub is_made : Result ℕ Fault → Bool
is_made (Err w) = false
is_made (Ok count) = true

unfoldable pub played_module : Module → List ℕ → Module
played_module m f = when is_made (played_of f) then after_calls powered_up (file_calls f) else m
