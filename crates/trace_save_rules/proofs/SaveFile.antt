-- The file of some calls is a right trace file that makes them.
--     records_length four bytes for each call
--     file_length    and ten before them
--     file_section   it has one section
--     file_played    it is played, and counts its calls
--     file_calls_lem     and makes them in order
-- Assumes nothing.
use Rattle.std.specs.Prelude.{◌+◌, ◌*◌, ◌≤◌, ◌&&◌, ◌∷◌, ◌++◌, ◌≡◌, Ok}
use Rattle.laws.proofs.Common.{ℕ, zero, suc, Bool, true, false, not, List, [], append-nil}
use Rattle.laws.proofs.Common.{refl, ap, ◌∙◌, arith, le-ltb, leb-true, ltb, length, length-append, when◌then◌else◌}
use Rattle.laws.proofs.Common.{if_false, and_left, and_right, and_both, clash}
use Rattle.module_rules.proofs.Types.{Call, Read, Write, Tick, Pin, ClockStep, Clear}
use Rattle.trace_rules.specs.declared.Entry.{Entry}
use Rattle.trace_rules.specs.Trace.{byte_at, half_at, section_count, contents_right, entries_in, entries_of, is_play, section_level, right_record, all_right, all_below, records_right, calls_by, play_calls, count_by, play_count, file_calls, file_count, played_of}
use Rattle.trace_page.proofs.TraceRight.{makes_call, in_right}
use Rattle.trace_page.proofs.TraceContents.{laid_contents}
use Rattle.trace_bytes.proofs.TraceNumbers.{two_bytes}
use Rattle.trace_bytes.proofs.TraceFiles.{file_count_lem, file_body, file_laid}
use Rattle.trace_rules.specs.TraceDemands as page
use Rattle.trace_save_rules.specs.Save.{keeps, wires, record_of, record_bytes, file_of}

-- Every call is one that is kept.
abbrev pub all_kept : List Call → Bool
all_kept [] = true
all_kept (c ∷ cs) = keeps c && all_kept cs

-- Bytes.

record_length : (c : Call) → keeps c ≡ true → length (record_of c) ≡ 4
unfolding record_of keeps
record_length (Write register v) k = refl
record_length (Read register) k = refl
record_length (Tick sdi ss) k = refl
record_length (Pin sck sdi ss) k = refl
record_length (ClockStep sck sdi ss) k = clash false k refl
record_length Clear k = refl

pub records_length : (cs : List Call) → all_kept cs ≡ true → length (record_bytes cs) ≡ 4 * length cs
unfolding record_bytes
records_length [] k = refl
records_length (c ∷ cs) k =
    omega (
      arith,
      length-append (record_of c) (record_bytes cs),
      record_length c (and_left (keeps c) _ k),
      records_length cs (and_right (keeps c) _ k),
    )

pub file_length : (cs : List Call) → all_kept cs ≡ true → length (file_of cs) ≡ 10 + 4 * length cs
unfolding file_of
file_length cs k = omega (arith, records_length cs k, ap length (append-nil (record_bytes cs)))

-- The contents, by the laws of files.
contents : (cs : List Call) → all_kept cs ≡ true → length (file_of cs) ≤ 65535 → contents_right (file_of cs) ≡ true
unfolding file_of
contents cs k fits =
    laid_contents (file_of cs)
    (file_laid (record_bytes cs ∷ []) (omega arith) (omega arith)
    (elim [
      | zero ↦ λ h. omega (arith, records_length cs k)
      | suc i ↦ λ h. absurd (omega arith)
    ])
    fits)

-- Records.

-- What stands behind a call's record, as records.
entries_more : (c : Call) (rest : List ℕ) → entries_in (record_of c ++ rest) ≡ entries_in (record_of c) ++ entries_in rest
unfolding record_of entries_in
entries_more (Write register v) rest = refl
entries_more (Read register) rest = refl
entries_more (Tick sdi ss) rest = refl
entries_more (Pin sck sdi ss) rest = refl
entries_more (ClockStep sck sdi ss) rest = refl
entries_more Clear rest = refl

-- The record of a call that is kept.
abbrev entry_of : Call → Entry
entry_of (Write register v) = record { kind = 0; argument = register; value = v }
entry_of (Read register) = record { kind = 1; argument = register; value = 0 }
entry_of (Tick sdi ss) = record { kind = 2; argument = wires sdi false ss; value = 0 }
entry_of (Pin sck sdi ss) = record { kind = 3; argument = wires sdi sck ss; value = 0 }
entry_of (ClockStep sck sdi ss) = record { kind = 4; argument = 0; value = 0 }
entry_of Clear = record { kind = 4; argument = 0; value = 0 }

one_entry : (c : Call) → keeps c ≡ true → entries_in (record_of c) ≡ entry_of c ∷ []
unfolding record_of entries_in keeps
one_entry (Write register v) k = ap {B = List Entry} (λ value. record { kind = 0; argument = register; value = value } ∷ []) (two_bytes v)
one_entry (Read register) k = refl
one_entry (Tick sdi ss) k = refl
one_entry (Pin sck sdi ss) k = refl
one_entry (ClockStep sck sdi ss) k = clash false k refl
one_entry Clear k = refl

abbrev entries : List Call → List Entry
entries [] = []
entries (c ∷ cs) = entry_of c ∷ entries cs

records_entries : (cs : List Call) → all_kept cs ≡ true → entries_in (record_bytes cs) ≡ entries cs
unfolding record_bytes entries_in
records_entries [] k = refl
records_entries (c ∷ cs) k =
    cc (entries_more c (record_bytes cs), one_entry c (and_left (keeps c) _ k), records_entries cs (and_right (keeps c) _ k))

section : (cs : List Call) → all_kept cs ≡ true → entries_of (file_of cs) 0 ≡ entries cs
unfolding entries_of file_of
section cs k = ap entries_in (file_body (record_bytes cs ∷ []) 0 (omega arith)) ∙ records_entries cs k

-- The wires of an argument are those of the page.
weight : (b : Bool) (n : ℕ) → (when b then n else 0) ≡ n * page.bit b
unfolding when◌then◌else◌
weight true n = omega arith
weight false n = omega arith

wires_same : (sdi sck ss : Bool) → wires sdi sck ss ≡ page.wires sdi sck ss
unfolding wires
wires_same sdi sck ss = omega (arith, weight sdi 1, weight sck 2, weight ss 4)

-- The record of a call that is kept makes that call, so that it is right, and plays no section.
makes : (c : Call) → keeps c ≡ true → page.Makes (entry_of c) c
unfolding keeps
makes (Write register v) k = page.write register v (leb-true register 3 k) refl
makes (Read register) k = page.read register (leb-true register 3 k) refl
makes (Tick sdi ss) k = page.tick sdi ss (ap (λ (a : ℕ). page.fields 2 a 0) (wires_same sdi false ss))
makes (Pin sck sdi ss) k = page.pins sck sdi ss (ap (λ (a : ℕ). page.fields 3 a 0) (wires_same sdi sck ss))
makes (ClockStep sck sdi ss) k = clash false k refl
makes Clear k = page.clear refl

all_right_lem : (count level : ℕ) (cs : List Call) → all_kept cs ≡ true → all_right count level 0 (entries cs) ≡ true
unfolding all_right
all_right_lem count level [] k = refl
all_right_lem count level (c ∷ cs) k =
    and_both (right_record count level 0 (entry_of c)) _
    (in_right count level 0 (entry_of c) (page.call c (makes c (and_left (keeps c) _ k))))
    (all_right_lem count level cs (and_right (keeps c) _ k))

no_play : (c : Call) → is_play (entry_of c) ≡ false
unfolding is_play
no_play (Write register v) = refl
no_play (Read register) = refl
no_play (Tick sdi ss) = refl
no_play (Pin sck sdi ss) = refl
no_play (ClockStep sck sdi ss) = refl
no_play Clear = refl

calls : (sub : ℕ → List Call) (cs : List Call) → all_kept cs ≡ true → calls_by sub (entries cs) ≡ cs
unfolding calls_by
calls sub [] k = refl
calls sub (c ∷ cs) k =
    ap (λ (first : List Call). first ++ calls_by sub (entries cs)) (if_false (is_play (entry_of c)) _ _ (no_play c))
    ∙ cc (makes_call (entry_of c) c (makes c (and_left (keeps c) _ k)), calls sub cs (and_right (keeps c) _ k))

count : (sub : ℕ → ℕ) (cs : List Call) → count_by sub (entries cs) ≡ length cs
unfolding count_by
count sub [] = refl
count sub (c ∷ cs) =
    ap (λ (first : ℕ). first + count_by sub (entries cs)) (if_false (is_play (entry_of c)) _ _ (no_play c))
    ∙ omega (arith, count sub cs)

-- The whole file.
pub file_section : (cs : List Call) → section_count (file_of cs) ≡ 1
unfolding file_of
file_section cs = file_count_lem (record_bytes cs ∷ [])

pub file_calls_lem : (cs : List Call) → all_kept cs ≡ true → file_calls (file_of cs) ≡ cs
unfolding file_calls play_calls
file_calls_lem cs k = ap (calls_by (play_calls (file_of cs) 7)) (section cs k) ∙ calls (play_calls (file_of cs) 7) cs k

calls_counted : (cs : List Call) → all_kept cs ≡ true → file_count (file_of cs) ≡ length cs
unfolding file_count play_count
calls_counted cs k = ap (count_by (play_count (file_of cs) 7)) (section cs k) ∙ count (play_count (file_of cs) 7) cs

records : (cs : List Call) → all_kept cs ≡ true → records_right (file_of cs) ≡ true
unfolding records_right all_below section_count half_at byte_at file_of
records cs k =
    let level : ℕ = section_level (entries_of (file_of cs)) 0 in
    ap (all_right 1 level 0) (section cs k) ∙ all_right_lem 1 level cs k

pub file_played : (cs : List Call) → all_kept cs ≡ true → length (file_of cs) ≤ 65535 → played_of (file_of cs) ≡ Ok (length cs)
unfolding played_of
file_played cs k fits =
    if_false (not (contents_right (file_of cs))) _ _ (ap not (contents cs k fits))
    ∙ if_false (not (records_right (file_of cs))) _ _ (ap not (records cs k))
    ∙ if_false (ltb 65535 (file_count (file_of cs))) _ _ (le-ltb 65535 (file_count (file_of cs)) (omega (arith, calls_counted cs k, file_length cs k)))
    ∙ ap Ok (calls_counted cs k)
