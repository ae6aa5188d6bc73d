-- The file, written in two parts, and the loop that writes its records.
--     records_in                       the records of lines
--     records_first, records_more, records_none   all, those of a line and the rest, and none
--     file_parts                      the file is its table of contents and its records
--     session_is, few_kept, counted  what is read of a script, and how many of its lines are kept
--     too_long_lem, too_large, fitting    whether it has_room, by the bytes of its records
--     refused, saved                  what a save answers, and the buffer after it
-- Assumes nothing.
use Rattle.std.specs.Prelude.{◌+◌, ◌*◌, ◌≤◌, ◌<◌, ◌++◌, ◌∷◌, Option, Ok, Err, ◌≡◌}
use Rattle.laws.proofs.Common.{ℕ, true, false, List, [], append-nil, refl, sym, ap, ap₂, subst, ◌∙◌}
use Rattle.laws.proofs.Common.{arith, le-leb, lt-leb, leb, length, take, get_or, so, not_so, and_both, and-false}
use Rattle.laws.proofs.Common.{and_first}
use Rattle.module_types.specs.declared.Call.{Call}
use Rattle.script_rules.specs.Script.{most_bytes, read_from, lines_of}
use Rattle.script_rules.specs.Texts.{put, Written}
use Rattle.script_rules.proofs.ScriptLines.{read_part, reads_at_most}
use Rattle.trace_rules.specs.TraceBytes.{half, word}
use Rattle.trace_save_rules.specs.Save.{kept_of, kept_from, kept_calls, record_bytes, file_of, saved_file, has_room, no_room, saved_of, buffer_after}
use Rattle.trace_save_rules.proofs.SaveFile.{file_length, records_length}
use Rattle.trace_save_rules.proofs.SaveLines.{all_kept_lem}
use Rattle.script_lines.specs.Lines.{lines_left}
use Rattle.trace_writer.specs.Heads.{head_of, put_records}
use Rattle.trace_writer.proofs.Placing.{Writing, writing_first, put_front, put_on}
use Rattle.trace_writer.proofs.Kept.{kept_in, kept_first, records_append}

-- The records of lines: all of a session, which fit where the lines that are kept do, those of a line and the rest, and none.
abbrev pub records_in : List (Option Call) → List ℕ
records_in lines = record_bytes (kept_in lines)

pub records_first : {session lines out : List ℕ} {at from : ℕ} → lines ≡ session → at ≡ 0 →
    from + 4 * length (kept_from (lines_of session)) ≤ length out →
    Writing (put_records out from session) (from + length (record_bytes (kept_from (lines_of session)))) (records_in (lines_left lines at)) out from
records_first {session} {out = out} {from = from} same start room =
    subst
    (λ (left : List Call). Writing (put_records out from session) (from + length (record_bytes (kept_from (lines_of session)))) (record_bytes left) out from)
    (sym (kept_first same start))
    (writing_first (omega (arith, room, records_length (kept_from (lines_of session)) (all_kept_lem (lines_of session)))))

pub records_more : {line : Option Call} {lines rest : List (Option Call)} → lines ≡ line ∷ rest →
    records_in lines ≡ record_bytes (kept_of line) ++ records_in rest
records_more {line} e = ap records_in e ∙ records_append (kept_of line) _

pub records_none : {lines : List (Option Call)} → lines ≡ [] → records_in lines ≡ []
unfolding record_bytes
records_none e = ap records_in e

-- The file is its table of contents, of one section with the size for it, and its records.
pub file_parts : (cs : List Call) (sizes : List ℕ) → get_or sizes 0 0 ≡ length (record_bytes cs) → file_of cs ≡ head_of 1 sizes ++ record_bytes cs
unfolding file_of head_of
file_parts cs sizes size =
    ap₂ (λ (n : ℕ) (body : List ℕ). half 1 ++ (word 10 ++ (word n ++ body))) (sym size) (append-nil (record_bytes cs))

-- What is read of a script, as the part that is handed on.
module _ (script : List ℕ) {n : ℕ} (part : n ≡ length (read_from script)) where
  pub session_is : take n script ≡ read_from script
  session_is = read_part script n part

  pub few_kept : {kept : ℕ} → kept ≤ length (take n script) → kept ≤ 65535
  unfolding most_bytes
  few_kept h = omega (arith, h, ap length session_is, reads_at_most script)

  pub counted : {kept : ℕ} → kept ≡ length (kept_from (lines_of (take n script))) →
      4 * kept ≡ 4 * length (kept_from (lines_of (read_from script)))
  counted h = omega (arith, h, ap (λ (s : List ℕ). length (kept_from (lines_of s))) session_is)

-- A session of so many lines that are kept.
module _ (script : List ℕ) {size : ℕ} (counted : size ≡ 4 * length (kept_from (lines_of (read_from script)))) (room : ℕ) where
  saved_size : length (saved_file script) ≡ 10 + size
  unfolding saved_file kept_calls
  saved_size = file_length (kept_from (lines_of (read_from script))) (all_kept_lem (lines_of (read_from script))) ∙ omega (arith, counted)

  pub too_long_lem : 65535 < 10 + size → has_room (saved_file script) room ≡ false
  unfolding has_room
  too_long_lem h = and_first (leb (length (saved_file script)) 65535) _ (lt-leb (length (saved_file script)) 65535 (omega (arith, saved_size)))

  pub too_large : room < 10 + size → has_room (saved_file script) room ≡ false
  unfolding has_room
  too_large h = and-false (leb (length (saved_file script)) 65535) _ (lt-leb (length (saved_file script)) room (omega (arith, saved_size)))

  pub fitting : 10 + size ≤ 65535 → 10 + size ≤ room → has_room (saved_file script) room ≡ true
  unfolding has_room
  fitting h k =
      and_both (leb (length (saved_file script)) 65535) _ (le-leb (length (saved_file script)) 65535 (omega (arith, saved_size)))
      (le-leb (length (saved_file script)) room (omega (arith, saved_size)))

-- A save that is refused, and one that is not.
pub refused : (script out : List ℕ) → has_room (saved_file script) (length out) ≡ false →
    (Err no_room ≡ saved_of script (length out)) × (out ≡ buffer_after script out)
unfolding saved_of buffer_after
refused script out off = (not_so _ _ _ off refl, not_so _ _ _ off refl)

pub saved : (script out out' : List ℕ) {size next : ℕ} (sizes : List ℕ) → get_or sizes 0 0 ≡ size →
    size ≡ 4 * length (kept_from (lines_of (read_from script))) →
    10 + size ≤ 65535 → 10 + size ≤ length out → Written (head_of 1 sizes) out 0 out' next →
    (Ok (10 + size) ≡ saved_of script (length out))
    × (put out' next (record_bytes (kept_from (lines_of (read_from script)))) ≡ buffer_after script out)
unfolding saved_of buffer_after saved_file kept_calls
saved script out out' {size} {next} sizes one counted short room head =
    let cs = kept_from (lines_of (read_from script)) in
    let on = fitting script counted (length out) short room in
    let long = saved_size script counted (length out) in
    let parts = file_parts cs sizes (one ∙ counted ∙ sym (records_length cs (all_kept_lem (lines_of (read_from script))))) in (
      so _ _ _ on (ap Ok (sym long)),
      so _ _ _ on
          (put_on head (record_bytes cs) (put out 0 (head_of 1 sizes ++ record_bytes cs)) refl
          ∙ ap (put out 0) (sym parts)
          ∙ put_front out (file_of cs) (omega (arith, long))),
    )
