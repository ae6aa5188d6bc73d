-- The lines of a session that are kept, one after the other.
--     kept_line                         the record of a line, by that of the call that it asks for
--     counted_line                      and how many that is
--     kept_in, kept_in_all              what is kept of lines, and of all of a session
--     kept_at_most                      no more lines are kept than there are bytes
--     records_append                    the records of calls one behind the other
-- Assumes nothing.
use Rattle.std.specs.Prelude.{◌≤◌, ◌∷◌, ◌++◌, ◌≡◌, Option, Some, None, MatchOption, is_some, map}
use mir.Val.{bool_byte}
use Rattle.laws.proofs.Common.{ℕ, List, [], append_assoc, append-nil, refl, sym, ap, ap₂, subst, ◌∙◌}
use Rattle.laws.proofs.Common.{arith, length, length-append}
use Rattle.laws.proofs.Common.{if_keeps, by_test, when◌then◌else◌}
use Rattle.module_rules.proofs.Types.{Call}
use Rattle.script_rules.specs.Script.{lines_of, reading_of}
use Rattle.script_rules.proofs.ScriptLines.{lines_at_most}
use Rattle.trace_save_rules.specs.Save.{keeps, kept_of, kept_from, record_of, record_bytes}
use Rattle.script_lines.specs.Lines.{lines_left}
use Rattle.trace_writer.specs.Heads.{kept_record, KeptRecord}

-- The record of a call, and of a line that asks for one or for none.
kept_call : (c : Call) → KeptRecord (Some c) (kept_record c)
unfolding when◌then◌else◌ kept_record kept_of record_bytes
kept_call c = by_test (keeps c) (λ on. rw on (refl, sym (append-nil (record_of c)))) (λ off. rw off refl)

pub kept_line : (line : Option Call) (made : Option (List ℕ)) → MatchOption line (made ≡ None) (λ (c : Call). made ≡ kept_record c) → KeptRecord line made
unfolding kept_of
kept_line None made e = subst (KeptRecord None) (sym e) refl
kept_line (Some c) made e = subst (KeptRecord (Some c)) (sym e) (kept_call c)

pub counted_line : (line : Option Call) (made : Option (List ℕ)) → KeptRecord line made → bool_byte (is_some made) ≡ length (kept_of line)
counted_line line None e = sym (ap length e)
counted_line line (Some bytes) e = sym e.0

-- What is kept of lines.
abbrev pub kept_in : List (Option Call) → List Call
kept_in [] = []
kept_in (line ∷ lines) = kept_of line ++ kept_in lines

pub kept_in_all : (lines : List (List ℕ)) → kept_in (map reading_of lines) ≡ kept_from lines
unfolding kept_from
kept_in_all [] = refl
kept_in_all (line ∷ lines) = ap (λ (cs : List Call). kept_of (reading_of line) ++ cs) (kept_in_all lines)

pub kept_first : {session lines : List ℕ} {at : ℕ} → lines ≡ session → at ≡ 0 → kept_in (lines_left lines at) ≡ kept_from (lines_of session)
kept_first {session} same start = ap₂ (λ (s : List ℕ) (k : ℕ). kept_in (lines_left s k)) same start ∙ kept_in_all (lines_of session)

-- No more lines are kept than there are, and no more than there are bytes.
one_at_most : (line : Option Call) → length (kept_of line) ≤ 1
unfolding kept_of
one_at_most None = omega arith
one_at_most (Some c) = if_keeps (λ (cs : List Call). length cs ≤ 1) (keeps c) _ _ (λ on. omega arith) (λ off. omega arith)

lines_at_least : (lines : List (List ℕ)) → length (kept_from lines) ≤ length lines
unfolding kept_from
lines_at_least [] = omega arith
lines_at_least (line ∷ lines) =
    omega (arith, length-append (kept_of (reading_of line)) (kept_from lines), one_at_most (reading_of line), lines_at_least lines)

pub kept_at_most : (session : List ℕ) → length (kept_from (lines_of session)) ≤ length session
kept_at_most session = omega (arith, lines_at_least (lines_of session), lines_at_most session)

-- Records.
pub records_append : (xs ys : List Call) → record_bytes (xs ++ ys) ≡ record_bytes xs ++ record_bytes ys
unfolding record_bytes
records_append [] ys = refl
records_append (x ∷ xs) ys = rw (records_append xs ys, append_assoc)
