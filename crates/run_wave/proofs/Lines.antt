-- The lines of a script that are left when some are drawn: what they do to the module is what is left of the script.
--     lines_end        the module after lines, by what each asks for
--     drawn_starts     before the first line
-- Assumes nothing.
use Rattle.std.specs.Prelude.{◌≤◌, ◌∷◌, ◌≡◌, Option, map}
use Rattle.laws.proofs.Common.{ℕ, List, [], refl, sym, ap, ap₂, ◌∙◌, length, take_all}
use Rattle.module_types.specs.declared.Call.{Call}
use Rattle.module_types.specs.declared.Module.{Module}
use Rattle.module_rules.specs.Calls.{powered_up, after_calls}
use Rattle.script_rules.specs.Script.{most_bytes, read_from, lines_of, reading_of, line_after, lines_calls, script_calls, script_end}
use Rattle.script_rules.proofs.ScriptText.{call_of_line}
use Rattle.script_lines.specs.Lines.{lines_left}

abbrev pub lines_end : Module → List (Option Call) → Module
lines_end m [] = m
lines_end m (line ∷ lines) = lines_end (line_after m line) lines

lines_end_calls : (m : Module) (lines : List (List ℕ)) → lines_end m (map reading_of lines) ≡ after_calls m (lines_calls lines)
unfolding lines_calls
lines_end_calls m [] = refl
lines_end_calls m (line ∷ lines) = lines_end_calls (line_after m (reading_of line)) lines ∙ sym (call_of_line m (reading_of line) (lines_calls lines))

pub drawn_starts : {script lines : List ℕ} {at : ℕ} {m : Module} → length script ≤ 65535 → lines ≡ script → at ≡ 0 → m ≡ powered_up →
    lines_end m (lines_left lines at) ≡ script_end script
unfolding script_end script_calls read_from most_bytes
drawn_starts {script} {m = m} h same start up =
    ap₂ (λ (s : List ℕ) (k : ℕ). lines_end m (lines_left s k)) same start
    ∙ ap (λ (n : Module). lines_end n (lines_left script 0)) up
    ∙ lines_end_calls powered_up (lines_of script)
    ∙ ap (λ (bs : List ℕ). after_calls powered_up (lines_calls (lines_of bs))) (sym (take_all 65535 script h))
