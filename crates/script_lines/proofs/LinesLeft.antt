-- The lines of a script from a place on: the next one and those behind it, and none past the last byte.
-- Assumes nothing.
use Rattle.std.specs.Prelude.{◌+◌, ◌≤◌, ◌<◌, ◌∷◌, ◌≡◌, Option, map}
use Rattle.laws.proofs.Common.{ℕ, List, [], ap, ◌∙◌, arith, length, drop, drop_of_length-le, length-drop, drop-drop}
use Rattle.module_rules.proofs.Types.{Call}
use Rattle.script_rules.specs.Script.{lines_of, reading_of}
use Rattle.script_rules.specs.Session.{first_line}
use Rattle.script_rules.proofs.ScriptLines.{lines_begin}
use Rattle.script_lines.specs.Lines.{lines_left}

module _ (script : List ℕ) (at : ℕ) where
  pub lines_more : {line : Option Call} {end : ℕ} → at < length script → line ≡ reading_of (first_line (drop at script)) →
      end ≡ at + length (first_line (drop at script)) → lines_left script at ≡ line ∷ lines_left script (end + 1)
  lines_more h reads ends =
      let first = first_line (drop at script) in
      ap (map reading_of) (lines_begin (drop at script) (omega (arith, length-drop at script)))
      ∙ cc (
        reads,
        drop-drop (length first + 1) at script,
        ap (λ (k : ℕ). drop k script) (let same : at + (length first + 1) ≡ at + length first + 1 = omega arith in same),
        ends,
      )

  pub lines_none : length script ≤ at → lines_left script at ≡ []
  unfolding lines_of
  lines_none h = rw (drop_of_length-le script h)
