-- The lines of a script, as what each asks for.
use Rattle.std.specs.Prelude.{ℕ, List, Option, drop, map}
use Rattle.module_types.specs.declared.Call.{Call}
use Rattle.script_rules.specs.Script.{lines_of, reading_of}

-- What the lines from a place on ask for.
abbrev pub lines_left : List ℕ → ℕ → List (Option Call)
lines_left script at = map reading_of (lines_of (drop at script))
