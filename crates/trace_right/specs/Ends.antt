-- Where a table of contents says that the sections end.
use Rattle.std.specs.Prelude.{ℕ, zero, suc, List, Option, Some, None}
use Rattle.laws.specs.Choice.{when◌then◌else◌}
use Rattle.trace_rules.specs.Trace.{section_count, place_of, gapless, table_right}

-- Where the first `n` sections end, if none lies behind a gap; and where the last one does, if the table of contents is whole and gapless.
-- Else 0.
abbrev pub gapless_end : List ℕ → ℕ → ℕ
gapless_end f n = when gapless f n then place_of f n else 0

unfoldable pub stated_end : List ℕ → ℕ
stated_end f = when table_right f then place_of f (section_count f) else 0

-- An end, if it is one: no table of contents ends at 0.
unfoldable pub ended : ℕ → Option ℕ
ended zero = None
ended (suc n) = Some (suc n)
