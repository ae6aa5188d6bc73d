-- What is known of the sections' levels while a file is gone through, record by record.
use Rattle.std.specs.Prelude.{ℕ, ◌+◌, ◌<◌, List, [], ◌∷◌, ◌≡◌, length, get_or, set}
use Rattle.laws.specs.Choice.{when◌then◌else◌}
use Rattle.trace_rules.specs.declared.Entry.{Entry}
use Rattle.trace_rules.specs.Trace.{is_play, higher, highest_player, levels_below}

-- Levels, a number for each section: a play record in a section of some level raises the section that it names above that level.
unfoldable pub raised_one : ℕ → List ℕ → Entry → List ℕ
raised_one level levels e =
    when is_play e then set levels e.argument (higher (get_or levels e.argument 0) (level + 1)) else levels

unfoldable pub raised_by : ℕ → List ℕ → List Entry → List ℕ
raised_by level levels [] = levels
raised_by level levels (e ∷ es) = raised_by level (raised_one level levels e) es

-- With all sections below number `k` gone through, each section stands one above the highest of them that plays it.
pub record LevelsAt (s : ℕ → List Entry) (k : ℕ) (levels : List ℕ) : Type 0 where
  pub all : length levels ≡ 256
  pub each : (j : ℕ) → j < 256 → get_or levels j 0 ≡ 1 + highest_player s (levels_below s k) j k
