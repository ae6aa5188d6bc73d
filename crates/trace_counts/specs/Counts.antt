-- What is known of the sections' counts while a file is gone through, record by record.
use Rattle.std.specs.Prelude.{ℕ, ◌+◌, ◌*◌, ◌<◌, ◌≤◌, List, ◌≡◌, leb, length, get_or}
use Rattle.laws.specs.Choice.{when◌then◌else◌}
use Rattle.trace_rules.specs.declared.Entry.{Entry}
use Rattle.trace_rules.specs.Trace.{section_count, play_count, is_play}

-- Counts, a number for each section, that stop at 65,536: more than may be made is too much, however much.
unfoldable pub capped : ℕ → ℕ
capped n = when leb n 65536 then n else 65536

-- What a record counts, if the sections that it may play count so much.
unfoldable pub weight_by : (ℕ → ℕ) → Entry → ℕ
weight_by sub e = when is_play e then e.value * (1 + sub e.argument) else 1

-- The counts of the sections from number `k` on, each with all its levels.
pub record CountsFrom (f : List ℕ) (k : ℕ) (counts : List ℕ) : Type 0 where
  pub all : length counts ≡ 256
  pub each : (j : ℕ) → k ≤ j → j < section_count f → get_or counts j 0 ≡ capped (play_count f 8 j)
