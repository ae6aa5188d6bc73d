-- Records that make no call, and where the next one lies that may. Playing passes the records between.
use Rattle.std.specs.Prelude.{ℕ, zero, suc, ◌+◌, ◌-◌, ◌/◌, ◌%◌, ◌≤◌, Bool, true, ◌&&◌, List, ◌≡◌, eqb, length, get_or}
use Rattle.laws.specs.Choice.{when◌then◌else◌}
use Rattle.trace_rules.specs.declared.Entry.{Entry}
use Rattle.trace_rules.specs.Trace.{is_play}
use Rattle.trace_numbers.specs.Places.{entry_at}

-- A record is idle if it plays a section zero times. Any other counts, be it as a call or as a repeat.
unfoldable pub idle : Entry → Bool
idle e = is_play e && eqb e.value 0

-- Where the first of so many records from a place on lies that is not idle, or the place behind them.
unfoldable pub landing : List ℕ → ℕ → ℕ → ℕ
landing f zero at = at
landing f (suc n) at = when idle (entry_at f at) then landing f n (at + 4) else at

-- The same of all records up to the file's end.
unfoldable pub landing_of : List ℕ → ℕ → ℕ
landing_of f at = landing f ((length f - at) / 4) at

-- A table for the idle records from a place on, the file's last included: at a quarter of a record's place, where the first one
-- behind it lies that is not idle, or the file's end.
pub record PassedFrom (f : List ℕ) (at : ℕ) (next : List ℕ) : Type 0 where
  pub all : length next ≡ 16384
  pub each : (i : ℕ) → at ≤ i → i + 4 ≤ length f → (length f - i) % 4 ≡ 0 → idle (entry_at f i) ≡ true →
      get_or next (i / 4) 0 ≡ landing_of f i
