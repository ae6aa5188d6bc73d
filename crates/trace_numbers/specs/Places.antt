-- Records by their places in the file.
use Rattle.std.specs.Prelude.{ℕ, zero, suc, ◌+◌, List, [], ◌∷◌}
use Rattle.trace_rules.specs.declared.Entry.{Entry}
use Rattle.trace_rules.specs.Trace.{byte_at, half_at}

-- The record at a place.
unfoldable pub entry_at : List ℕ → ℕ → Entry
entry_at f at = record { kind = byte_at f at; argument = byte_at f (at + 1); value = half_at f (at + 2) }

-- The records from a place on, so many.
unfoldable pub entries_at : List ℕ → ℕ → ℕ → List Entry
entries_at f zero at = []
entries_at f (suc n) at = entry_at f at ∷ entries_at f n (at + 4)
