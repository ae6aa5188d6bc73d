-- Playing a trace file over a module in memory.
use Rattle.std.specs.Prelude.{ℕ, false, List, [], ◌∷◌, ◌≡◌, Result}
use Rattle.laws.specs.Choice.{when◌then◌else◌}
use Rattle.module_types.specs.declared.Call.{Call}
use Rattle.trace_rules.specs.declared.Entry.{Entry}
use Rattle.trace_rules.specs.declared.Fault.{Fault}
use Rattle.trace_rules.specs.Trace.{is_play, call_of, times, play_calls, played_of, is_made, played_module}
use Rattle.module_memory.specs.Memory.{module_in}

-- The calls of one record, with so many levels left for the section that it may play.
unfoldable pub entry_calls : List ℕ → ℕ → Entry → List Call
entry_calls f left e = when is_play e then times e.value (play_calls f left e.argument) else call_of e ∷ []

-- What a play answers, and memory before and after it: the module is the one that the rules say, and a refused play leaves every
-- number as it was.
pub record Plays (f : List ℕ) (r : Result ℕ Fault) (before after : List ℕ) : Type 0 where
  pub answer : r ≡ played_of f
  pub ends : module_in after ≡ played_module (module_in before) f
  pub untouched : is_made r ≡ false → after ≡ before
