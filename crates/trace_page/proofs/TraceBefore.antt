-- Traces use the clock step beneath ticks and pin calls (document 02, Eleven), and no play ends otherwise.
--     play_as_before   a played file ends in the module in which it ended with tick and pin call as they were
-- Assumes nothing.
use Rattle.std.specs.Prelude.{◌≡◌}
use Rattle.laws.proofs.Common.{ℕ, List, ap, when◌then◌else◌}
use Rattle.module_types.specs.declared.Module.{Module}
use Rattle.module_rules.specs.Calls.{powered_up}
use Rattle.module_rules.proofs.ClockSteps.{calls_before, calls_as_before}
use Rattle.trace_rules.specs.Trace.{file_calls, played_of, is_made, played_module}

pub play_as_before : (m : Module) (f : List ℕ) →
    played_module m f ≡ (when is_made (played_of f) then calls_before powered_up (file_calls f) else m)
unfolding played_module
play_as_before m f = ap (λ (n : Module). when is_made (played_of f) then n else m) (calls_as_before (file_calls f) powered_up)
