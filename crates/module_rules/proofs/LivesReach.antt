-- The module of a life is the one that its calls reach.
--     watched_reaches   a watched module after calls
--     reaches_append    calls behind calls
-- Assumes nothing.
use Rattle.std.specs.Prelude.{◌∷◌, ◌++◌, ◌≡◌}
use Rattle.laws.proofs.Common.{List, [], refl}
use Rattle.module_rules.proofs.Types.{Module, Call}
use Rattle.module_rules.specs.Calls.{perform_of, after_calls}
use Rattle.module_rules.specs.Watch.{Watched, watched_call, watched_calls}

pub watched_reaches : (cs : List Call) (x : Watched) → (watched_calls x cs).now ≡ after_calls x.now cs
watched_reaches [] x = refl
watched_reaches (c ∷ cs) x = watched_reaches cs (watched_call x c)

pub reaches_append : (cs ds : List Call) (m : Module) → after_calls m (cs ++ ds) ≡ after_calls (after_calls m cs) ds
reaches_append [] ds m = refl
reaches_append (c ∷ cs) ds m = reaches_append cs ds (perform_of m c).after
