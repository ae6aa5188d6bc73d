-- Each state is stored.
use Rattle.laws.proofs.Common.{refl, by_case}
use Rattle.module_types.specs.declared.Shift.{Shift}
use Rattle.module_rules.specs.Changes.{with_shift}
use Rattle.module_memory.specs.Memory.{engine_in}
use Rattle.module_memory.proofs.Taken.{alike}
use Rattle.module_memory_stores.proofs.store_shift.Goals as goal

pub returns-in-Free : goal.returns-in-Free
returns-in-Free c = alike c.store_free.ensures (by_case (λ (x : Shift). with_shift x (engine_in c.args.w.now)) c.in-Free.is refl)

pub returns-in-Loaded : goal.returns-in-Loaded
returns-in-Loaded c =
    alike c.store_loaded.ensures (by_case (λ (x : Shift). with_shift x (engine_in c.args.w.now)) c.in-Loaded.is refl)

pub returns-in-Begun : goal.returns-in-Begun
returns-in-Begun c =
    alike c.store_begun.ensures (by_case (λ (x : Shift). with_shift x (engine_in c.args.w.now)) c.in-Begun.is refl)
