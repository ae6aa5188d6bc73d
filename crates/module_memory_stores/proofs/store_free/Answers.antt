-- What is written is read back.
use Rattle.std.specs.Prelude.{◌∷◌}
use Rattle.laws.proofs.Common.{refl, [], when◌then◌else◌}
use Rattle.module_memory.specs.Memory.{settings_in, engine_in}
use Rattle.laws.specs.Writes.{at}
use Rattle.module_memory.proofs.Stored.{engine_step_lem}
use Rattle.module_memory_stores.proofs.store_free.Goals as goal

pub returns : goal.returns
unfolding when◌then◌else◌ settings_in engine_in
returns c = engine_step_lem _ (at 64 _ ∷ []) c.told-w refl refl (refl)
