-- What is written is read back.
use Rattle.std.specs.Prelude.{◌∷◌}
use Rattle.laws.proofs.Common.{refl, [], when◌then◌else◌}
use Rattle.module_rules.specs.Calls.{with_con2}
use Rattle.module_memory.specs.Memory.{settings_in, engine_in}
use Rattle.laws.specs.Writes.{at}
use Rattle.module_memory.proofs.Stored.{settings_set}
use Rattle.module_memory_stores.proofs.store_con2.Goals as goal

pub returns : goal.returns
unfolding when◌then◌else◌ with_con2 settings_in engine_in
returns c = settings_set _ (at 5 _ ∷ []) c.told-w refl refl refl
