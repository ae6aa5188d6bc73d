-- What is written is read back.
use Rattle.std.specs.Prelude.{◌∷◌}
use Rattle.laws.proofs.Common.{refl, arith, [], when◌then◌else◌}
use Rattle.module_memory.specs.Memory.{settings_in, engine_in}
use Rattle.laws.specs.Writes.{at}
use Rattle.module_memory.proofs.Stored.{engine_step_lem}
use Rattle.module_memory.proofs.Looks.{gone_on_lem}
use Rattle.module_memory.proofs.Bytes.{byte_small}
use Rattle.module_memory_stores.proofs.store_gone.Goals as goal

pub returns : goal.returns
unfolding when◌then◌else◌ settings_in engine_in
returns c =
    engine_step_lem _ (at 67 _ ∷ at 68 _ ∷ []) c.told-w refl refl (rw (byte_small c.args.edges (omega arith), gone_on_lem _ _ _))
