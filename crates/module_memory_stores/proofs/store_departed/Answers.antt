-- What is written is read back.
use Rattle.std.specs.Prelude.{◌∷◌}
use Rattle.laws.proofs.Common.{refl, arith, [], when◌then◌else◌}
use Rattle.module_memory.specs.Memory.{settings_in, engine_in}
use Rattle.laws.specs.Writes.{at}
use Rattle.module_memory.proofs.Stored.{engine_step_lem}
use Rattle.module_memory.proofs.Bytes.{byte_small}
use Rattle.module_memory_stores.proofs.store_departed.Goals as goal

pub returns : goal.returns
unfolding when◌then◌else◌ settings_in engine_in
returns c =
    rw c.store_left.ensures (engine_step_lem _ (at 41 _ ∷ at 42 _ ∷ []) c.told-w refl refl (rw (byte_small c.args.on (omega arith), byte_small c.args.count (omega arith))))
