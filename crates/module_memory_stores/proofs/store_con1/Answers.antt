-- What is written is read back.
use Rattle.std.specs.Prelude.{◌/◌, ◌%◌, ◌∷◌}
use Rattle.laws.proofs.Common.{refl, arith, [], when◌then◌else◌}
use Rattle.module_rules.specs.Registers.{con1_from}
use Rattle.module_rules.specs.Calls.{with_con1}
use Rattle.module_memory.specs.Memory.{settings_in, engine_in}
use Rattle.laws.specs.Writes.{at}
use Rattle.module_memory.proofs.Stored.{settings_set}
use Rattle.module_memory.proofs.Bytes.{byte_small}
use Rattle.module_memory_stores.proofs.store_con1.Goals as goal

pub returns : goal.returns
unfolding when◌then◌else◌ con1_from with_con1 settings_in engine_in
returns c =
    settings_set _ (at 2 _ ∷ at 3 _ ∷ at 4 _ ∷ []) c.told-w refl (rw (byte_small (c.args.v / 4 % 8) (omega arith), byte_small (c.args.v % 4) (omega arith))) refl
