-- What is written is read back.
use Rattle.std.specs.Prelude.{◌%◌}
use Rattle.laws.proofs.Common.{arith}
use Rattle.module_memory.specs.Memory.{byte_in, place_in, engine_in}
use Rattle.module_memory.proofs.Rings.{transmit_pushed}
use Rattle.module_memory.proofs.Bytes.{byte_small}
use Rattle.module_memory_stores.proofs.store_written.Goals as goal

pub returns : goal.returns
unfolding engine_in byte_in
returns c =
    rw c.store_entered.ensures (transmit_pushed c.args.w.now c.told-w (place_in c.args.w.now 40 % 16) _ _ _ _ _ (byte_small c.args.on (omega arith)) (byte_small c.args.count (omega arith)) (omega arith) (omega arith))
