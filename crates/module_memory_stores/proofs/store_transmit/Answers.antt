-- What is written is read back.
use borrow.Author.Rules.{rules}
use Rattle.std.specs.Prelude.{◌∷◌, ◌++◌}
use Rattle.laws.proofs.Common.{refl, arith, [], when◌then◌else◌}
use Rattle.module_memory.specs.Memory.{settings_in, engine_in}
use Rattle.laws.specs.Writes.{at}
use Rattle.module_memory.specs.Writes.{words_written}
use Rattle.module_memory.proofs.Stored.{engine_step_lem}
use Rattle.module_memory.proofs.Rings.{cells_all}
use Rattle.module_memory.proofs.Bytes.{byte_small}
use Rattle.module_memory_stores.proofs.store_transmit.Goals as goal

pub returns : goal.returns
unfolding when◌then◌else◌ settings_in engine_in
returns c =
    rw c.store_buffer.ensures (engine_step_lem _ (words_written 24 c.args.t.words ++ at 40 _ ∷ at 41 _ ∷ at 42 _ ∷ []) c.told-w refl refl (rw (cells_all 16 c.args.t.words (search rules), byte_small c.args.t.write.0 (omega arith), byte_small c.args.t.read.0 (omega arith), byte_small c.args.t.count (omega arith))))
