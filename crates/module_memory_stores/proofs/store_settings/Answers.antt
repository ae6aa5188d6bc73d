-- What is written is read back.
use Rattle.std.specs.Prelude.{◌∷◌}
use Rattle.laws.proofs.Common.{refl, arith, [], when◌then◌else◌}
use Rattle.module_rules.specs.Registers.{weighed}
use Rattle.module_memory.specs.Memory.{settings_in, engine_in}
use Rattle.laws.specs.Writes.{at}
use Rattle.module_memory.proofs.Stored.{settings_set}
use Rattle.module_memory.proofs.Registers.{stat_back, con1_back, con2_back}
use Rattle.module_memory.proofs.Bytes.{byte_small}
use Rattle.module_memory_stores.proofs.store_settings.Goals as goal

pub returns : goal.returns
unfolding when◌then◌else◌ weighed settings_in engine_in
returns c =
    settings_set _ (at 0 _ ∷ at 1 _ ∷ at 2 _ ∷ at 3 _ ∷ at 4 _ ∷ at 5 _ ∷ at 6 _ ∷ []) c.told-w refl
    (rw (c.weigh.ensures.value, c.weigh-2.ensures.value, c.con1_value.ensures, c.con2_value.ensures, byte_small c.args.s.sisel (omega arith), byte_small c.args.s.con1.spre (omega arith), byte_small c.args.s.con1.ppre (omega arith), (stat_back c.args.s.spien c.args.s.spisidl).0, (stat_back c.args.s.spien c.args.s.spisidl).1, con1_back c.args.s.con1, con2_back c.args.s.con2, c.depth_number.ensures)) refl
