-- Zeros but for the depth hold a module that has just powered up with it.
use Rattle.laws.proofs.Common.{refl, when◌then◌else◌}
use Rattle.word_order.specs.Bits.{bit_of}
use Rattle.module_rules.specs.Registers.{con1_from, con2_from}
use Rattle.module_rules.specs.Buffers.{empty_transmit, empty_receive}
use Rattle.module_rules.specs.Calls.{powered_at}
use Rattle.module_memory.specs.Memory.{bit_in, byte_in, settings_in, engine_in}
use Rattle.module_memory_stores.proofs.power_up_at.Goals as goal

pub returns : goal.returns
unfolding when◌then◌else◌ bit_in byte_in settings_in engine_in bit_of con1_from con2_from empty_transmit empty_receive powered_at
returns c = rw c.depth_number.ensures refl
