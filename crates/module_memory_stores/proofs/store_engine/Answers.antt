-- Every part is stored.
use Rattle.module_memory.proofs.Taken.{◌then◌}
use Rattle.module_memory_stores.proofs.store_engine.Goals as goal

pub returns : goal.returns
returns c =
    c.store_transmit.ensures then c.store_receive.ensures then c.store_shift.ensures then c.store_sck.ensures then c.store_ss.ensures then c.store_sdo.ensures then c.store_pulse.ensures then c.store_spirov.ensures then c.store_interrupt.ensures
