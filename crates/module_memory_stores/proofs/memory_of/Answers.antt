-- The settings and then the engine are stored.
use Rattle.module_memory.proofs.Taken.{made}
use Rattle.module_memory_stores.proofs.memory_of.Goals as goal

pub returns : goal.returns
returns c = made c.store_settings.ensures c.store_engine.ensures
