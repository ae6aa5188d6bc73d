-- What is read of the module that memory holds.
use Rattle.laws.proofs.Common.{sym}
use Rattle.module_register_calls.proofs.stat.Goals as goal

pub returns : goal.returns
returns c =
    c.stat_value.ensures _ (record { settings = sym c.settings_in-s.ensures; waiting = sym c.waiting_in-waiting.ensures; unread = sym c.unread_in-unread.ensures; free = sym c.is_free-free.ensures; spirov = sym c.spirov_in-spirov.ensures })
