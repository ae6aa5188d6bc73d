-- The branches are the choices of the definition.
use Rattle.laws.proofs.Common.{so, not_so}
use Rattle.module_rules.specs.Registers.{spirov_after, stat_engine, enabled_engine, disabled_engine}
use Rattle.module_rules.specs.Calls.{turns_on, turns_off, stat_written}
use Rattle.module_memory.proofs.Taken.{◌then◌, alike}
use Rattle.module_register_calls.proofs.stat_written.Goals as goal

pub returns-then-s-on : goal.returns-then-s-on
unfolding stat_written turns_on enabled_engine spirov_after
returns-then-s-on c =
    alike (c.store_spirov.ensures then c.store_sck.ensures then c.store_ss.ensures then c.store_sdo.ensures then c.store_pulse.ensures)
    (so _ _ _ (rw (c.bit-on.ensures, c.settings_in-s.ensures) at c.if-s-on.true) (rw (c.spirov_in.ensures, c.bit.ensures, c.settings_in-s.ensures)))

pub returns-then-s-on-2 : goal.returns-then-s-on-2
unfolding stat_written turns_on turns_off disabled_engine spirov_after
returns-then-s-on-2 c =
    alike (c.store_spirov.ensures then c.store_free.ensures then c.store_receive.ensures then c.store_transmit.ensures)
    (not_so _ _ _ (rw (c.bit-on.ensures, c.settings_in-s.ensures) at c.if-s-on.false)
    (so _ _ _ (rw (c.bit-on.ensures, c.settings_in-s.ensures) at c.if-s-on-2.true) (rw (c.spirov_in.ensures, c.bit.ensures, c.empty_receive.ensures, c.empty_transmit.ensures))))

pub returns-else-s-on-2 : goal.returns-else-s-on-2
unfolding stat_written turns_on turns_off stat_engine spirov_after
returns-else-s-on-2 c =
    alike c.store_spirov.ensures
    (not_so _ _ _ (rw (c.bit-on.ensures, c.settings_in-s.ensures) at c.if-s-on.false) (not_so _ _ _ (rw (c.bit-on.ensures, c.settings_in-s.ensures) at c.if-s-on-2.false) (rw (c.spirov_in.ensures, c.bit.ensures))))
