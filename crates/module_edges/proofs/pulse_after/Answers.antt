-- The branches are the choices of the definition.
use Rattle.laws.proofs.Common.{so, not_so}
use Rattle.module_rules.specs.Edge.{pulse_after}
use Rattle.module_edges.proofs.pulse_after.Goals as goal

pub returns-then-s : goal.returns-then-s
unfolding pulse_after
returns-then-s c =
    so _ _ _ (rw c.settings_in-s.ensures at c.if-sck-s.true) (so _ _ _ (rw c.settings_in-s.ensures at c.if-s.true) (rw (c.pins_in-pins.ensures, c.settings_in-s.ensures, c.is_begun.ensures)))

pub returns-then-sck-s : goal.returns-then-sck-s
unfolding pulse_after
returns-then-sck-s c =
    so _ _ _ (rw c.settings_in-s.ensures at c.if-sck-s.true) (not_so _ _ _ (rw c.settings_in-s.ensures at c.if-s.false) (rw c.pins_in-pins.ensures))

pub returns : goal.returns
unfolding pulse_after
returns c =
    not_so _ _ _ (rw c.settings_in-s.ensures at c.if-sck-s.false) (rw (c.pulse_due.ensures, c.waiting_in-count.ensures, c.shift_in-shift.ensures, c.settings_in-s.ensures))
