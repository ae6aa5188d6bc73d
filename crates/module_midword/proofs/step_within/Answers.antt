-- An enabled module makes the edge of its kind.
use Rattle.laws.proofs.Common.{not-false}
use Rattle.module_midword.proofs.Short.{untold, own_shortly, pin_shortly}
use Rattle.module_midword.proofs.step_within.Goals as goal

pub returns-then-not-s : goal.returns-then-not-s
returns-then-not-s c = untold

pub returns-then-own_clock : goal.returns-then-own_clock
returns-then-own_clock c =
    own_shortly (not-false _ (rw c.settings_in-s.ensures at c.if-not-s.false)) _ _ _ (rw (c.own_clock.ensures, c.settings_in-s.ensures) at c.if-own_clock.true) c.turn_within.ensures

pub returns-else-own_clock : goal.returns-else-own_clock
returns-else-own_clock c =
    pin_shortly (not-false _ (rw c.settings_in-s.ensures at c.if-not-s.false)) _ _ _ (rw (c.own_clock.ensures, c.settings_in-s.ensures) at c.if-own_clock.false) c.see_within.ensures
