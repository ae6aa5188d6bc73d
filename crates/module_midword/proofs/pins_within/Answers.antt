-- A module that sees its pins has no clock of its own.
use Rattle.laws.proofs.Common.{not-false}
use Rattle.module_midword.proofs.Short.{untold, pin_shortly, pins_shortly}
use Rattle.module_midword.proofs.pins_within.Goals as goal

pub returns-then-not-s : goal.returns-then-not-s
returns-then-not-s c = untold

pub returns : goal.returns
returns c =
    let pin = rw (c.own_clock.ensures, c.settings_in-s.ensures) at c.if-own_clock.false in
    let on = not-false _ (rw c.settings_in-s.ensures at c.if-not-s.false) in
    pins_shortly _ _ _ pin (pin_shortly on _ _ _ pin c.see_within.ensures)
