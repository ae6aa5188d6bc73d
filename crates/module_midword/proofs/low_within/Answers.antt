-- With SS low a module that is tested to be enabled, unframed and clocked from its pin makes its edge.
use Rattle.laws.proofs.Common.{ap, not}
use Rattle.module_memory.specs.Memory.{settings_in}
use Rattle.module_answers.proofs.Turns.{plain_on}
use Rattle.module_midword.proofs.Short.{untold, pin_shortly, pins_shortly}
use Rattle.module_midword.proofs.low_within.Goals as goal

pub returns-then-ss : goal.returns-then-ss
returns-then-ss c = untold

pub returns-then-not-s-is_framed : goal.returns-then-not-s-is_framed
returns-then-not-s-is_framed c = untold

pub returns : goal.returns
returns c =
    let pin = rw (c.own_clock.ensures, c.settings_in-s.ensures) at c.if-own_clock.false in
    let on = (plain_on (settings_in c.args.w.now) (ap not (rw (c.is_framed.ensures, c.settings_in-s.ensures) at c.if-not-s-is_framed.false))).0 in
    pins_shortly _ _ _ pin (pin_shortly on _ _ _ pin c.see_within.ensures)
