-- A tick is the clock step of a host with its own clock.
use Rattle.module_midword.proofs.Short.{tick_shortly}
use Rattle.module_midword.proofs.tick_within.Goals as goal

pub returns : goal.returns
returns c = tick_shortly _ _ c.own_within.ensures.w_value c.own_within.ensures.shortly
