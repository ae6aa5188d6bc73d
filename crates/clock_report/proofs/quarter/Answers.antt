-- What is left to divide, so many times as are left, comes to the whole. Assumes nothing.
use borrow.Author.Rules.{rules}
use Rattle.clock_rules.proofs.ClockExact.{quartered_start, quartered_step, quartered_all}
use Rattle.clock_report.proofs.quarter.Goals as goal

pub loop-init : goal.loop-init
loop-init c = (quartered_start _ _, search rules)

pub loop-preserved : goal.loop-preserved
loop-preserved c = (quartered_step _ _ _ _ (search rules) (search rules), search rules)

pub returns : goal.returns
returns c = quartered_all _ c.loop.counter _ _ (search rules) (search rules)
