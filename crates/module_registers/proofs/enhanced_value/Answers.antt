-- Each branch is a value of the choice.
use Rattle.laws.proofs.Common.{arith, refl, so, not_so}
use Rattle.module_rules.specs.Registers.{weighed, shows_enhanced}
use Rattle.module_registers.specs.Shown.{enhanced_shown}
use Rattle.module_registers.proofs.enhanced_value.Goals as goal

pub returns-then-s : goal.returns-then-s
unfolding weighed enhanced_shown
returns-then-s c = record { value = so (shows_enhanced c.args.s) _ _ c.if-s.true (cc); bound = omega (arith, c.spibec_value.ensures.bound, c.weigh.ensures.bound, c.weigh-then-s.ensures.bound) }

pub returns-else-s : goal.returns-else-s
unfolding enhanced_shown
returns-else-s c = record { value = not_so (shows_enhanced c.args.s) _ _ c.if-s.false refl; bound = omega arith }
