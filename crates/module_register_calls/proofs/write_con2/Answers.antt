-- The branch is the choice of the definition.
use Rattle.laws.proofs.Common.{refl, so, not_so}
use Rattle.module_rules.specs.Calls.{refuse, configured}
use Rattle.module_answers.proofs.Answers.{kept, changed, set}
use Rattle.module_register_calls.proofs.write_con2.Goals as goal

pub returns-then-s : goal.returns-then-s
unfolding configured refuse
returns-then-s c = kept (so _ _ _ (rw c.settings_in-s.ensures at c.if-s.true) refl)

pub returns : goal.returns
unfolding configured
returns c = changed refl (not_so _ _ _ (rw c.settings_in-s.ensures at c.if-s.false) (set _ c.store_con2.ensures refl))
