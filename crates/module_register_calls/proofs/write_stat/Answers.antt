-- The branch is the choice of the definition.
use Rattle.laws.proofs.Common.{refl, so, not_so}
use Rattle.module_rules.specs.Calls.{turns_on, refuse, write_stat}
use Rattle.module_answers.proofs.Answers.{kept, changed, then-set}
use Rattle.module_register_calls.proofs.write_stat.Goals as goal

pub returns-then-s-on : goal.returns-then-s-on
unfolding write_stat turns_on refuse
returns-then-s-on c =
    let cause = rw c.settings_in-s.ensures at c.first_cause.ensures in
    kept (so _ _ _ (rw (c.bit-on.ensures, c.are_bad.ensures, c.settings_in-s.ensures) at c.if-s-on.true) cc)

pub returns : goal.returns
unfolding write_stat turns_on
returns c =
    changed refl
    (not_so _ _ _ (rw (c.bit-on.ensures, c.are_bad.ensures, c.settings_in-s.ensures) at c.if-s-on.false)
    (then-set _ c.stat_written.ensures c.store_stat.ensures refl refl))
