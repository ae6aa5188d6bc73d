-- The refusals are tested in the order of the definition; then it is the clock step.
use Rattle.laws.proofs.Common.{refl, so, not_so}
use Rattle.module_rules.specs.Calls.{refuse, pins_of}
use Rattle.module_answers.proofs.Answers.{kept, likewise}
use Rattle.module_calls.proofs.pins.Goals as goal

pub returns-then-not-s : goal.returns-then-not-s
unfolding pins_of refuse
returns-then-not-s c = kept (so _ _ _ (rw c.settings_in-s.ensures at c.if-not-s.true) refl)

pub returns-then-own_clock : goal.returns-then-own_clock
unfolding pins_of refuse
returns-then-own_clock c =
    kept (not_so _ _ _ (rw c.settings_in-s.ensures at c.if-not-s.false) (so _ _ _ (rw (c.own_clock.ensures, c.settings_in-s.ensures) at c.if-own_clock.true) refl))

pub returns : goal.returns
unfolding pins_of
returns c =
    likewise c.clock_step.ensures
    (not_so _ _ _ (rw c.settings_in-s.ensures at c.if-not-s.false) (not_so _ _ _ (rw (c.own_clock.ensures, c.settings_in-s.ensures) at c.if-own_clock.false) refl))
