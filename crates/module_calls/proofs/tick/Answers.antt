-- The refusals are tested in the order of the definition; then it is the clock step.
use Rattle.laws.proofs.Common.{ap, not}
use Rattle.laws.proofs.Common.{refl, so, not_so}
use Rattle.module_rules.specs.Calls.{refuse, tick_of}
use Rattle.module_answers.proofs.Answers.{kept, likewise, edge-told}
use Rattle.module_calls.proofs.tick.Goals as goal

pub returns-then-not-s : goal.returns-then-not-s
unfolding tick_of refuse
returns-then-not-s c = kept (so _ _ _ (rw c.settings_in-s.ensures at c.if-not-s.true) refl)

pub returns-then-not-own_clock : goal.returns-then-not-own_clock
unfolding tick_of refuse
returns-then-not-own_clock c =
    kept (not_so _ _ _ (rw c.settings_in-s.ensures at c.if-not-s.false) (so _ _ _ (ap not (rw (c.own_clock.ensures, c.settings_in-s.ensures) at c.if-not-own_clock.true)) refl))

pub returns : goal.returns
unfolding tick_of
returns c =
    likewise (edge-told c.clock_step.ensures c.edge_for.ensures)
    (not_so _ _ _ (rw c.settings_in-s.ensures at c.if-not-s.false) (not_so _ _ _ (ap not (rw (c.own_clock.ensures, c.settings_in-s.ensures) at c.if-not-own_clock.false)) refl))
