-- A module that is tested to be an enabled, unframed host with its own clock makes its edge.
use Rattle.laws.proofs.Common.{false, refl, and_left, clash}
use Rattle.module_midword.proofs.Short.{untold, own_shortly}
use Rattle.module_midword.proofs.own_within.Goals as goal

pub returns-then-not-s-is_framed : goal.returns-then-not-s-is_framed
returns-then-not-s-is_framed c = record { shortly = untold; w_value = λ e. clash false e refl }

pub returns : goal.returns
returns c =
    let own = rw (c.own_clock.ensures, c.settings_in-s.ensures) at c.if-not-own_clock.false in
    let on = and_left _ _ (rw c.settings_in-s.ensures at c.if-not-s-is_framed.false) in
    record { shortly = own_shortly on _ _ _ own c.turn_within.ensures; w_value = λ _. own }
