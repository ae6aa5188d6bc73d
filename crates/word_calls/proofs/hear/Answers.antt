-- By the clock.
use Rattle.laws.proofs.Common.{Bool, refl, ap, so, not_so}
use Rattle.module_rules.specs.Changes.{with_ss}
use Rattle.module_memory.specs.Memory.{engine_in}
use Rattle.module_memory.proofs.Taken.{alike, stays}
use Rattle.word_rules.proofs.Closed.{remembered}
use Rattle.word_calls.proofs.hear.Goals as goal

pub returns-then-own_clock : goal.returns-then-own_clock
unfolding remembered
returns-then-own_clock c =
    stays (ap (λ (b : Bool). with_ss b (engine_in c.args.w.now)) (so _ _ _ (rw (c.own_clock.ensures, c.settings_in-s.ensures) at c.if-own_clock.true) refl))

pub returns : goal.returns
unfolding remembered
returns c =
    alike c.store_ss.ensures
    (ap (λ (b : Bool). with_ss b (engine_in c.args.w.now)) (not_so _ _ _ (rw (c.own_clock.ensures, c.settings_in-s.ensures) at c.if-own_clock.false) refl))
