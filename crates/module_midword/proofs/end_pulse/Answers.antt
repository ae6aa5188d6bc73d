-- The branch is the choice of the definition.
use Rattle.laws.proofs.Common.{Bool, not-true, not-false, refl, ap, so, not_so}
use Rattle.module_rules.specs.Changes.{with_pulse}
use Rattle.module_memory.specs.Memory.{engine_in}
use Rattle.module_memory.proofs.Taken.{alike, stays}
use Rattle.module_midword.proofs.end_pulse.Goals as goal

pub returns-else-sck-s : goal.returns-else-sck-s
returns-else-sck-s c =
    stays (ap (λ (b : Bool). with_pulse b (engine_in c.args.w.now)) (so _ _ _ (not-false _ (rw c.settings_in-s.ensures at c.if-sck-s.false)) refl))

pub returns-then-sck-s : goal.returns-then-sck-s
returns-then-sck-s c =
    alike c.store_pulse.ensures (ap (λ (b : Bool). with_pulse b (engine_in c.args.w.now)) (not_so _ _ _ (not-true _ (rw c.settings_in-s.ensures at c.if-sck-s.true)) refl))
