-- The tests come in the order of the definition, and each answer is that of its branch. Assumes nothing.
use Rattle.laws.proofs.Common.{refl, so, not_so}
use Rattle.clock_rules.specs.Clock.{clock_of}
use Rattle.clock_report.proofs.clock_of.Goals as goal

pub returns-then-not-s : goal.returns-then-not-s
unfolding clock_of
returns-then-not-s c = so _ _ _ (cc) refl

pub returns-then-own_clock : goal.returns-then-own_clock
unfolding clock_of
returns-then-own_clock c = not_so _ _ _ (cc) (so _ _ _ (cc) (cc))

pub returns-else-own_clock : goal.returns-else-own_clock
unfolding clock_of
returns-else-own_clock c = not_so _ _ _ (cc) (not_so _ _ _ (cc) refl)
