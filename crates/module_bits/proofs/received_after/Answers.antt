-- The branch is the choice of the definition.
use Rattle.laws.proofs.Common.{refl, so, not_so}
use Rattle.module_rules.specs.Bits.{received_after}
use Rattle.module_bits.proofs.received_after.Goals as goal

pub returns-then-is_sampling : goal.returns-then-is_sampling
unfolding received_after
returns-then-is_sampling c = so _ _ _ (cc) (cc)

pub returns-else-is_sampling : goal.returns-else-is_sampling
unfolding received_after
returns-else-is_sampling c = not_so _ _ _ (cc) refl
