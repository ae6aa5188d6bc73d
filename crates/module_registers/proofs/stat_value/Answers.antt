-- The sum is that of the definition; the bounds of its parts keep it within 16 bits.
use Rattle.module_rules.specs.Registers.{weighed}
use Rattle.module_registers.proofs.Sums.{stat_sum}
use Rattle.module_registers.proofs.stat_value.Goals as goal

pub returns : goal.returns
unfolding weighed
returns c =
    λ m shows. stat_sum _ _ _ _ shows c.weigh.ensures.value c.weigh-2.ensures.value c.enhanced_value.ensures.value c.weigh-3.ensures.value (rw c.depth-depth.ensures at c.weigh-4.ensures.value) (rw c.depth-depth.ensures at c.weigh-5.ensures.value)
