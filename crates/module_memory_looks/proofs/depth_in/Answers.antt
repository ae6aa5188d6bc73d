-- Each arm is a value of the choice.
use Rattle.laws.proofs.Common.{refl, arith, so_eq, not_so_eq}
use Rattle.module_memory.specs.Memory.{depth_in, settings_in}
use Rattle.module_memory_looks.proofs.depth_in.Goals as goal

pub returns-in-4 : goal.returns-in-4
unfolding depth_in settings_in
returns-in-4 c = so_eq _ _ _ _ c.in-4.is refl

pub returns-in-16 : goal.returns-in-16
unfolding depth_in settings_in
returns-in-16 c = not_so_eq _ _ _ _ (λ e. omega arith) (so_eq _ _ _ _ c.in-16.is refl)

pub returns-in_default : goal.returns-in_default
unfolding depth_in settings_in
returns-in_default c = not_so_eq _ _ _ _ (λ e. omega arith) (not_so_eq _ _ _ _ (λ e. omega arith) refl)
