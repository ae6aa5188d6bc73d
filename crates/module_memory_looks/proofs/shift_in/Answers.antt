-- Each arm is a value of the choice.
use Rattle.laws.proofs.Common.{refl, arith, so_eq, not_so_eq}
use Rattle.module_memory.specs.Memory.{engine_in}
use Rattle.module_memory_looks.proofs.shift_in.Goals as goal

pub returns-in-0 : goal.returns-in-0
unfolding engine_in
returns-in-0 c = so_eq _ _ _ _ c.in-0.is refl

pub returns-in-1 : goal.returns-in-1
unfolding engine_in
returns-in-1 c = not_so_eq _ _ _ _ (λ e. omega arith) (so_eq _ _ _ _ c.in-1.is refl)

pub returns-in_default : goal.returns-in_default
unfolding engine_in
returns-in_default c = not_so_eq _ _ _ _ (λ e. omega arith) (not_so_eq _ _ _ _ (λ e. omega arith) (rw c.progress_in.ensures))
