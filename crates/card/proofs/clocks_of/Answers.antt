-- Each arm is a value of the choice.
use Rattle.laws.proofs.Common.{arith, refl, so_eq, not_so_eq}
use Rattle.card.specs.Memory.{frame_in}
use Rattle.card.proofs.clocks_of.Goals as goal

pub returns-in-0-clause-clocks : goal.returns-in-0-clause-clocks
unfolding frame_in
returns-in-0-clause-clocks c = so_eq _ _ _ _ c.in-0.is refl

pub returns-in_default-clause-clocks : goal.returns-in_default-clause-clocks
unfolding frame_in
returns-in_default-clause-clocks c = not_so_eq _ _ _ _ (λ e. omega arith) refl
