-- Both ends of the total.
use Rattle.laws.proofs.Common.{arith}
use Rattle.board_calls.proofs.Owing.{at_most}
use Rattle.board_calls.proofs.moved.Goals as goal

pub returns : goal.returns
returns c = let m = c.min.ensures in let s = c.saturating_sub.ensures in (at_most _ (λ h. omega (arith, m, s)) (λ h. omega (arith, m, s)), omega (arith, m))
