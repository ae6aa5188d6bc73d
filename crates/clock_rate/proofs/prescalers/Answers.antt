-- What is found is the best of the settings seen so far. Assumes nothing.
use borrow.Author.Rules.{rules}
use Rattle.laws.proofs.Common.{refl}
use Rattle.clock_rate_rules.specs.Rate.{best_of}
use Rattle.clock_rate_rules.proofs.RateHolds.{best_next, best_all}
use Rattle.clock_rate.proofs.prescalers.Goals as goal

pub loop-k-init : goal.loop-k-init
unfolding best_of
loop-k-init c = (refl, search rules)

pub loop-k-preserved : goal.loop-k-preserved
loop-k-preserved c =
    (best_next _ _ _ _ _ c.loop-k.invariant.0 c.better-found.ensures, search rules)

pub returns : goal.returns
returns c = best_all _ _ _ _ _ c.loop-k.invariant.1 (search rules) c.loop-k.invariant.0 c.in_con1.ensures
