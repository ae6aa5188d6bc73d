-- `trace_right::in_fours` meets its contract: the closure tests one section. Assumes nothing.
use Rattle.std.specs.Prelude.{◌%◌}
use Rattle.std.proofs.Common.{rules}
use Rattle.std.proofs.lemmas.Iterator.{YieldsList-from_range}
use Rattle.std.proofs.lemmas.Iterator.Search.{all_from_yields_List}
use borrow.Author.Tests.{tests}
use Rattle.laws.proofs.Common.{refl, ◌∙◌, arith, eqb}
use Rattle.trace_rules.specs.Trace.{size_of}
use Rattle.trace_right.proofs.Contents.{all_in_range}
use Rattle.trace_right.proofs.in_fours.Goals as goal

pub returns : goal.returns
returns c =
    all_from_yields_List (λ k. eqb (size_of c.args.f.now k % 4) 0) _ _ _ c.all.ensures.ran
    (YieldsList-from_range 0 c.args.n c.args.n refl (omega arith)) (λ x b q k. search (rules, tests))
    ∙ all_in_range (λ k. eqb (size_of c.args.f.now k % 4) 0) c.args.n
