-- Each test that is passed is a part of the promise.
use Rattle.std.specs.Prelude.{◌+◌}
use Rattle.laws.proofs.Common.{arith, ltb-true, sym, ◌∙◌, ap, clash}
use Rattle.module_types.specs.declared.Progress.{Progress}
use Rattle.module_rules.specs.Settings.{width_of}
use Rattle.module_rules.specs.Edge.{word_edges}
use Rattle.module_midword.proofs.is_midword.Goals as goal

pub returns-else-is_begun : goal.returns-else-is_begun
returns-else-is_begun c = λ e. clash _ e c.if-is_begun.false

pub returns-then-is_begun : goal.returns-then-is_begun
returns-then-is_begun c =
    λ e.
    let edges = ap (λ (x : Progress). x.edges) c.progress_in-p.ensures in
    let width = ap width_of c.settings_in-s.ensures in
    let below = ltb-true (c.progress_in-p.result.edges + 1) (word_edges c.settings_in-s.result) (sym c.goes_on.ensures ∙ e) in
    record { begun = sym c.is_begun.ensures ∙ c.if-is_begun.true; short = omega arith }
