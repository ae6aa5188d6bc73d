-- What is in progress is what is begun; where nothing is, its numbers do not count.
use Rattle.std.specs.Prelude.{Option, Some, None, ◌≡◌}
use Rattle.std.specs.Option.{unwrap_or}
use Rattle.laws.proofs.Common.{false, refl, ap, ◌∙◌}
use Rattle.module_rules.proofs.Types.{Progress}
use Rattle.module_rules.specs.Edge.{fresh}
use Rattle.word_rules.specs.Word.{in_progress, current}
use Rattle.module_edges.specs.Beginning.{shift_of}
use Rattle.word_calls.proofs.current_in.Goals as goal

begun_or : (o : Option Progress) → unwrap_or o (fresh false 0) ≡ in_progress (shift_of o)
begun_or None = refl
begun_or (Some p) = refl

pub returns : goal.returns
unfolding current
returns c =
    c.unwrap_or.ensures ∙ ap (unwrap_or c.begun_in.result) c.fresh.ensures ∙ begun_or c.begun_in.result ∙ ap in_progress c.begun_in.ensures
