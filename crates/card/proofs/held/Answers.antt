-- The least of a count and 8.
use Rattle.laws.proofs.Common.{◌∙◌}
use Rattle.card.proofs.Rings.{count_is}
use Rattle.card.proofs.held.Goals as goal

pub returns-clause-samples : goal.returns-clause-samples
returns-clause-samples c = c.min.ensures ∙ count_is _
