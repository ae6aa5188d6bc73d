-- From a word's beginning by its own way; else the number of what is spoken.
use Rattle.laws.proofs.Common.{sym, ◌∙◌}
use Rattle.word_calls.proofs.Making.{told_so}
use Rattle.word_calls.proofs.told.Goals as goal

pub told_first-requires : goal.told_first-requires
told_first-requires c = sym c.is_at_start.ensures ∙ c.if-is_at_start.true

pub returns-then-is_at_start : goal.returns-then-is_at_start
returns-then-is_at_start c = c.told_first.ensures

pub returns : goal.returns
returns c = told_so c.word.ensures c.number.ensures
