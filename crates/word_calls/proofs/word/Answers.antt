-- By whether it has a word.
use Rattle.laws.proofs.Common.{sym, ◌∙◌}
use Rattle.word_rules.proofs.WordHolds.{single_step}
use Rattle.word_calls.proofs.Making.{speaks_as}
use Rattle.word_calls.proofs.word.Goals as goal

pub make_word-requires : goal.make_word-requires
make_word-requires c = sym c.has_word.ensures ∙ c.if-has_word.true

pub returns-then-has_word : goal.returns-then-has_word
returns-then-has_word c = c.make_word.ensures

pub returns : goal.returns
returns c =
    speaks_as (sym (single_step _ _ _ (sym c.has_word.ensures ∙ c.if-has_word.false))) c.make_step.ensures
