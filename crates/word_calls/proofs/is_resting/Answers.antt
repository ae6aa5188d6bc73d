-- The tests are the definition.
use Rattle.word_rules.specs.Word.{resting}
use Rattle.word_calls.proofs.is_resting.Goals as goal

pub returns : goal.returns
unfolding resting
returns c =
    rw (c.is_deselected.ensures, c.is_silent.ensures, c.is_free.ensures, c.settings_in-s.ensures)
