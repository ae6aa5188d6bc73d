-- The tests are the definition.
use Rattle.word_rules.specs.Word.{idle_first}
use Rattle.word_calls.proofs.idle_first.Goals as goal

pub returns : goal.returns
unfolding idle_first
returns c =
    rw (c.is_begun.ensures, c.pins_in-pins.ensures, c.settings_in-s.ensures)
