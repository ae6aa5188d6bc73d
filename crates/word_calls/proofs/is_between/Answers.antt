-- The definition, with what is looked up.
use Rattle.word_begins.specs.Beginning.{between}
use Rattle.word_calls.proofs.is_between.Goals as goal

pub returns : goal.returns
unfolding between
returns c =
    rw (c.settings_in-s.ensures, c.pins_in-pins.ensures, c.is_begun.ensures)
