-- The test is that of the definition.
use Rattle.laws.proofs.Common.{so, not_so}
use Rattle.word_rules.specs.Word.{step_level}
use Rattle.word_calls.proofs.step_level.Goals as goal

pub returns-then-is_framed-is_resting : goal.returns-then-is_framed-is_resting
unfolding step_level
returns-then-is_framed-is_resting c =
    so _ _ _ (rw (c.is_framed.ensures, c.is_resting.ensures, c.settings_in-s.ensures) at c.if-is_framed-is_resting.true) (rw c.pins_in-pins.ensures)

pub returns-else-is_framed-is_resting : goal.returns-else-is_framed-is_resting
unfolding step_level
returns-else-is_framed-is_resting c =
    not_so _ _ _ (rw (c.is_framed.ensures, c.is_resting.ensures, c.settings_in-s.ensures) at c.if-is_framed-is_resting.false) (rw c.pins_in-pins.ensures)
