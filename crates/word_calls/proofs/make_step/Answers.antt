-- The step of the definition.
use Rattle.word_calls.proofs.Making.{stepped_so}
use Rattle.word_calls.proofs.make_step.Goals as goal

pub returns : goal.returns
returns c =
    stepped_so _ _ (rw (c.step_level-sck.ensures, c.bit.ensures) at c.clock_step-answer.ensures)
    (rw (c.is_framed.ensures, c.settings_in-s.ensures)) (rw (c.is_framed.ensures, c.settings_in-s.ensures, c.pins_in-pins.ensures))
