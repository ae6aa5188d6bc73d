-- By DISSDO, and with what is looked up.
use Rattle.laws.proofs.Common.{refl, so, not_so}
use Rattle.link_words.proofs.Begins.{first_levels}
use Rattle.link_calls.proofs.heard.Goals as goal

pub returns-then-s : goal.returns-then-s
unfolding first_levels
returns-then-s c = so _ _ _ (rw c.settings_in-s.ensures at c.if-s.true) refl

pub returns : goal.returns
unfolding first_levels
returns c =
    not_so _ _ _ (rw c.settings_in-s.ensures at c.if-s.false) (rw (c.settings_in-s.ensures, c.pins_in-pins.ensures) at c.levels_first.ensures)
