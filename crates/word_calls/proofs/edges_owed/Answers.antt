-- None of any other module than an unframed host with its own clock; of that those of its words, less those given.
use Rattle.laws.proofs.Common.{refl, ◌∙◌, not_so}
use Rattle.word_rules.specs.Word.{edges_owed}
use Rattle.word_calls.proofs.Making.{owes_some}
use Rattle.word_calls.proofs.edges_owed.Goals as goal

pub returns-then-not-s-own_clock : goal.returns-then-not-s-own_clock
unfolding edges_owed
returns-then-not-s-own_clock c = not_so _ _ _ (rw (c.own_clock.ensures, c.is_framed.ensures, c.settings_in-s.ensures) at c.if-not-s-own_clock.true) refl

pub returns : goal.returns
returns c =
    c.saturating_sub.ensures
    ∙ owes_some _ (rw (c.own_clock.ensures, c.is_framed.ensures, c.settings_in-s.ensures) at c.if-not-s-own_clock.false)
    (rw c.settings_in-s.ensures at c.width.ensures)
    (rw (c.words_in.ensures.0, c.shift_in-shift.ensures, c.waiting_in.ensures))
    (rw c.shift_in-shift.ensures at c.edges_in.ensures.0)
