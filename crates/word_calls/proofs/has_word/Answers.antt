-- Test by test, of what is looked up.
use Rattle.laws.proofs.Common.{refl, sym, ◌∙◌, so, not_so}
use Rattle.word_calls.proofs.Making.{has_word_is}
use Rattle.word_calls.proofs.has_word.Goals as goal

pub returns-then-not-s : goal.returns-then-not-s
returns-then-not-s c = has_word_is _ _ (so _ _ _ (rw c.settings_in-s.ensures at c.if-not-s.true) refl)

pub returns-then-is_framed : goal.returns-then-is_framed
returns-then-is_framed c =
    has_word_is _ _ (not_so _ _ _ (rw c.settings_in-s.ensures at c.if-not-s.false)
    (so _ _ _ (rw (c.is_framed.ensures, c.settings_in-s.ensures) at c.if-is_framed.true) refl))

pub returns-then-is_resting : goal.returns-then-is_resting
returns-then-is_resting c =
    has_word_is _ _
    (not_so _ _ _ (rw c.settings_in-s.ensures at c.if-not-s.false)
    (not_so _ _ _ (rw (c.is_framed.ensures, c.settings_in-s.ensures) at c.if-is_framed.false)
    (so _ _ _ (sym c.is_resting.ensures ∙ c.if-is_resting.true) refl)))

pub returns : goal.returns
returns c =
    has_word_is _ _
    (not_so _ _ _ (rw c.settings_in-s.ensures at c.if-not-s.false)
    (not_so _ _ _ (rw (c.is_framed.ensures, c.settings_in-s.ensures) at c.if-is_framed.false)
    (not_so _ _ _ (sym c.is_resting.ensures ∙ c.if-is_resting.false)
    (rw (c.current_in-p.ensures, c.width.ensures, c.settings_in-s.ensures)))))
