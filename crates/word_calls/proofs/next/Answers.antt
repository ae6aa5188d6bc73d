-- Test by test, of what is looked up.
use Rattle.laws.proofs.Common.{refl, so, not_so}
use Rattle.word_calls.proofs.Making.{next_is}
use Rattle.word_calls.proofs.next.Goals as goal

pub returns-then-not-s : goal.returns-then-not-s
returns-then-not-s c = next_is _ (so _ _ _ (rw c.settings_in-s.ensures at c.if-not-s.true) refl)

pub returns-then-is_silent-is_free : goal.returns-then-is_silent-is_free
returns-then-is_silent-is_free c =
    next_is _ (not_so _ _ _ (rw c.settings_in-s.ensures at c.if-not-s.false)
    (so _ _ _ (rw (c.is_silent.ensures, c.is_free.ensures, c.settings_in-s.ensures) at c.if-is_silent-is_free.true) refl))

pub returns-then-p : goal.returns-then-p
returns-then-p c =
    next_is _
    (not_so _ _ _ (rw c.settings_in-s.ensures at c.if-not-s.false)
    (not_so _ _ _ (rw (c.is_silent.ensures, c.is_free.ensures, c.settings_in-s.ensures) at c.if-is_silent-is_free.false)
    (so _ _ _ (rw c.current_in-p.ensures at c.if-p.true) refl)))

pub returns : goal.returns
returns c =
    next_is _
    (not_so _ _ _ (rw c.settings_in-s.ensures at c.if-not-s.false)
    (not_so _ _ _ (rw (c.is_silent.ensures, c.is_free.ensures, c.settings_in-s.ensures) at c.if-is_silent-is_free.false)
    (not_so _ _ _ (rw c.current_in-p.ensures at c.if-p.false) (rw c.current_in-p.ensures))))
