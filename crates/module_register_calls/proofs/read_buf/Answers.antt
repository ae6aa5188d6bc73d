-- The refusals are tested in the order of the definition.
use Rattle.laws.proofs.Common.{refl, sym, ◌∙◌, so, not_so, so_eq, not_so_eq}
use Rattle.module_rules.specs.Calls.{refuse, read_buf}
use Rattle.module_answers.proofs.Answers.{kept, changed, answered}
use Rattle.module_register_calls.proofs.read_buf.Goals as goal

pub returns-then-not-s : goal.returns-then-not-s
unfolding read_buf refuse
returns-then-not-s c = kept (so _ _ _ (rw c.settings_in-s.ensures at c.if-not-s.true) refl)

pub returns-then-marked : goal.returns-then-marked
unfolding read_buf refuse
returns-then-marked c =
    kept (not_so _ _ _ (rw c.settings_in-s.ensures at c.if-not-s.false) (so _ _ _ (rw c.marked_in-marked.ensures at c.if-marked.true) refl))

pub returns-then-count-eq0 : goal.returns-then-count-eq0
unfolding read_buf refuse
returns-then-count-eq0 c =
    kept
    (not_so _ _ _ (rw c.settings_in-s.ensures at c.if-not-s.false)
    (not_so _ _ _ (rw c.marked_in-marked.ensures at c.if-marked.false) (so_eq _ _ _ _ (sym c.unread_in-count.ensures ∙ c.if-count-eq0.true) refl)))

pub returns : goal.returns
unfolding read_buf
returns c =
    changed refl
    (not_so _ _ _ (rw c.settings_in-s.ensures at c.if-not-s.false)
    (not_so _ _ _ (rw c.marked_in-marked.ensures at c.if-marked.false)
    (not_so_eq _ _ _ _ (λ e. c.if-count-eq0.false (c.unread_in-count.ensures ∙ e))
    (rw (c.low_bits-word.ensures, c.first_unread_in.ensures, c.settings_in-s.ensures) (answered _ c.take_word.ensures refl)))))
