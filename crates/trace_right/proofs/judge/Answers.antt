-- `trace_right::judge` meets its contract: records are looked at only where the contents are right. Assumes nothing.
use Rattle.laws.proofs.Common.{not, refl, ap, sym, ◌∙◌, so, not_so}
use Rattle.trace_right.specs.Judged.{judged_of}
use Rattle.trace_right.proofs.judge.Goals as goal

pub returns-then-not-contents_right : goal.returns-then-not-contents_right
unfolding judged_of
returns-then-not-contents_right c = so _ _ _ (ap not (sym c.contents_right.ensures ∙ c.if-not-contents_right.true)) refl

pub returns-then-not-records_right : goal.returns-then-not-records_right
unfolding judged_of
returns-then-not-records_right c =
    not_so _ _ _ (ap not (sym c.contents_right.ensures ∙ c.if-not-contents_right.false))
    (so _ _ _ (ap not (sym c.records_right.ensures ∙ c.if-not-records_right.true)) refl)
