-- `trace_right::contents_right` meets its contract, test by test. Assumes nothing.
use Rattle.laws.proofs.Common.{ap, sym, ◌∙◌, and_first, ne_eqb}
use Rattle.trace_rules.specs.Trace.{in_fours, table_right, contents_right}
use Rattle.trace_right.proofs.Contents.{ended_none, ended_is, no_end, other_end, own_end}
use Rattle.trace_right.proofs.contents_right.Goals as goal

pub returns-in_default : goal.returns-in_default
unfolding contents_right
returns-in_default c =
    sym (and_first (table_right c.args.f.now) _ (no_end c.args.f.now (ended_none _ (sym c.in_default.is ∙ c.stated_end.ensures))))

pub returns-then-end-f : goal.returns-then-end-f
returns-then-end-f c =
    let end = ended_is _ _ (sym c.in-Some.is ∙ c.stated_end.ensures) in
    c.in_fours.ensures ∙ ap (in_fours c.args.f.now) c.count.ensures ∙ own_end c.args.f.now end.1 (sym end.0 ∙ c.if-end-f.true)

pub returns-else-end-f : goal.returns-else-end-f
returns-else-end-f c =
    let end = ended_is _ _ (sym c.in-Some.is ∙ c.stated_end.ensures) in
    ne_eqb _ _ c.if-end-f.false ∙ other_end _ end.1 (λ same. c.if-end-f.false (end.0 ∙ same))
