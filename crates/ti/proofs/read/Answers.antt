-- The tests stand in the order of the definition.
use Rattle.std.proofs.lemmas.Result.{err_from_is_err_and}
use Rattle.laws.proofs.Common.{refl, sym, ap, ◌∙◌, arith, so, not_so, get_or-set_other}
use Rattle.ti_rules.specs.Calls.{read_from, read_of}
use Rattle.ti.proofs.Calls.{refused}
use Rattle.ti.proofs.Outcomes.{unread_none, read_gives}
use Rattle.ti.proofs.read.Goals as goal

pub returns-in_err-out_of_reset : goal.returns-in_err-out_of_reset
unfolding read_of
returns-in_err-out_of_reset c =
    let p = err_from_is_err_and c.from_residual.result c.from_residual.ensures.1 in
    let e = c.in_err-out_of_reset.ensures in
    rw (p.1, p.2, e.1) (refused (so _ _ _ e.0 refl))

pub returns-then-w-eq0 : goal.returns-then-w-eq0
unfolding read_of
returns-then-w-eq0 c =
    refused (ap (read_from _) (sym (unread_none _ (search))) ∙ not_so _ _ _ c.in_ok-out_of_reset.ensures refl)

pub returns : goal.returns
returns c = read_gives _ _ (search) c.in_ok-out_of_reset.ensures (search) (get_or-set_other c.args.w.now 13 14 0 0 (λ e. omega arith))
