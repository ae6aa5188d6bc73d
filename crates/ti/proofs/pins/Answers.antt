-- The tests stand in the order of the definition.
use Rattle.std.proofs.lemmas.Result.{err_from_is_err_and}
use Rattle.laws.proofs.Common.{refl, so, not_so}
use Rattle.ti_rules.specs.Calls.{pins_of}
use Rattle.ti.proofs.Calls.{refused, ◌then◌}
use Rattle.ti.proofs.Outcomes.{is_master, is_slave, pins_seen, pins_edge}
use Rattle.ti.proofs.pins.Goals as goal

pub returns-in_err-out_of_reset : goal.returns-in_err-out_of_reset
unfolding pins_of
returns-in_err-out_of_reset c =
    let p = err_from_is_err_and c.from_residual.result c.from_residual.ensures.1 in
    let e = c.in_err-out_of_reset.ensures in
    rw (p.1, p.2, e.1) (refused (so _ _ _ e.0 refl))

pub returns-then-w-ne0 : goal.returns-then-w-ne0
unfolding pins_of
returns-then-w-ne0 c = refused (not_so _ _ _ c.in_ok-out_of_reset.ensures (so _ _ _ (is_master _ (search)) refl))

pub returns-then-counts : goal.returns-then-counts
returns-then-counts c =
    pins_edge _ _ _ _ _ c.in_ok-out_of_reset.ensures (is_slave _ (search)) c.leads_on.ensures c.if-counts.true
    (c.see.ensures then c.slave_edge.ensures)

pub returns-else-counts : goal.returns-else-counts
returns-else-counts c =
    pins_seen _ _ _ _ _ c.in_ok-out_of_reset.ensures (is_slave _ (search)) c.leads_on.ensures c.if-counts.false c.see.ensures
