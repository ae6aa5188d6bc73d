-- The tests stand in the order of the definition.
use Rattle.std.proofs.lemmas.Result.{err_from_is_err_and}
use Rattle.laws.proofs.Common.{refl, so, not_so}
use Rattle.ti_rules.specs.Calls.{write_of}
use Rattle.ti.proofs.Calls.{refused}
use Rattle.ti.proofs.Parts.{is_waiting, has_room_lem, wait_stored}
use Rattle.ti.proofs.Outcomes.{cut, write_loads, write_waits}
use Rattle.ti.proofs.write.Goals as goal

pub returns-in_err-out_of_reset : goal.returns-in_err-out_of_reset
unfolding write_of
returns-in_err-out_of_reset c =
    let p = err_from_is_err_and c.from_residual.result c.from_residual.ensures.1 in
    let e = c.in_err-out_of_reset.ensures in
    rw (p.1, p.2, e.1) (refused (so _ _ _ e.0 refl))

pub returns-then-w-ne0 : goal.returns-then-w-ne0
unfolding write_of
returns-then-w-ne0 c = refused (not_so _ _ _ c.in_ok-out_of_reset.ensures (so _ _ _ (is_waiting _ (search)) refl))

pub returns-then-w-eq0 : goal.returns-then-w-eq0
returns-then-w-eq0 c =
    write_loads _ _ _ _ c.in_ok-out_of_reset.ensures (has_room_lem _ (search)) (cut _ _ _ (search)) (search) c.load.ensures

pub returns-else-w-eq0 : goal.returns-else-w-eq0
returns-else-w-eq0 c =
    write_waits _ _ _ _ c.in_ok-out_of_reset.ensures (has_room_lem _ (search)) (cut _ _ _ (search)) (search) (wait_stored _ (search) _)
