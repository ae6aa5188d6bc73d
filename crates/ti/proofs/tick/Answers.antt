-- The tests stand in the order of the definition.
use Rattle.std.proofs.lemmas.Result.{err_from_is_err_and}
use Rattle.laws.proofs.Common.{refl, ap, ◌∙◌, not, so, not_so}
use Rattle.ti_rules.specs.declared.Ti.{Ti}
use Rattle.ti_rules.specs.Characters.{is_free}
use Rattle.ti_rules.specs.Edge.{seen}
use Rattle.ti_rules.specs.Calls.{tick_of}
use Rattle.ti.proofs.Calls.{kept, told, refused, ◌then◌}
use Rattle.ti.proofs.Parts.{is_free_lem, is_busy}
use Rattle.ti.proofs.Outcomes.{is_master, is_slave, tick_edge}
use Rattle.ti.proofs.tick.Goals as goal

pub returns-in_err-out_of_reset : goal.returns-in_err-out_of_reset
unfolding tick_of
returns-in_err-out_of_reset c =
    let p = err_from_is_err_and c.from_residual.result c.from_residual.ensures.1 in
    let e = c.in_err-out_of_reset.ensures in
    rw (p.1, p.2, e.1) (refused (so _ _ _ e.0 refl))

pub returns-then-w-eq0 : goal.returns-then-w-eq0
unfolding tick_of
returns-then-w-eq0 c = refused (not_so _ _ _ c.in_ok-out_of_reset.ensures (so _ _ _ (ap not (is_slave _ (search))) refl))

pub returns-then-w-eq0-2 : goal.returns-then-w-eq0-2
unfolding tick_of
returns-then-w-eq0-2 c =
    told (kept refl refl)
    (not_so _ _ _ c.in_ok-out_of_reset.ensures (not_so _ _ _ (ap not (is_master _ (search))) (so _ _ _ (is_free_lem _ (search)) refl)))

pub edge-requires : goal.edge-requires
unfolding seen
edge-requires c = ap (λ (m : Ti). is_free m.engine.shift) c.turn.ensures.steps ∙ is_busy _ (search)

pub returns : goal.returns
returns c =
    tick_edge _ _ _ c.in_ok-out_of_reset.ensures (is_master _ (search)) (is_busy _ (search))
    (c.turn.ensures then c.edge.ensures)
