-- A linked run is refused exactly by the rows of its table, with the first that applies in the order of the tests.
--     link_refused_exactly   the number of the first row that applies
-- Assumes nothing.
use Rattle.std.specs.Prelude.{◌||◌, ◌≡◌}
use Rattle.laws.proofs.Common.{ℕ, Bool, true, false, not, Bool·beq, refl, ap, ◌∙◌, eqb, ltb, when◌then◌else◌, if_ap}
use Rattle.module_types.specs.declared.Module.{Module}
use Rattle.module_rules.specs.Refusals.{number_of}
use Rattle.module_rules.specs.RefusalTable.{first_number}
use Rattle.link_rules.specs.declared.Linked.{Linked}
use Rattle.link_rules.specs.Link.{either_disabled, wrong_roles, different_modes, refuse_link, told_of, linked_of, link_said_of}
use Rattle.link_rules.specs.LinkDemands.{link_rows}

-- The refusal number that a run tells.
tells : Linked → ℕ
tells l = (link_said_of l.answer).number

-- Two widths are equal exactly if the two bits MODE16 are.
widths_alike : (a b : Bool) → eqb (when a then 16 else 8) (when b then 16 else 8) ≡ Bool·beq a b
unfolding when◌then◌else◌
widths_alike true true = refl
widths_alike true false = refl
widths_alike false true = refl
widths_alike false false = refl

-- The first row that applies, in the order of the tests.
pub link_refused_exactly : (host client : Module) (limit : ℕ) →
    (link_said_of (linked_of host client limit).answer).number ≡ first_number (link_rows host client limit)
unfolding linked_of refuse_link told_of tells link_said_of number_of
link_refused_exactly host client limit =
    let h = host.settings in
    let c = client.settings in
    if_ap tells (ltb 544 limit) _ _
    ∙ ap (λ (k : ℕ). when ltb 544 limit then 11 else k)
    (if_ap tells (either_disabled h c) _ _
    ∙ ap (λ (k : ℕ). when either_disabled h c then 2 else k)
    (if_ap tells (wrong_roles h c) _ _
    ∙ ap (λ (k : ℕ). when wrong_roles h c then 7 else k)
    (if_ap tells (different_modes h c) _ _
    ∙ ap
    (λ (b : Bool).
    when not (Bool·beq h.con1.ckp c.con1.ckp) || (not (Bool·beq h.con1.cke c.con1.cke) || not b) then 10 else 0)
    (widths_alike h.con1.mode16 c.con1.mode16))))
