-- In reset nothing changes; else the module rests.
use Rattle.laws.proofs.Common.{refl, ap, ◌∙◌, so, not_so, true}
use Rattle.ti_rules.specs.Calls.{enter_of}
use Rattle.ti_rules.specs.declared.Ti.{Ti}
use Rattle.ti.specs.Memory.{with_reset}
use Rattle.ti.proofs.Parts.{reset_stored}
use Rattle.ti.proofs.Outcomes.{in_reset, out_of_reset}
use Rattle.ti.proofs.enter.Goals as goal

pub returns-then-w-ne0 : goal.returns-then-w-ne0
unfolding enter_of
returns-then-w-ne0 c =
    reset_stored _ (search) 0
    (ap (λ (m : Ti). with_reset true m) c.rest.ensures.steps ∙ not_so _ _ _ (out_of_reset _ (search)) refl)

pub returns-else-w-ne0 : goal.returns-else-w-ne0
unfolding enter_of
returns-else-w-ne0 c = record { holds = so _ _ _ (in_reset _ (search)) refl }
