-- Out of reset nothing changes; else the module rests.
use Rattle.laws.proofs.Common.{refl, ap, ◌∙◌, so, not_so, false}
use Rattle.ti_rules.specs.Calls.{leave_of}
use Rattle.ti_rules.specs.declared.Ti.{Ti}
use Rattle.ti.specs.Memory.{with_reset}
use Rattle.ti.proofs.Parts.{reset_stored}
use Rattle.ti.proofs.Outcomes.{in_reset, out_of_reset}
use Rattle.ti.proofs.leave.Goals as goal

pub returns-then-w-eq0 : goal.returns-then-w-eq0
unfolding leave_of
returns-then-w-eq0 c =
    reset_stored _ (search) 1
    (ap (λ (m : Ti). with_reset false m) c.rest.ensures.steps ∙ so _ _ _ (in_reset _ (search)) refl)

pub returns-else-w-eq0 : goal.returns-else-w-eq0
unfolding leave_of
returns-else-w-eq0 c = record { holds = not_so _ _ _ (out_of_reset _ (search)) refl }
