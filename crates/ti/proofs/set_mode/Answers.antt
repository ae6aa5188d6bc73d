-- The tests stand in the order of the definition.
use Rattle.laws.proofs.Common.{refl, ap, ◌∙◌, so, not_so}
use Rattle.ti_rules.specs.Settings.{rested_at}
use Rattle.ti_rules.specs.Calls.{set_mode}
use Rattle.ti.specs.Memory.{engine_step}
use Rattle.ti.proofs.Calls.{refused}
use Rattle.ti.proofs.Outcomes.{in_reset, out_of_reset, other_mode, mode_in_reset, mode_out}
use Rattle.ti.proofs.set_mode.Goals as goal

pub returns-then-w-eq0 : goal.returns-then-w-eq0
returns-then-w-eq0 c =
    mode_in_reset _ _ _ _ _ _ (in_reset _ (search))
    (c.rest.ensures.steps ∙ ap (engine_step (λ s _. rested_at s.polarity)) c.store_mode.ensures.holds)

pub returns-then-ne : goal.returns-then-ne
unfolding set_mode
returns-then-ne c =
    refused
    (not_so _ _ _ (out_of_reset _ (search)) (so _ _ _ (other_mode _ _ _ _ _ c.present_mode-present.ensures c.ne.ensures c.if-ne.true) refl))

pub returns : goal.returns
returns c =
    mode_out _ _ _ _ _ _ (out_of_reset _ (search)) (other_mode _ _ _ _ _ c.present_mode-present.ensures c.ne.ensures c.if-ne.false)
    c.store_mode-2.ensures.holds
