-- The refusals are tested in the order of the definition. What is looked up at the start decides each test (disabled, roles,
-- modes), and what is left behind the last is that the settings match (agree).
use Rattle.std.specs.Prelude.{◌≡◌}
use Rattle.laws.proofs.Common.{Bool, refl, sym, ◌∙◌, ap, ap₂, so, not_so, so_lt, not_so_lt}
use Rattle.module_types.specs.declared.Settings.{Settings}
use Rattle.link_rules.specs.Link.{host_turn, refuse_link, run_of, told_of, linked_of, either_disabled, wrong_roles, different_modes}
use Rattle.link_calls.proofs.Turns.{matched, running_shown}
use Rattle.link_calls.proofs.Ends.{kept, changed}
use Rattle.link_calls.proofs.linked.Goals as goal

looked : (test : Settings → Settings → Bool) {s c host client : Settings} {r b : Bool} →
    s ≡ host → c ≡ client → r ≡ test s c → r ≡ b → test host client ≡ b
looked test eh ec is e = ap₂ test (sym eh) (sym ec) ∙ sym is ∙ e

pub returns-then-limit-gt-MOST_EDGES : goal.returns-then-limit-gt-MOST_EDGES
unfolding linked_of refuse_link
returns-then-limit-gt-MOST_EDGES c = kept (so_lt _ _ _ _ c.if-limit-gt-MOST_EDGES.true refl)

pub returns-then-either_disabled : goal.returns-then-either_disabled
unfolding linked_of refuse_link
returns-then-either_disabled c =
    let disabled = looked either_disabled c.settings_in-h.ensures c.settings_in-c.ensures c.either_disabled.ensures c.if-either_disabled.true in
    kept (not_so_lt _ _ _ _ c.if-limit-gt-MOST_EDGES.false (so _ _ _ disabled refl))

pub returns-then-wrong_roles : goal.returns-then-wrong_roles
unfolding linked_of refuse_link
returns-then-wrong_roles c =
    let disabled = looked either_disabled c.settings_in-h.ensures c.settings_in-c.ensures c.either_disabled.ensures c.if-either_disabled.false in
    let roles = looked wrong_roles c.settings_in-h.ensures c.settings_in-c.ensures c.wrong_roles.ensures c.if-wrong_roles.true in
    kept (not_so_lt _ _ _ _ c.if-limit-gt-MOST_EDGES.false (not_so _ _ _ disabled (so _ _ _ roles refl)))

pub returns-then-different_modes : goal.returns-then-different_modes
unfolding linked_of refuse_link
returns-then-different_modes c =
    let disabled = looked either_disabled c.settings_in-h.ensures c.settings_in-c.ensures c.either_disabled.ensures c.if-either_disabled.false in
    let roles = looked wrong_roles c.settings_in-h.ensures c.settings_in-c.ensures c.wrong_roles.ensures c.if-wrong_roles.false in
    let modes = looked different_modes c.settings_in-h.ensures c.settings_in-c.ensures c.different_modes.ensures c.if-different_modes.true in
    kept (not_so_lt _ _ _ _ c.if-limit-gt-MOST_EDGES.false (not_so _ _ _ disabled (not_so _ _ _ roles (so _ _ _ modes refl))))

pub run-requires : goal.run-requires
run-requires c =
    let disabled = looked either_disabled c.settings_in-h.ensures c.settings_in-c.ensures c.either_disabled.ensures c.if-either_disabled.false in
    let roles = looked wrong_roles c.settings_in-h.ensures c.settings_in-c.ensures c.wrong_roles.ensures c.if-wrong_roles.false in
    let modes = looked different_modes c.settings_in-h.ensures c.settings_in-c.ensures c.different_modes.ensures c.if-different_modes.false in
    running_shown _ _ (matched _ _ disabled roles modes) c.client_sees.ensures

pub returns : goal.returns
unfolding linked_of told_of run_of
returns c =
    let disabled = looked either_disabled c.settings_in-h.ensures c.settings_in-c.ensures c.either_disabled.ensures c.if-either_disabled.false in
    let roles = looked wrong_roles c.settings_in-h.ensures c.settings_in-c.ensures c.wrong_roles.ensures c.if-wrong_roles.false in
    let modes = looked different_modes c.settings_in-h.ensures c.settings_in-c.ensures c.different_modes.ensures c.if-different_modes.false in
    changed refl
    (not_so_lt _ _ _ _ c.if-limit-gt-MOST_EDGES.false
    (not_so _ _ _ disabled
    (not_so _ _ _ roles
    (not_so _ _ _ modes
    (ap told_of (c.run.ensures.client_after ∙ ap (host_turn _ _) c.client_sees.ensures))))))
