-- Linked runs use the clock step beneath ticks and pin calls (document 02, Eleven), and none has another outcome.
--     link_as_before   a linked run is what it was with tick and pin call as they were
-- Assumes nothing.
use Rattle.std.specs.Prelude.{◌≡◌}
use Rattle.laws.proofs.Common.{ℕ, zero, suc, false, refl, ap, ◌∙◌, ltb, when◌then◌else◌}
use Rattle.module_rules.proofs.Types.{Module, Outcome, Disabled, WrongClock, DifferentModes, TooManyEdges}
use Rattle.module_rules.specs.Calls.{sck_of, sdo_of}
use Rattle.module_rules.proofs.ClockSteps.{tick_before, pins_before, tick_as_before, pins_as_before}
use Rattle.link_rules.specs.declared.Run.{Run}
use Rattle.link_rules.specs.Link.{most_edges, level_read, made_edge, host_ticked, client_sees, run_stops, one_more, client_turn, handed_over, host_turn, run_of, either_disabled, wrong_roles, different_modes, refuse_link, told_of, linked_of}

-- The host's tick and the client's look, and the turns, with the calls as they were.
abbrev ticked_before : Module → Module → Outcome
ticked_before host client = tick_before host (level_read (sdo_of client)) false

abbrev sees_before : Module → Module → Module
sees_before host client = (pins_before client (sck_of host) (level_read (sdo_of host)) false).after

abbrev turn_before : ℕ → Module → Module → Run
turn_before zero host client = run_stops host client
turn_before (suc left) host client =
    let ticked : Outcome = ticked_before host client in
    when made_edge ticked.answer then one_more (turn_before left ticked.after (sees_before ticked.after client))
    else run_stops ticked.after client

sees_as_before : (host client : Module) → client_sees host client ≡ sees_before host client
unfolding client_sees
sees_as_before host client = ap (λ (o : Outcome). o.after) (pins_as_before client (sck_of host) (level_read (sdo_of host)) false)

turns_as_before : (left : ℕ) (host client : Module) → host_turn left host client ≡ turn_before left host client
unfolding host_turn handed_over client_turn host_ticked
turns_as_before zero host client = refl
turns_as_before (suc left) host client =
    let before : Outcome = ticked_before host client in
    ap (λ (o : Outcome). handed_over (host_turn left) o client) (tick_as_before host (level_read (sdo_of client)) false)
    ∙ ap
    (λ (r : Run). when made_edge before.answer then one_more r else run_stops before.after client)
    (ap (host_turn left before.after) (sees_as_before before.after client)
    ∙ turns_as_before left before.after (sees_before before.after client))

pub link_as_before : (host client : Module) (limit : ℕ) →
    linked_of host client limit
    ≡ (when ltb most_edges limit then refuse_link host client TooManyEdges
    else when either_disabled host.settings client.settings then refuse_link host client Disabled
    else when wrong_roles host.settings client.settings then refuse_link host client WrongClock
    else when different_modes host.settings client.settings then refuse_link host client DifferentModes
    else told_of (turn_before limit host (sees_before host client)))
unfolding linked_of run_of
link_as_before host client limit = rw (sees_as_before host client, turns_as_before limit host (sees_before host client))
