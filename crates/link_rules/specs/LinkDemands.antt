-- The customer's demands on two modules on one wire. The record LinkedRuns holds every statement, and
-- proofs/LinkDemandsHold.antt proves it. A run is said to be made if its refusal number is 0.
use Rattle.std.specs.Prelude.{ℕ, zero, suc, ◌≤◌, Bool, true, false, not, ◌||◌, List, [], ◌∷◌, ◌++◌, ◌≡◌, ltb}
use Rattle.std.specs.Bool.{beq}
use Rattle.laws.specs.Choice.{when◌then◌else◌}
use Rattle.module_types.specs.declared.Module.{Module}
use Rattle.module_types.specs.declared.Outcome.{Outcome}
use Rattle.module_types.specs.declared.Output.{Output}
use Rattle.module_types.specs.declared.Output.TheVariants.{Low, High, Undriven}
use Rattle.module_types.specs.declared.Call.{Call}
use Rattle.module_types.specs.declared.Call.TheVariants.{Tick, Pin}
use Rattle.module_rules.specs.InBits.{clocks_itself}
use Rattle.module_rules.specs.Refusals.{is_edge}
use Rattle.module_rules.specs.RefusalTable.{Row, row, first_number}
use Rattle.module_rules.specs.Calls.{perform_of, sck_of, sdo_of}
use Rattle.module_rules.specs.Lives.{Beginning, life}
use Rattle.module_rules.specs.Demands.{edges_still_owed, edges_made, IsIdle}
use Rattle.link_rules.specs.declared.Linked.{Linked}
use Rattle.link_rules.specs.Link.{linked_of, link_said_of}
use Rattle.link_rules.specs.LinkExamples.{example_l, link_examples}

-- The refusal table's rows for a linked run, in the order of the tests: 11, then 2 for the host and the client, 7, 10.
abbrev pub link_rows : Module → Module → ℕ → List Row
link_rows host client limit =
    -- asked for more than 544 edges
    row 11 (ltb 544 limit)
    -- either module disabled
    ∷ row 2 (not host.settings.spien || not client.settings.spien)
    -- wrong roles: the host has no clock of its own, or the client is a host; or either is framed
    ∷ row 7
    ((not (clocks_itself host.settings.con1) || host.settings.con2.frmen)
    || (client.settings.con1.msten || client.settings.con2.frmen))
    -- the modules differ in CKP, CKE or width
    ∷ row 10
    (not (beq host.settings.con1.ckp client.settings.con1.ckp)
    || (not (beq host.settings.con1.cke client.settings.con1.cke)
    || not (beq host.settings.con1.mode16 client.settings.con1.mode16)))
    ∷ []

-- What is read of an SDO pin at the other end of its wire: undriven reads 0.
abbrev pub read_as : Output → Bool
read_as Low = false
read_as High = true
read_as Undriven = false

-- What each end is shown of the other's pins: a tick of the host carries the client's SDO, and a pin call of the client the host's SCK
-- and SDO with SS low.
abbrev pub tick_beside : Module → Call
tick_beside client = Tick (read_as (sdo_of client)) false

abbrev pub pins_beside : Module → Call
pins_beside host = Pin (sck_of host) (read_as (sdo_of host)) false

-- The calls at either end with so many edges left, in their order: the host ticks, and after an edge the client is shown the new levels.
-- A tick that makes no edge is the last call.
unfoldable pub host_calls : ℕ → Module → Module → List Call
host_calls zero host client = []
host_calls (suc left) host client =
    let ticked : Outcome = perform_of host (tick_beside client) in
    tick_beside client
    ∷ (when is_edge ticked.answer then host_calls left ticked.after (perform_of client (pins_beside ticked.after)).after else [])

unfoldable pub client_calls : ℕ → Module → Module → List Call
client_calls zero host client = []
client_calls (suc left) host client =
    let ticked : Outcome = perform_of host (tick_beside client) in
    when is_edge ticked.answer
    then pins_beside ticked.after ∷ client_calls left ticked.after (perform_of client (pins_beside ticked.after)).after
    else []

-- Those of a whole run: the client is first shown the host's present levels, whatever the limit.
unfoldable pub run_host_calls : Module → Module → ℕ → List Call
run_host_calls host client limit = host_calls limit host (perform_of client (pins_beside host)).after

unfoldable pub run_client_calls : Module → Module → ℕ → List Call
run_client_calls host client limit = pins_beside host ∷ client_calls limit host (perform_of client (pins_beside host)).after

-- What a run says in the paper's numbers.
abbrev pub refusal_of : Module → Module → ℕ → ℕ
refusal_of host client limit = (link_said_of (linked_of host client limit).answer).number

abbrev pub edges_used : Module → Module → ℕ → ℕ
edges_used host client limit = (link_said_of (linked_of host client limit).answer).edges

-- A run is refused exactly as the table says, and then leaves both ends unchanged. A run that is made does to each end what
-- its list of calls does: each tick of the host carries the client's SDO, each pin call of the client the host's levels
-- with SS low. So the ends of a run are among the modules that lists of calls reach, and all that is said of one module
-- (its invariant, word order, flags) is said of them. The edges used are those that the host made: never more than the
-- limit, and all that it edges_still_owed if the limit allows it, after which it is idle. No module owes more than 544, so that limit
-- always ends idle. The client stays selected. An equation with a function leaves no two outcomes.
pub record LinkedRuns : Type 0 where
  pub refused_exactly : (host client : Module) (limit : ℕ) →
      refusal_of host client limit ≡ first_number (link_rows host client limit)
  pub refused_unchanged : (host client : Module) (limit : ℕ) → 1 ≤ refusal_of host client limit →
      ((linked_of host client limit).host ≡ host) × ((linked_of host client limit).client ≡ client)
  pub one_outcome : (host client : Module) (limit : ℕ) (x y : Linked) → x ≡ linked_of host client limit →
      y ≡ linked_of host client limit → x ≡ y
  pub paper_examples : (example_l ≡ true) × (link_examples ≡ true)
  pub host_lives : (b d : Beginning) (cs ds : List Call) (limit : ℕ) →
      refusal_of (life b cs).now (life d ds).now limit ≡ 0 →
      (linked_of (life b cs).now (life d ds).now limit).host
      ≡ (life b (cs ++ run_host_calls (life b cs).now (life d ds).now limit)).now
  pub client_lives : (b d : Beginning) (cs ds : List Call) (limit : ℕ) →
      refusal_of (life b cs).now (life d ds).now limit ≡ 0 →
      (linked_of (life b cs).now (life d ds).now limit).client
      ≡ (life d (ds ++ run_client_calls (life b cs).now (life d ds).now limit)).now
  pub counts_edges : (host client : Module) (limit : ℕ) → refusal_of host client limit ≡ 0 →
      edges_used host client limit ≡ edges_made host (run_host_calls host client limit)
  pub within_limit : (host client : Module) (limit : ℕ) → edges_used host client limit ≤ limit
  pub uses_owed : (b : Beginning) (cs : List Call) (client : Module) (limit : ℕ) →
      refusal_of (life b cs).now client limit ≡ 0 → edges_still_owed (life b cs) ≤ limit →
      (edges_used (life b cs).now client limit ≡ edges_still_owed (life b cs)) × IsIdle (linked_of (life b cs).now client limit).host
  pub most_owed : (b : Beginning) (cs : List Call) → (life b cs).now.settings.spien ≡ true → edges_still_owed (life b cs) ≤ 544
  pub stays_selected : (host client : Module) (limit : ℕ) → refusal_of host client limit ≡ 0 →
      (linked_of host client limit).client.engine.pins.ss ≡ false
