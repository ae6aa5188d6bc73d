-- Document 01, "Two modules on one wire": a linked run of a host with its own clock and a client, both unframed.
use Rattle.std.specs.Prelude.{ℕ, zero, suc, ◌+◌, ◌*◌, Bool, true, false, not, ◌||◌, eqb, ltb, Result, Ok, Err}
use Rattle.std.specs.Bool.{beq}
use Rattle.laws.specs.Choice.{when◌then◌else◌}
use Rattle.module_types.specs.declared.Depth.TheVariants.{Sixteen}
use Rattle.module_types.specs.declared.Settings.{Settings}
use Rattle.module_types.specs.declared.Module.{Module}
use Rattle.module_types.specs.declared.Outcome.{Outcome}
use Rattle.module_types.specs.declared.Refusal.{Refusal}
use Rattle.module_types.specs.declared.Refusal.TheVariants.{Disabled, WrongClock, DifferentModes, TooManyEdges}
use Rattle.module_types.specs.declared.Answer.{Answer}
use Rattle.module_types.specs.declared.Answer.TheVariants.{Refused, Done, Value, NoEdge, Edge}
use Rattle.module_types.specs.declared.Output.{Output}
use Rattle.module_types.specs.declared.Output.TheVariants.{Low, High, Undriven}
use Rattle.module_rules.specs.Settings.{width_of, words_of, framed, own_clock}
use Rattle.module_rules.specs.Refusals.{number_of}
use Rattle.module_rules.specs.Calls.{tick_of, pins_of, sck_of, sdo_of}
use Rattle.link_rules.specs.declared.Run.{Run}
use Rattle.link_rules.specs.declared.LinkSaid.{LinkSaid}
use Rattle.link_rules.specs.declared.Linked.{Linked}

-- The most edges that one host can still owe, and that a run may be asked for whatever the depths: two for each of 16 bits, for
-- every word of a full buffer of 16 and the one in the shift register (document 02, Twelve).
abbrev pub most_edges : ℕ
most_edges = 2 * 16 * (words_of Sixteen + 1)

-- The level that the other end of a wire reads: undriven reads 0.
unfoldable pub level_read : Output → Bool
level_read Low = false
level_read High = true
level_read Undriven = false

-- An answer that tells of an edge made.
unfoldable pub made_edge : Answer → Bool
made_edge (Refused r) = false
made_edge Done = false
made_edge (Value v) = false
made_edge NoEdge = false
made_edge Edge = true

-- The host's tick takes the client's present SDO. SS is 0 there, and an unframed host does not look at it.
unfoldable pub host_ticked : Module → Module → Outcome
host_ticked host client = tick_of host (level_read (sdo_of client)) false

-- The client sees the host's present SCK and SDO with SS low.
unfoldable pub client_sees : Module → Module → Module
client_sees host client = (pins_of client (sck_of host) (level_read (sdo_of host)) false).after

-- The run stops: no further edge is used.
unfoldable pub run_stops : Module → Module → Run
run_stops host client = record { used = 0; host = host; client = client }

-- One more edge is used.
unfoldable pub one_more : Run → Run
one_more r = record { used = r.used + 1; host = r.host; client = r.client }

-- The client's turn, after an edge of the host: it sees the host's new levels and hands back.
unfoldable pub client_turn : (Module → Module → Run) → Module → Module → Run
client_turn back host client = one_more (back host (client_sees host client))

-- Once the host has ticked: an edge hands over to the client's turn, and no edge ends the run.
unfoldable pub handed_over : (Module → Module → Run) → Outcome → Module → Run
handed_over back ticked client =
    when made_edge ticked.answer then client_turn back ticked.after client else run_stops ticked.after client

-- The host's turn with some edges left: with none left the run ends, else the host ticks. The client's turn hands back
-- with one edge fewer left.
unfoldable pub host_turn : ℕ → Module → Module → Run
host_turn zero host client = run_stops host client
host_turn (suc left) host client = handed_over (host_turn left) (host_ticked host client) client

-- A run begins by showing the client the host's present levels. That is no edge of the host, and is made also if the
-- limit is 0.
unfoldable pub run_of : Module → Module → ℕ → Run
run_of host client limit = host_turn limit host (client_sees host client)

-- Refusal 2: the host or the client is disabled.
abbrev pub either_disabled : Settings → Settings → Bool
either_disabled host client = not host.spien || not client.spien

-- Refusal 7: the host has no clock of its own, the client is no client, or either is framed (document 02, Three).
abbrev pub wrong_roles : Settings → Settings → Bool
wrong_roles host client = (not (own_clock host) || framed host) || (client.con1.msten || framed client)

-- Refusal 10: the modules differ in CKP, CKE or width.
abbrev pub different_modes : Settings → Settings → Bool
different_modes host client =
    not (beq host.con1.ckp client.con1.ckp)
    || (not (beq host.con1.cke client.con1.cke) || not (eqb (width_of host) (width_of client)))

-- A refused run leaves both modules as they were.
unfoldable pub refuse_link : Module → Module → Refusal → Linked
refuse_link host client r = record { answer = Err r; host = host; client = client }

-- A run tells the edges used, the host's only.
unfoldable pub told_of : Run → Linked
told_of r = record { answer = Ok r.used; host = r.host; client = r.client }

-- A linked run: 11, then 2 for the host and the client, 7, 10; then the run.
unfoldable pub linked_of : Module → Module → ℕ → Linked
linked_of host client limit =
    when ltb most_edges limit then refuse_link host client TooManyEdges
    else when either_disabled host.settings client.settings then refuse_link host client Disabled
    else when wrong_roles host.settings client.settings then refuse_link host client WrongClock
    else when different_modes host.settings client.settings then refuse_link host client DifferentModes
    else told_of (run_of host client limit)

-- What the answer of a linked run says in the paper's numbers.
unfoldable pub link_said_of : Result ℕ Refusal → LinkSaid
link_said_of (Err r) = record { number = number_of r; edges = 0 }
link_said_of (Ok n) = record { number = 0; edges = n }
