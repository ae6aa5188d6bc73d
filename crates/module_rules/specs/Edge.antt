-- Document 01, "One edge at a time", with document 02, Three: one function of all levels, for ticks and pin calls alike.
use Rattle.std.specs.Prelude.{ℕ, ◌+◌, ◌*◌, Bool, true, false, not, ◌&&◌, ◌||◌, eqb, ltb}
use Rattle.std.specs.Bool.{beq}
use Rattle.laws.specs.Choice.{when◌then◌else◌}
use Rattle.module_types.specs.declared.Settings.{Settings}
use Rattle.module_types.specs.declared.Engine.{Engine}
use Rattle.module_types.specs.declared.Progress.{Progress}
use Rattle.module_types.specs.declared.Shift.{Shift}
use Rattle.module_types.specs.declared.Shift.TheVariants.{Free, Loaded, Begun}
use Rattle.module_rules.specs.Changes.{with_shift, with_sck, with_sdo, with_pulse}
use Rattle.module_rules.specs.Settings.{width_of, framed, silent, ssen_client}
use Rattle.module_rules.specs.Buffers.{empty, first_waiting}
use Rattle.module_rules.specs.Bits.{received_after, sdo_after, progressed}
use Rattle.module_rules.specs.Loading.{is_begun}
use Rattle.module_rules.specs.Finish.{finished}
use Rattle.module_rules.specs.Select.{deselected, select_seen}

-- The edges that a word takes.
abbrev pub word_edges : Settings → ℕ
word_edges s = 2 * width_of s

-- A word at its beginning: no edge given, nothing received.
abbrev pub fresh : Bool → ℕ → Progress
fresh filler word = record { filler = filler; word = word; edges = 0; received = 0 }

-- Beginning a word is a step of its own, after loading. A loaded word begins. With none loaded a silent module has nothing
-- to begin; an SSEN client begins the first waiting word, which stays in the buffer, and any other module with nothing to
-- send begins a filler of zeros. A word already begun stays so.
unfoldable pub begun : Settings → Engine → Shift → Shift
begun s n Free =
    when silent s then Free
    else when ssen_client s && not (empty n.transmit.count) then Begun (fresh false (first_waiting n.transmit))
    else Begun (fresh true 0)
begun s n (Loaded word) = Begun (fresh false word)
begun s n (Begun p) = Begun p

-- An edge short of 2w: one more is counted, and SDI is sampled or SDO changes.
unfoldable pub shifted : Settings → Bool → Progress → Engine → Engine
shifted s sdi p n =
    with_sdo (sdo_after s p.word (p.edges + 1) n.pins.sdo) (with_shift (Begun (progressed s sdi p)) n)

-- One edge of a begun word. It finishes at edge 2w and no sooner.
unfoldable pub advanced : Settings → Bool → Progress → Engine → Engine
advanced s sdi p n =
    when ltb (p.edges + 1) (word_edges s) then shifted s sdi p n
    else finished s p.filler (received_after s (p.edges + 1) sdi p.received) n

-- An edge for whatever is begun; with nothing begun it does nothing more.
unfoldable pub advanced_if_begun : Settings → Bool → Shift → Engine → Engine
advanced_if_begun s sdi Free n = n
advanced_if_begun s sdi (Loaded word) n = n
advanced_if_begun s sdi (Begun p) n = advanced s sdi p n

-- A frame client, and a frame host with FRMDLY 0, begins a word or a filler only at a transmit edge before which a pulse
-- stands, sampled or given. A frame host with FRMDLY 1 gives the pulse with the first bit, and does not wait.
unfoldable pub awaits_pulse : Settings → Engine → Bool
awaits_pulse s n = (framed s && (s.con2.spifsd || not s.con2.frmdly)) && not n.pins.pulse

-- What is under way at an edge to the level `sck`: an edge to the idle level begins no word, an edge to the active level
-- begins one if there is one to begin and no pulse is awaited, and a begun word goes on at either. So odd edges go to the
-- active level, and are the transmit edges of a framed module; even ones are its sample edges.
unfoldable pub under_way : Settings → Bool → Engine → Shift
under_way s sck n =
    when beq sck s.con1.ckp then n.shift
    else when awaits_pulse s n then n.shift
    else begun s n n.shift

-- Whether a frame host gives a pulse from a transmit edge on, by what is under way after that edge and how many words wait.
-- FRMDLY 0: one clock before the first bit, so for a loaded word at once, and for one that waits on the last bit of the word
-- before it, which begins at edge 2w-1. FRMDLY 1: with the first bit.
unfoldable pub pulse_due : Settings → ℕ → Shift → Bool
pulse_due s count Free = false
pulse_due s count (Loaded word) = not s.con2.frmdly
pulse_due s count (Begun p) =
    when s.con2.frmdly then eqb p.edges 1 else eqb (p.edges + 1) (word_edges s) && not (empty count)

-- SS is active at the level FRMPOL.
abbrev pub active : Settings → Bool → Bool
active s ss = beq ss s.con2.frmpol

-- Whether a pulse stands after an edge to the level `sck` of a framed module. A frame host decides at a transmit edge, so that
-- a pulse lasts one clock. A frame client looks at SS at a sample edge with no word under way, also at edge 2w after the
-- finish, and has used the pulse up after the transmit edge.
unfoldable pub pulse_after : Settings → Bool → Engine → Bool
pulse_after s sck n =
    when beq sck s.con1.ckp
    then (when s.con2.spifsd then active s n.pins.ss && not (is_begun n.shift) else n.pins.pulse)
    else not s.con2.spifsd && pulse_due s n.transmit.count n.shift

-- The end of an edge: the pulse of a framed module.
unfoldable pub pulsed : Settings → Bool → Engine → Engine
pulsed s sck n = with_pulse (when framed s then pulse_after s sck n else n.pins.pulse) n

-- The clock level is remembered.
unfoldable pub clocked : Bool → Engine → Engine
clocked sck n = with_sck sck n

-- An edge to the level `sck`. Deselected, it only updates the remembered level.
unfoldable pub edged : Settings → Bool → Bool → Engine → Engine
edged s sck sdi n =
    when deselected s n.pins.ss then clocked sck n
    else pulsed s sck (advanced_if_begun s sdi (under_way s sck n) (clocked sck n))

-- The levels that a step carries.
pub record Levels : Type 0 where
  pub sck : Bool
  pub sdi : Bool
  pub ss : Bool

abbrev pub levels : Bool → Bool → Bool → Levels
levels sck sdi ss = record { sck = sck; sdi = sdi; ss = ss }

-- Levels are seen: SS is acted on first, then an SCK level unlike the remembered one is an edge.
unfoldable pub stepped : Settings → Levels → Engine → Engine
stepped s x n =
    when beq x.sck n.pins.sck then select_seen s x.ss n
    else edged s x.sck x.sdi (select_seen s x.ss n)
