-- Document 02, Three: what comes of frames, said of the SS pin, the calls and the ledger.
use Rattle.std.specs.Prelude.{◌+◌, ◌*◌, ◌≤◌, Bool, true, false, not, ◌&&◌, ◌||◌, List, [], ◌∷◌, ◌≡◌, eqb, leb}
use Rattle.std.specs.Bool.{beq}
use Rattle.laws.specs.Choice.{when◌then◌else◌}
use Rattle.word_order.specs.Ledger.{Ledger, is_quiet, edges_given, carries_filler, unsent}
use Rattle.module_types.specs.declared.Settings.{Settings}
use Rattle.module_types.specs.declared.Answer.TheVariants.{Edge}
use Rattle.module_types.specs.declared.Call.{Call}
use Rattle.module_types.specs.declared.Call.TheVariants.{Read, Write, Tick, Pin, ClockStep, Clear}
use Rattle.module_rules.specs.InBits.{word_bits, clocks_itself}
use Rattle.module_rules.specs.Calls.{perform_of, sck_of}
use Rattle.module_rules.specs.Watch.{Watched, watched_call, watched_calls, shows_pulse}

-- A call made an edge: the module was enabled before it and is after it, and its clock moved. The edge is a sample edge if it
-- went to the idle level CKP, else a transmit edge.
abbrev pub edge_made : Watched → Call → Bool
edge_made x c =
    (x.now.settings.spien && (watched_call x c).now.settings.spien)
    && not (beq (sck_of (watched_call x c).now) (sck_of x.now))

abbrev pub to_idle : Watched → Call → Bool
to_idle x c = beq (sck_of (watched_call x c).now) x.now.settings.con1.ckp

abbrev pub transmit_edge : Watched → Call → Bool
transmit_edge x c = edge_made x c && not (to_idle x c)

-- A word or a filler began: nothing was on the wire, and something is.
abbrev pub word_begins : Watched → Call → Bool
word_begins x c = is_quiet x.ledger.wire && not (is_quiet (watched_call x c).ledger.wire)

-- The SS pin starts a pulse with a call, or ends one.
abbrev pub starts_pulse : Watched → Call → Bool
starts_pulse x c = not (shows_pulse x.now) && shows_pulse (watched_call x c).now

abbrev pub ends_pulse : Watched → Call → Bool
ends_pulse x c = shows_pulse x.now && not (shows_pulse (watched_call x c).now)

-- A framed module with its own clock makes an edge at every tick, with nothing to send too. A word or filler under way is given
-- every edge until it has 2w, and nothing but disabling takes it off the wire.
pub record FramedCall (x : Watched) (c : Call) : Type 0 where
  pub runs_on : clocks_itself x.now.settings.con1 ≡ true → (sdi ss : Bool) → (perform_of x.now (Tick sdi ss)).answer ≡ Edge
  pub whole : is_quiet x.ledger.wire ≡ false → (watched_call x c).now.settings.spien ≡ true →
      edges_given (watched_call x c).ledger.wire
      ≡ (when edge_made x c
      then (when eqb (edges_given x.ledger.wire + 1) (2 * word_bits x.now.settings) then 0 else edges_given x.ledger.wire + 1)
      else edges_given x.ledger.wire)

-- Whether SS of a frame host must be active after a transmit edge. FRMDLY 0: with nothing under way if a word is left to send,
-- and after edge 2w-1 if a further one is. FRMDLY 1: after a word's edge 1. With nothing to send there is no pulse.
abbrev pub pulse_expected : Settings → Ledger → Bool
pulse_expected s l =
    when s.con2.frmdly then eqb (edges_given l.wire) 1
    else (is_quiet l.wire && leb 1 (unsent l)) || (eqb (edges_given l.wire + 1) (2 * word_bits s) && leb 2 (unsent l))

-- A word of a frame host begins exactly at the transmit edge that ends a pulse (FRMDLY 0) or starts one (FRMDLY 1), and no
-- filler does. SS changes at transmit edges alone, and is then as expected: so a pulse lasts one clock and comes as early as it
-- can. With a word left to send, nothing under way and no pulse, the next transmit edge gives one. A disabled module drives
-- nothing.
pub record FrameHostCall (x : Watched) (c : Call) : Type 0 where
  pub begins : word_begins x c ≡ (transmit_edge x c && (when x.now.settings.con2.frmdly then starts_pulse x c else ends_pulse x c))
  pub no_filler : carries_filler x.ledger.wire ≡ false
  pub pulse : shows_pulse (watched_call x c).now
      ≡ (when transmit_edge x c then pulse_expected x.now.settings (watched_call x c).ledger
      else (watched_call x c).now.settings.spien && shows_pulse x.now)
  pub gives : is_quiet x.ledger.wire ≡ true → 1 ≤ unsent x.ledger → shows_pulse x.now ≡ false →
      transmit_edge x c ≡ true → shows_pulse (watched_call x c).now ≡ true

-- The SS level that a tick, a pin call or a clock step tells.
abbrev pub ss_told : Call → Bool
ss_told (Read register) = false
ss_told (Write register v) = false
ss_told (Tick sdi ss) = ss
ss_told (Pin sck sdi ss) = ss
ss_told (ClockStep sck sdi ss) = ss
ss_told Clear = false

-- A word or filler of a frame client begins exactly at a transmit edge before which a pulse stands in the ledger: the preceding
-- sample edge was told SS active, with no word under way after it. It is a word if one is left to send at that edge, else a
-- filler.
pub record FrameClientCall (x : Watched) (c : Call) : Type 0 where
  pub begins : word_begins x c ≡ (transmit_edge x c && x.memory.pulse)
  pub stands : (watched_call x c).now.settings.spien ≡ true →
      (watched_call x c).memory.pulse
      ≡ (when edge_made x c
      then to_idle x c && (beq (ss_told c) x.now.settings.con2.frmpol && is_quiet (watched_call x c).ledger.wire)
      else x.memory.pulse)
  pub fills : word_begins x c ≡ true → carries_filler (watched_call x c).ledger.wire ≡ eqb (unsent x.ledger) 0

-- Calls that leave the module enabled and make no edge.
abbrev pub Still : Watched → List Call → Type 0
Still x [] = Unit {0}
Still x (c ∷ cs) =
    ((watched_call x c).now.settings.spien ≡ true) × (edge_made x c ≡ false) × Still (watched_call x c) cs

-- The next edge behind x is made by the call c at y: calls that make none lead there.
pub data NextEdge (x : Watched) : Watched → Call → Type 0 where
  next : (cs : List Call) (c : Call) → Still x cs → edge_made (watched_calls x cs) c ≡ true → NextEdge x (watched_calls x cs) c

-- Words of a frame host follow each other without a gap. FRMDLY 0: c makes edge 2w-1 with a further word to send, d edge 2w, and
-- e begins that word. FRMDLY 1: c makes edge 2w, a word is there before d makes the next edge, and d begins it.
pub record FollowsOn (x : Watched) : Type 0 where
  pub before : x.now.settings.con2.frmdly ≡ false → edges_given x.ledger.wire + 2 ≡ 2 * word_bits x.now.settings →
      2 ≤ unsent x.ledger → (c : Call) → edge_made x c ≡ true → (y z : Watched) (d e : Call) → NextEdge (watched_call x c) y d →
      NextEdge (watched_call y d) z e → word_begins z e ≡ true
  pub with : x.now.settings.con2.frmdly ≡ true → edges_given x.ledger.wire + 1 ≡ 2 * word_bits x.now.settings →
      (c : Call) → edge_made x c ≡ true → (y : Watched) (d : Call) → NextEdge (watched_call x c) y d → 1 ≤ unsent y.ledger →
      word_begins y d ≡ true
