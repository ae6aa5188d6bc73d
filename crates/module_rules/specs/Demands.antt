-- The customer's three demands on one module, over all sequences of calls: register reads and writes of any number and
-- value, ticks, pin calls, clock steps and clears, each refused or not. The record OneModule at the end holds every statement, and
-- proofs/DemandsHold.antt proves it. The step is perform_of of specs/Calls.antt, one line for each call. Linked runs, the
-- clock report and scripts have pages of their own; crates/demands gathers them.
use Rattle.std.specs.Prelude.{ℕ, ◌+◌, ◌*◌, ◌-◌, ◌≤◌, Bool, true, false, not, ◌&&◌, ◌||◌, List, [], ◌∷◌, ◌++◌, map, ◌≡◌, eqb, ltb, leb, length}
use Rattle.std.specs.Bool.{beq}
use mir.Val.{bool_byte}
use Rattle.laws.specs.Choice.{when◌then◌else◌}
use Rattle.word_order.specs.Bits.{bit_of, spelled}
use Rattle.word_order.specs.Ledger.{is_quiet, Passed, sent, kept, lost_of, edges_given, carries_filler, unsent}
use Rattle.module_types.specs.declared.Depth.{Depth}
use Rattle.module_types.specs.declared.Depth.TheVariants.{Eight}
use Rattle.module_types.specs.declared.Module.{Module}
use Rattle.module_types.specs.declared.Outcome.{Outcome}
use Rattle.module_types.specs.declared.Progress.{Progress}
use Rattle.module_types.specs.declared.Shift.{Shift}
use Rattle.module_types.specs.declared.Shift.TheVariants.{Free, Loaded, Begun}
use Rattle.module_types.specs.declared.Refusal.{Refusal}
use Rattle.module_types.specs.declared.Answer.TheVariants.{Refused, Value, NoEdge, Edge}
use Rattle.module_types.specs.declared.Answer.{Answer}
use Rattle.module_types.specs.declared.Call.{Call}
use Rattle.module_types.specs.declared.Call.TheVariants.{Read, Write, Tick, Pin, ClockStep, Clear}
use Rattle.module_rules.specs.Refusals.{number_of, said_of, is_done, is_edge}
use Rattle.module_rules.specs.Examples.{examples, further_examples, frame_examples, mark_examples, depth_examples, step_examples}
use Rattle.module_rules.specs.InBits.{word_bits, chosen, room, clocks_itself, stops_between_words, heeds_select, gives_pulses, takes_pulses}
use Rattle.module_rules.specs.Words.{waiting_in, unread_in, owed_words}
use Rattle.module_rules.specs.Calls.{powered_at, powered_up, power_up_of, perform_of, interrupt_of, sck_of, sdo_of, ss_of}
use Rattle.module_rules.specs.Invariant.{Reached}
use Rattle.module_rules.specs.Watch.{Watched, watched_call, watched_calls, shows_pulse}
use Rattle.module_rules.specs.Lives.{Beginning, life}
use Rattle.module_rules.specs.Flags.{number_in, written_to, stat_kept, con1_bits, con2_bits, stat_bits, seen, raised, sdo_shown, pin_shown, select_shown}
use Rattle.module_rules.specs.Frames.{FramedCall, FrameHostCall, FrameClientCall, FollowsOn}
use Rattle.module_rules.specs.RefusalTable.{first_number, asks, writes, is_clear, rows}

-- Demand 1. Every call is answered and ends, for any value in any state: perform_of is a total function, and the gate
-- proves that the code of each call ends with what it says.

-- The kinds of answer that each call may get when it is not refused (specs/Refusals.antt numbers them): a read a value, a
-- write, a pin call and a clear "done", a tick an edge or none, a clock step "done" or no edge.
abbrev pub kinds_for : Call → List ℕ
kinds_for (Read register) = 2 ∷ []
kinds_for (Write register v) = 1 ∷ []
kinds_for (Tick sdi ss) = 3 ∷ 4 ∷ []
kinds_for (Pin sck sdi ss) = 1 ∷ []
kinds_for (ClockStep sck sdi ss) = 1 ∷ 3 ∷ []
kinds_for Clear = 1 ∷ []

abbrev pub among : ℕ → List ℕ → Bool
among k [] = false
among k (x ∷ xs) = eqb k x || among k xs

-- A call is refused exactly when a row of the table applies, with the number of the first that does, and then leaves the
-- module unchanged. No refusal has the number 4 (document 02, One) or 12 (Three), so that no call gives them. An equation
-- with a function leaves no two outcomes.
pub record Answered : Type 0 where
  pub refused_exactly : (m : Module) (c : Call) → (said_of (perform_of m c).answer).number ≡ first_number (rows m c)
  pub refused_unchanged : (m : Module) (c : Call) (r : Refusal) → (perform_of m c).answer ≡ Refused r → (perform_of m c).after ≡ m
  pub never_given : (r : Refusal) → (number_of r ≡ 4 → ⊥) × (number_of r ≡ 12 → ⊥)
  pub in_kind : (m : Module) (c : Call) → among (said_of (perform_of m c).answer).kind (0 ∷ kinds_for c) ≡ true
  pub one_outcome : (m : Module) (c : Call) (x y : Outcome) → x ≡ perform_of m c → y ≡ perform_of m c → x ≡ y

-- The figures that this page reckons with: what the bits of a number are, and what number bits spell, highest first.
pub record Figures : Type 0 where
  pub bit : map (bit_of 40015) (15 ∷ 14 ∷ 13 ∷ 12 ∷ 11 ∷ 10 ∷ 9 ∷ 8 ∷ 7 ∷ 6 ∷ 5 ∷ 4 ∷ 3 ∷ 2 ∷ 1 ∷ 0 ∷ [])
      ≡ (true ∷ false ∷ false ∷ true ∷ true ∷ true ∷ false ∷ false ∷ false ∷ true ∷ false ∷ false ∷ true ∷ true ∷ true ∷ true ∷ [])
  pub spells : spelled 0 (true ∷ false ∷ false ∷ true ∷ true ∷ []) ≡ 19

-- Power-up: registers read 0, the interrupt flag is clear, and the remembered levels are low.
pub record AllZero (m : Module) : Type 0 where
  pub stat : (perform_of m (Read 0)).answer ≡ Value 0
  pub con1 : (perform_of m (Read 1)).answer ≡ Value 0
  pub con2 : (perform_of m (Read 2)).answer ≡ Value 0
  pub flag : interrupt_of m ≡ false
  pub sck : sck_of m ≡ false
  pub ss : m.engine.pins.ss ≡ false
  pub sdo : m.engine.pins.sdo ≡ false

-- Power-up with a depth (document 02, Twelve), in any state. 25 is given exactly for another depth than 4, 8 and 16, and then nothing
-- changes. Otherwise the module is as at power-up, with that depth; without one the depth is 8. No other call changes it.
abbrev pub is_depth : ℕ → Bool
is_depth words = among words (4 ∷ 8 ∷ 16 ∷ [])

pub record PowersUp : Type 0 where
  pub refused_exactly : (m : Module) (words : ℕ) → (said_of (power_up_of m words).answer).number ≡ (when is_depth words then 0 else 25)
  pub refused_unchanged : (m : Module) (words : ℕ) → is_depth words ≡ false → (power_up_of m words).after ≡ m
  pub done : (m : Module) (words : ℕ) → is_depth words ≡ true →
      (is_done (power_up_of m words).answer ≡ true) × (chosen (power_up_of m words).after.settings.depth ≡ words)
      × ((power_up_of m words).after ≡ powered_at (power_up_of m words).after.settings.depth)
  pub all_zero : (depth : Depth) → AllZero (powered_at depth)
  pub without : powered_up ≡ powered_at Eight
  pub stays : (m : Module) (c : Call) → (perform_of m c).after.settings.depth ≡ m.settings.depth

-- Demand 2. Every register value, pin level, flag and interrupt after every call is what document 01's rules say: the rules
-- are the definitions of this folder, docs/TRACE.md sets each beside the paper, and the contract of each call is an
-- equation with one of them. They are run on the paper's examples, and come to this after any calls.

-- What reads show: the numbers that the bits make at their places.
pub record ReadsShow (x : Watched) : Type 0 where
  pub stat : (perform_of x.now (Read 0)).answer ≡ Value (number_in (stat_bits x))
  pub con1 : (perform_of x.now (Read 1)).answer ≡ Value (number_in (con1_bits x.now.settings.con1))
  pub con2 : (perform_of x.now (Read 2)).answer ≡ Value (number_in (con2_bits x.now.settings.con2))

-- A done write of this register.
abbrev pub wrote : ℕ → Watched → Call → Bool
wrote register x c = is_done (perform_of x.now c).answer && writes register c

-- What a call changes. The bits of a register are as a done write of it left them. The interrupt flag is set by the
-- conditions, and only the clear call takes it down. SPIROV is set exactly by a loss and cleared exactly by a done STAT
-- write with a 0 in bit 6. The levels of a module that is disabled stay as disabling found them.
pub record CallChanges (x : Watched) (c : Call) : Type 0 where
  pub stat : stat_kept (watched_call x c).now.settings
      ≡ (when wrote 0 x c then written_to (asks c).value (stat_kept x.now.settings) else stat_kept x.now.settings)
  pub con1 : con1_bits (watched_call x c).now.settings.con1
      ≡ (when wrote 1 x c then written_to (asks c).value (con1_bits x.now.settings.con1) else con1_bits x.now.settings.con1)
  pub con2 : con2_bits (watched_call x c).now.settings.con2
      ≡ (when wrote 2 x c then written_to (asks c).value (con2_bits x.now.settings.con2) else con2_bits x.now.settings.con2)
  pub flag : interrupt_of (watched_call x c).now
      ≡ (not (is_clear c) && (interrupt_of x.now || raised x.now.settings (seen x (watched_call x c))))
  pub spirov : (watched_call x c).now.engine.spirov
      ≡ (when wrote 0 x c then x.now.engine.spirov && bit_of (asks c).value 6
      else x.now.engine.spirov || (seen x (watched_call x c)).lost)
  pub sdo : (watched_call x c).now.engine.pins.sdo ≡ sdo_shown x (watched_call x c)
  pub sck : (watched_call x c).now.settings.spien ≡ false → sck_of (watched_call x c).now ≡ sck_of x.now
  pub ss : (watched_call x c).now.settings.spien ≡ false → (watched_call x c).now.engine.pins.ss ≡ x.now.engine.pins.ss

-- The pins as others see them: SDO and SS with their levels or undriven, and the clock where the watcher remembers it.
pub record PinsShow (x : Watched) : Type 0 where
  pub sdo : sdo_of x.now ≡ pin_shown x
  pub ss : ss_of x.now ≡ select_shown x
  pub sck : x.now.settings.spien ≡ true → sck_of x.now ≡ x.memory.sck

-- Demand 3. Word order of a module that is enabled now, an instance of the law of crates/word_order: the accepted words are those fully
-- sent, then the one that left the transmit buffer and is not finished, then those waiting. The received words less the dropped are those read, then those
-- waiting, so that the k-th word read is the k-th received and undropped one, and a read with none waiting is refused with
-- 6. A finished word is dropped exactly if the buffer is full or marked; SPIROV is set at that step (CallChanges). The mark
-- stands exactly if a word was lost in enhanced operation since the module was last enabled, and while it stands no read
-- gives a word (document 02, Four).
pub record WordOrder (x : Watched) : Type 0 where
  pub sending : x.ledger.accepted ≡ sent x.ledger ++ owed_words x.now
  pub receiving : kept x.ledger ≡ x.ledger.read ++ unread_in x.now
  pub dropped : (c : Call) (a : Passed) → (watched_call x c).ledger.arrivals ≡ x.ledger.arrivals ++ (a ∷ []) →
      a.marked ≡ (leb (room x.now.settings) (length (unread_in x.now)) || x.now.engine.receive.marked)
  pub mark : x.now.engine.receive.marked ≡ (x.now.settings.con2.spiben && ltb 0 (lost_of x.ledger))
  pub stale : x.now.engine.receive.marked ≡ true → (said_of (perform_of x.now (Read 3)).answer).number ≡ 16

-- Fillers. The module sends one exactly while the ledger has one on the wire, and SDO is low then. A client without SSEN and without
-- FRMEN that has nothing to send begins one at its first edge.
abbrev pub sends_filler : Shift → Bool
sends_filler Free = false
sends_filler (Loaded word) = false
sends_filler (Begun p) = p.filler

pub record Fillers (x : Watched) : Type 0 where
  pub same : sends_filler x.now.engine.shift ≡ carries_filler x.ledger.wire
  pub low : sends_filler x.now.engine.shift ≡ true → x.now.engine.pins.sdo ≡ false
  pub begins : x.now.settings.con1.msten ≡ false → x.now.settings.con1.ssen ≡ false → x.now.settings.con2.frmen ≡ false →
      is_quiet x.ledger.wire ≡ true → unsent x.ledger ≡ 0 → (sck sdi ss : Bool) → beq sck (sck_of x.now) ≡ false →
      beq sck x.now.settings.con1.ckp ≡ false →
      sends_filler (perform_of x.now (Pin sck sdi ss)).after.engine.shift ≡ true

-- The last edge of a word, of every record, reached by calls or not: the received word is dropped exactly if the buffer is full
-- or marked, each loss sets SPIROV, and the mark in enhanced operation.
abbrev pub drops : Module → Bool
drops m = leb (room m.settings) (length (unread_in m)) || m.engine.receive.marked

pub record LastEdge (m after : Module) : Type 0 where
  pub unread : length (unread_in after) ≡ length (unread_in m) + bool_byte (not (drops m))
  pub spirov : after.engine.spirov ≡ (m.engine.spirov || drops m)
  pub mark : after.engine.receive.marked ≡ (m.engine.receive.marked || (drops m && m.settings.con2.spiben))

-- A call that gives this module's word an edge: a tick of a host with its own clock, or a pin call of another with an SCK level
-- unlike the remembered one, and with SS low for an unframed SSEN client; and a clock step where either would.
abbrev pub clocks_word : Module → Call → Bool
clocks_word m (Read register) = false
clocks_word m (Write register v) = false
clocks_word m (Tick sdi ss) = clocks_itself m.settings.con1
clocks_word m (Pin sck sdi ss) =
    not (clocks_itself m.settings.con1) && (not (beq sck (sck_of m)) && not (heeds_select m.settings && ss))
clocks_word m (ClockStep sck sdi ss) =
    clocks_itself m.settings.con1 || (not (beq sck (sck_of m)) && not (heeds_select m.settings && ss))
clocks_word m Clear = false

-- Edges edges_still_owed by an unframed host with its own clock, said from the history: 2w for each word accepted and not sent, less those
-- given to the word on the wire. The clock of a framed host runs on, so that it owes no number of edges.
abbrev pub edges_still_owed : Watched → ℕ
edges_still_owed x =
    2 * word_bits x.now.settings * unsent x.ledger - edges_given x.ledger.wire

-- Calls that leave the module enabled and accept no word.
pub record Undisturbed (x : Watched) (c : Call) : Type 0 where
  pub enabled : (watched_call x c).now.settings.spien ≡ true
  pub no_word : (seen x (watched_call x c)).accepted ≡ false

abbrev pub AllUndisturbed : Watched → List Call → Type 0
AllUndisturbed x [] = Unit {0}
AllUndisturbed x (c ∷ cs) = Undisturbed x c × AllUndisturbed (watched_call x c) cs

-- The edges that calls make on a host with its own clock: each that a tick answers, and each clock step that is done.
abbrev pub edges_by : Call → Answer → ℕ
edges_by (Read register) a = 0
edges_by (Write register v) a = 0
edges_by (Tick sdi ss) a = (said_of a).edges
edges_by (Pin sck sdi ss) a = 0
edges_by (ClockStep sck sdi ss) a = bool_byte (is_done a)
edges_by Clear a = 0

abbrev pub edges_made : Module → List Call → ℕ
edges_made m [] = 0
edges_made m (c ∷ cs) = edges_by c (perform_of m c).answer + edges_made (perform_of m c).after cs

-- Idle: no word is loaded, begun or waiting, and a tick makes no edge. Busy: a tick makes an edge.
pub record IsIdle (m : Module) : Type 0 where
  pub free : m.engine.shift ≡ Free
  pub none_waits : waiting_in m ≡ []
  pub no_edge : (sdi ss : Bool) → (perform_of m (Tick sdi ss)).answer ≡ NoEdge

abbrev pub IsBusy : Module → Type 0
IsBusy m = (sdi ss : Bool) → (perform_of m (Tick sdi ss)).answer ≡ Edge

-- Ticks that carry these SDI levels and one SS level, and nothing else.
abbrev pub only_ticks : Bool → List Bool → List Call
only_ticks ss [] = []
only_ticks ss (sdi ∷ rest) = Tick sdi ss ∷ only_ticks ss rest

-- Each edge that an unframed host with its own clock makes while it is left undisturbed lowers what it owes by one, whatever the SDI
-- levels and whatever other calls come between. So it falls idle after exactly the edges that it owes: it is busy as long
-- as it owes any and idle as soon as it owes none. That many ticks make them.
pub record FallsIdle (x : Watched) : Type 0 where
  pub pays : (cs : List Call) → AllUndisturbed x cs → edges_made x.now cs + edges_still_owed (watched_calls x cs) ≡ edges_still_owed x
  pub busy : 1 ≤ edges_still_owed x → IsBusy x.now
  pub idle : edges_still_owed x ≡ 0 → IsIdle x.now
  pub ticks : (ss : Bool) (sdis : List Bool) → length sdis ≡ edges_still_owed x →
      AllUndisturbed x (only_ticks ss sdis) × (edges_made x.now (only_ticks ss sdis) ≡ edges_still_owed x)

-- Frames (document 02, Three) of a framed module that is enabled now: specs/Frames.antt has the statements.
pub record FramesHold (x : Watched) : Type 0 where
  pub each : (c : Call) → FramedCall x c
  pub host : gives_pulses x.now.settings ≡ true → (c : Call) → FrameHostCall x c
  pub client : takes_pulses x.now.settings ≡ true → (c : Call) → FrameClientCall x c
  pub follows : gives_pulses x.now.settings ≡ true → FollowsOn x

-- Clock steps (document 02, Eleven), of every record: refused with 2 alone, so that 7 is never given. On a host with its own clock
-- SCK changes nothing, and SS nothing unless it is a frame client; the call does what a tick does, and is done exactly where the tick
-- makes an edge. On any other module it is the pin call.
pub record ClockSteps (m : Module) : Type 0 where
  pub refused : (sck sdi ss : Bool) → (said_of (perform_of m (ClockStep sck sdi ss)).answer).number ≡ (when m.settings.spien then 0 else 2)
  pub sck : clocks_itself m.settings.con1 ≡ true → (a b sdi ss : Bool) →
      perform_of m (ClockStep a sdi ss) ≡ perform_of m (ClockStep b sdi ss)
  pub ss : clocks_itself m.settings.con1 ≡ true → takes_pulses m.settings ≡ false → (sck sdi a b : Bool) →
      perform_of m (ClockStep sck sdi a) ≡ perform_of m (ClockStep sck sdi b)
  pub tick : clocks_itself m.settings.con1 ≡ true → (sck sdi ss : Bool) →
      ((perform_of m (ClockStep sck sdi ss)).after ≡ (perform_of m (Tick sdi ss)).after)
      × (is_done (perform_of m (ClockStep sck sdi ss)).answer ≡ is_edge (perform_of m (Tick sdi ss)).answer)
  pub pin : clocks_itself m.settings.con1 ≡ false → (sck sdi ss : Bool) →
      perform_of m (ClockStep sck sdi ss) ≡ perform_of m (Pin sck sdi ss)

-- What the buyer signs for, of one module.
pub record OneModule : Type 0 where
  pub answered : Answered
  pub paper_examples : (examples ≡ true) × (further_examples ≡ true) × (frame_examples ≡ true) × (mark_examples ≡ true) × (step_examples ≡ true)
      × (depth_examples ≡ true)
  pub figures : Figures
  pub powers_up : PowersUp
  pub reached : (b : Beginning) (cs : List Call) → Reached (life b cs).now
  pub reads_show : (b : Beginning) (cs : List Call) → ReadsShow (life b cs)
  pub call_changes : (b : Beginning) (cs : List Call) (c : Call) → CallChanges (life b cs) c
  pub pins_show : (b : Beginning) (cs : List Call) → PinsShow (life b cs)
  pub word_order : (b : Beginning) (cs : List Call) → (life b cs).now.settings.spien ≡ true → WordOrder (life b cs)
  pub fillers : (b : Beginning) (cs : List Call) → (life b cs).now.settings.spien ≡ true → Fillers (life b cs)
  pub last_edge : (m : Module) (c : Call) (p : Progress) → m.settings.spien ≡ true → clocks_word m c ≡ true →
      m.engine.shift ≡ Begun p → 2 * word_bits m.settings ≤ p.edges + 1 → LastEdge m (perform_of m c).after
  pub falls_idle : (b : Beginning) (cs : List Call) → (life b cs).now.settings.spien ≡ true →
      stops_between_words (life b cs).now.settings ≡ true → FallsIdle (life b cs)
  pub frames_hold : (b : Beginning) (cs : List Call) → (life b cs).now.settings.spien ≡ true →
      (life b cs).now.settings.con2.frmen ≡ true → FramesHold (life b cs)
  pub enabling : (b : Beginning) (cs : List Call) (c : Call) → (life b cs).now.settings.spien ≡ false →
      shows_pulse (watched_call (life b cs) c).now ≡ false
  pub clock_steps : (m : Module) → ClockSteps m
