-- The page, run: its own statements as tests at each call of a list, so that a rule which is wrong is seen to be false of them.
--     answers, reads, changes, pins, order, frames, idles   the statements of specs/Demands.antt and specs/Frames.antt at one call
--     reads_back, changes-back, pins_back   these give back the page's records
--     last_edges   the last edge of a word, of a record that calls reach or not
--     run         the tests at every call of a list
--     page_runs   if the page holds, every run is true: a run that is false refutes the page
-- Assumes nothing.
use Rattle.std.specs.Prelude.{◌+◌, ◌*◌, ◌≤◌, ◌&&◌, ◌||◌, ◌∷◌, ◌++◌, ◌≡◌}
use Rattle.laws.proofs.Common.{length, ℕ, Bool, true, false, not, Bool·beq, List, []}
use Rattle.laws.proofs.Common.{refl, sym, ap, subst, ◌∙◌, arith, eqb-true, eqb-false, not-true, eqb, ltb, when◌then◌else◌}
use Rattle.laws.proofs.Common.{by_test, if_true, if_false, and_left, and_right, and_both}
use mir.Val.{bool_byte}
use Rattle.word_order.specs.Bits.{bit_of}
use Rattle.word_order.specs.Ledger.{Ledger, is_quiet, edges_given, carries_filler, unsent, sent, kept, lost_of}
use Rattle.word_order.specs.Machine.{entered}
use Rattle.module_rules.proofs.Types.{Outcome, Answer, Call, Read, Write, Tick, Pin, ClockStep, Clear, Module}
use Rattle.module_rules.specs.InBits.{word_bits, clocks_itself, stops_between_words, gives_pulses, takes_pulses}
use Rattle.module_rules.specs.Refusals.{said_of, is_done, is_edge}
use Rattle.module_rules.specs.Words.{unread_in, owed_words}
use Rattle.module_rules.specs.Calls.{perform_of, interrupt_of, sck_of, sdo_of, ss_of}
use Rattle.module_rules.specs.RefusalTable.{rows, first_number, asks, writes, is_clear}
use Rattle.module_rules.specs.Watch.{Watched, watched_call, watched_calls, Sight, entry_of, memory_after, terms, shows_pulse}
use Rattle.module_rules.specs.Lives.{Beginning, begins, life}
use Rattle.module_rules.specs.Flags.{number_in, written_to, stat_kept, con1_bits, con2_bits, stat_bits, seen, raised, sdo_shown, pin_shown, select_shown}
use Rattle.module_rules.specs.Frames.{pulse_expected, ss_told, FrameHostCall, FrameClientCall}
use Rattle.module_rules.specs.Demands.{among, kinds_for, edges_still_owed, sends_filler, Answered, ReadsShow, CallChanges, PinsShow, WordOrder, Fillers, FallsIdle, FramesHold, ClockSteps, OneModule, LastEdge, drops}
use Rattle.module_rules.proofs.Claims.{Claim, level, number, levels, numbers, pin, told, provided, AllHold, none, ◌also◌, all_judged, all_judged_lem}

-- A watched module x, a call c with its outcome o, and the watched module y after it. They are handed on as arguments, so that each
-- is computed once in a run.
module _ (x : Watched) (c : Call) (o : Outcome) (y : Watched) where
  -- A done write of a register.
  abbrev did : ℕ → Bool
  did register = is_done o.answer && writes register c

  abbrev answers : List Claim
  answers =
      number (said_of o.answer).number (first_number (rows x.now c))
      ∷ level (among (said_of o.answer).kind (0 ∷ kinds_for c)) true
      ∷ []

  abbrev changes : List Claim
  changes =
      levels (stat_kept y.now.settings)
      (when did 0 then written_to (asks c).value (stat_kept x.now.settings) else stat_kept x.now.settings)
      ∷ levels (con1_bits y.now.settings.con1)
      (when did 1 then written_to (asks c).value (con1_bits x.now.settings.con1) else con1_bits x.now.settings.con1)
      ∷ levels (con2_bits y.now.settings.con2)
      (when did 2 then written_to (asks c).value (con2_bits x.now.settings.con2) else con2_bits x.now.settings.con2)
      ∷ level (interrupt_of y.now) (not (is_clear c) && (interrupt_of x.now || raised x.now.settings (seen x y)))
      ∷ level y.now.engine.spirov
      (when did 0 then x.now.engine.spirov && bit_of (asks c).value 6 else x.now.engine.spirov || (seen x y).lost)
      ∷ level y.now.engine.pins.sdo (sdo_shown x y)
      ∷ provided (not y.now.settings.spien) (level (sck_of y.now) (sck_of x.now))
      ∷ provided (not y.now.settings.spien) (level y.now.engine.pins.ss x.now.engine.pins.ss)
      ∷ []

  -- The tick of an unframed host with its own clock makes an edge exactly while it owes one, and so its clock step is done.
  abbrev idles : Call → List Claim
  idles (Read register) = []
  idles (Write register v) = []
  idles (Tick sdi ss) =
      provided x.now.settings.spien
      (provided (stops_between_words x.now.settings) (number (said_of o.answer).kind (when eqb (edges_still_owed x) 0 then 3 else 4)))
      ∷ []
  idles (Pin sck sdi ss) = []
  idles (ClockStep sck sdi ss) =
      provided x.now.settings.spien
      (provided (stops_between_words x.now.settings) (level (is_done o.answer) (not (eqb (edges_still_owed x) 0))))
      ∷ []
  idles Clear = []

  -- Frames: an edge was made, to the active level; a word began; a pulse started or ended.
  abbrev edge : Bool
  edge = (x.now.settings.spien && y.now.settings.spien) && not (Bool·beq (sck_of y.now) (sck_of x.now))

  abbrev idle : Bool
  idle = Bool·beq (sck_of y.now) x.now.settings.con1.ckp

  abbrev began : Bool
  began = is_quiet x.ledger.wire && not (is_quiet y.ledger.wire)

  abbrev starts : Bool
  starts = not (shows_pulse x.now) && shows_pulse y.now

  abbrev ends : Bool
  ends = shows_pulse x.now && not (shows_pulse y.now)

  abbrev whole : Claim
  whole =
      number (edges_given y.ledger.wire)
      (when edge
      then (when eqb (edges_given x.ledger.wire + 1) (2 * word_bits x.now.settings) then 0 else edges_given x.ledger.wire + 1)
      else edges_given x.ledger.wire)

  abbrev host_frames : List Claim
  host_frames =
      level began ((edge && not idle) && (when x.now.settings.con2.frmdly then starts else ends))
      ∷ level (carries_filler x.ledger.wire) false
      ∷ level (shows_pulse y.now)
      (when edge && not idle then pulse_expected x.now.settings y.ledger else y.now.settings.spien && shows_pulse x.now)
      ∷ []

  abbrev client_frames : List Claim
  client_frames =
      level began ((edge && not idle) && x.memory.pulse)
      ∷ provided y.now.settings.spien
      (level y.memory.pulse
      (when edge then idle && (Bool·beq (ss_told c) x.now.settings.con2.frmpol && is_quiet y.ledger.wire) else x.memory.pulse))
      ∷ provided began (level (carries_filler y.ledger.wire) (eqb (unsent x.ledger) 0))
      ∷ []

-- What is said of a watched module between calls.
module _ (y : Watched) where
  abbrev reads : List Claim
  reads =
      told (perform_of y.now (Read 0)).answer (number_in (stat_bits y))
      ∷ told (perform_of y.now (Read 1)).answer (number_in (con1_bits y.now.settings.con1))
      ∷ told (perform_of y.now (Read 2)).answer (number_in (con2_bits y.now.settings.con2))
      ∷ []

  abbrev pins : List Claim
  pins =
      pin (sdo_of y.now) (pin_shown y)
      ∷ pin (ss_of y.now) (select_shown y)
      ∷ provided y.now.settings.spien (level (sck_of y.now) y.memory.sck)
      ∷ []

  abbrev order : List Claim
  order =
      numbers y.ledger.accepted (sent y.ledger ++ owed_words y.now)
      ∷ numbers (kept y.ledger) (y.ledger.read ++ unread_in y.now)
      ∷ level y.now.engine.receive.marked (y.now.settings.con2.spiben && ltb 0 (lost_of y.ledger))
      ∷ provided y.now.engine.receive.marked (number (said_of (perform_of y.now (Read 3)).answer).number 16)
      ∷ level (sends_filler y.now.engine.shift) (carries_filler y.ledger.wire)
      ∷ provided (sends_filler y.now.engine.shift) (level y.now.engine.pins.sdo false)
      ∷ []

-- The claims of a group are these statements of the page.
answers_said : Answered → (x : Watched) (c : Call) → AllHold (answers x c (perform_of x.now c) (watched_call x c))
answers_said p x c = p.refused_exactly x.now c also p.in_kind x.now c also none

reads_said : (y : Watched) → ReadsShow y → AllHold (reads y)
reads_said y r = r.stat also r.con1 also r.con2 also none

reads_back : (y : Watched) → AllHold (reads y) → ReadsShow y
reads_back y (stat also (con1 also (con2 also none))) = record { stat = stat; con1 = con1; con2 = con2 }

pins_said : (y : Watched) → PinsShow y → AllHold (pins y)
pins_said y p = p.sdo also p.ss also p.sck also none

pins_back : (y : Watched) → AllHold (pins y) → PinsShow y
pins_back y (sdo also (ss also (sck also none))) = record { sdo = sdo; ss = ss; sck = sck }

module _ (x : Watched) (c : Call) where
  abbrev o : Outcome
  o = perform_of x.now c

  abbrev y : Watched
  y = watched_call x c

  abbrev off : y.now.settings.spien ≡ false → not y.now.settings.spien ≡ true
  off e = ap not e

  changes_said : CallChanges x c → AllHold (changes x c o y)
  changes_said k =
      let sck : not y.now.settings.spien ≡ true → sck_of y.now ≡ sck_of x.now =
      λ e. k.sck (not-true y.now.settings.spien e) in
      let ss : not y.now.settings.spien ≡ true → y.now.engine.pins.ss ≡ x.now.engine.pins.ss =
      λ e. k.ss (not-true y.now.settings.spien e) in
      k.stat also k.con1 also k.con2 also k.flag also k.spirov also k.sdo also sck also ss also none

  changes-back : AllHold (changes x c o y) → CallChanges x c
  changes-back (stat also (con1 also (con2 also (flag also (spirov also (sdo also (sck also (ss also none)))))))) =
      record {
        stat = stat;
        con1 = con1;
        con2 = con2;
        flag = flag;
        spirov = spirov;
        sdo = sdo;
        sck = λ e. sck (off e);
        ss = λ e. ss (off e);
      }

  host-said : FrameHostCall x c → AllHold (host_frames x c o y)
  host-said h = h.begins also h.no_filler also h.pulse also none

  client-said : FrameClientCall x c → AllHold (client_frames x c o y)
  client-said h = h.begins also h.stands also h.fills also none

order_said : (y : Watched) → WordOrder y → Fillers y → AllHold (order y)
order_said y w f = w.sending also w.receiving also w.mark also w.stale also f.same also f.low also none

some : (n : ℕ) → (n ≡ 0 → ⊥) → 1 ≤ n
some n h = omega arith

idles_said : (x : Watched) (c : Call) → (x.now.settings.spien ≡ true → stops_between_words x.now.settings ≡ true → FallsIdle x) →
    ClockSteps x.now → AllHold (idles x c (perform_of x.now c) (watched_call x c) c)
idles_said x (Read register) f s = none
idles_said x (Write register v) f s = none
idles_said x (Tick sdi ss) f s =
    let as_owed : x.now.settings.spien ≡ true → stops_between_words x.now.settings ≡ true →
    (said_of (perform_of x.now (Tick sdi ss)).answer).kind ≡ (when eqb (edges_still_owed x) 0 then 3 else 4) =
    λ on own.
    by_test (eqb (edges_still_owed x) 0)
    (λ e. ap (λ (a : Answer). (said_of a).kind) (((f on own).idle (eqb-true (edges_still_owed x) 0 e)).no_edge sdi ss) ∙ sym (if_true (eqb (edges_still_owed x) 0) 3 4 e))
    (λ e.
    ap (λ (a : Answer). (said_of a).kind) ((f on own).busy (some (edges_still_owed x) (eqb-false (edges_still_owed x) 0 e)) sdi ss)
    ∙ sym (if_false (eqb (edges_still_owed x) 0) 3 4 e)) in
    as_owed also none
idles_said x (Pin sck sdi ss) f s = none
idles_said x (ClockStep sck sdi ss) f s =
    let as_owed : x.now.settings.spien ≡ true → stops_between_words x.now.settings ≡ true →
    is_done (perform_of x.now (ClockStep sck sdi ss)).answer ≡ not (eqb (edges_still_owed x) 0) =
    λ on own.
    (s.tick (and_left (clocks_itself x.now.settings.con1) _ own) sck sdi ss).1
    ∙ by_test (eqb (edges_still_owed x) 0)
    (λ e. ap is_edge (((f on own).idle (eqb-true (edges_still_owed x) 0 e)).no_edge sdi ss) ∙ sym (ap not e))
    (λ e. ap is_edge ((f on own).busy (some (edges_still_owed x) (eqb-false (edges_still_owed x) 0 e)) sdi ss) ∙ sym (ap not e)) in
    as_owed also none
idles_said x Clear f s = none

-- The last edge of a word, of any record.
abbrev pub last_edges : Module → Module → List Claim
last_edges m after =
    number (length (unread_in after)) (length (unread_in m) + bool_byte (not (drops m)))
    ∷ level after.engine.spirov (m.engine.spirov || drops m)
    ∷ level after.engine.receive.marked (m.engine.receive.marked || (drops m && m.settings.con2.spiben))
    ∷ []

pub last_said : (m after : Module) → LastEdge m after → AllHold (last_edges m after)
last_said m after h = h.unread also h.spirov also h.mark also none

-- All that the page says at a call. A framed module that is enabled has the claims of frames besides.
unfoldable pub unless : Bool → List Claim → Bool
unless b ks = not b || all_judged ks

unfoldable pub judged : Watched → Call → Outcome → Watched → Bool
judged x c o y =
    all_judged (answers x c o y)
    && (all_judged (changes x c o y)
    && (all_judged (reads y)
    && (all_judged (pins y)
    && (unless y.now.settings.spien (order y)
    && (all_judged (idles x c o y c)
    && (unless (x.now.settings.spien && gives_pulses x.now.settings) (host_frames x c o y)
    && (unless (x.now.settings.spien && takes_pulses x.now.settings) (client_frames x c o y)
    && unless ((x.now.settings.spien && x.now.settings.con2.frmen) && (not (is_quiet x.ledger.wire) && y.now.settings.spien))
    (whole x c o y ∷ []))))))))

unless_said : (b : Bool) (ks : List Claim) → (b ≡ true → AllHold ks) → unless b ks ≡ true
unfolding unless
unless_said true ks h = all_judged_lem (h refl)
unless_said false ks h = refl

-- The tests at every call of a list. What is seen of a call and its ledger are handed on as arguments too.
unfoldable pub told_of_lem : Watched → Call → (Watched → Bool) → Outcome → Watched → Bool
told_of_lem x c rest o y = judged x c o y && rest y

unfoldable pub entered_as : Watched → Call → (Watched → Bool) → Outcome → Sight → Ledger → Bool
entered_as x c rest o v l =
    told_of_lem x c rest o (record { now = o.after; memory = memory_after x.memory v (not (is_quiet l.wire)) c; ledger = l })

unfoldable pub seen_as : Watched → Call → (Watched → Bool) → Outcome → Sight → Bool
seen_as x c rest o v =
    entered_as x c rest o v
    (entered (terms x.now.settings) (entry_of x.memory v (not (is_quiet x.ledger.wire)) (edges_given x.ledger.wire) c) x.ledger)

unfoldable pub made : Watched → Call → (Watched → Bool) → Outcome → Bool
made x c rest o =
    seen_as x c rest o
    (record { settings = x.now.settings; sdo = x.now.engine.pins.sdo; answer = o.answer; shown = shows_pulse o.after })

unfoldable pub run : List Call → Watched → Bool
run [] x = true
run (c ∷ cs) x = made x c (run cs) (perform_of x.now c)

-- A call more.
life_on : (x : Watched) (cs : List Call) (c : Call) → watched_calls x (cs ++ (c ∷ [])) ≡ watched_call (watched_calls x cs) c
life_on x [] c = refl
life_on x (d ∷ ds) c = life_on (watched_call x d) ds c

-- The page at one call, after any sequence.
module _ (p : OneModule) (b : Beginning) where
  page_judged : (cs : List Call) (c : Call) →
      judged (life b cs) c (perform_of (life b cs).now c) (watched_call (life b cs) c) ≡ true
  unfolding judged
  page_judged cs c =
      let x : Watched = life b cs in
      let y : Watched = watched_call x c in
      let later : life b (cs ++ (c ∷ [])) ≡ y = life_on (begins b) cs c in
      let on : (x.now.settings.spien && x.now.settings.con2.frmen) ≡ true → FramesHold x =
      λ e. p.frames_hold b cs (and_left x.now.settings.spien _ e) (and_right x.now.settings.spien _ e) in
      let framed : (other : Bool) → (x.now.settings.spien && (x.now.settings.con2.frmen && other)) ≡ true → FramesHold x =
      λ other e.
      p.frames_hold b cs (and_left x.now.settings.spien _ e)
      (and_left x.now.settings.con2.frmen _ (and_right x.now.settings.spien _ e)) in
      and_both _ _ (all_judged_lem (answers_said p.answered x c))
      (and_both _ _ (all_judged_lem (changes_said x c (p.call_changes b cs c)))
      (and_both _ _ (all_judged_lem (reads_said y (subst ReadsShow later (p.reads_show b (cs ++ (c ∷ []))))))
      (and_both _ _ (all_judged_lem (pins_said y (subst PinsShow later (p.pins_show b (cs ++ (c ∷ []))))))
      (and_both _ _
      (unless_said y.now.settings.spien (order y)
      (λ e.
      let at : (z : Watched) → z ≡ y → z.now.settings.spien ≡ true = λ z same. ap (λ (w : Watched). w.now.settings.spien) same ∙ e in
      order_said y (subst WordOrder later (p.word_order b (cs ++ (c ∷ [])) (at _ later)))
      (subst Fillers later (p.fillers b (cs ++ (c ∷ [])) (at _ later)))))
      (and_both _ _ (all_judged_lem (idles_said x c (λ up own. p.falls_idle b cs up own) (p.clock_steps x.now)))
      (and_both _ _
      (unless_said _ (host_frames x c (perform_of x.now c) y)
      (λ e. host-said x c ((framed (not x.now.settings.con2.spifsd) e).host (and_right x.now.settings.spien _ e) c)))
      (and_both _ _
      (unless_said _ (client_frames x c (perform_of x.now c) y)
      (λ e. client-said x c ((framed x.now.settings.con2.spifsd e).client (and_right x.now.settings.spien _ e) c)))
      (unless_said _ (whole x c (perform_of x.now c) y ∷ [])
      (λ e.
      let under : (not (is_quiet x.ledger.wire) && y.now.settings.spien) ≡ true =
      and_right (x.now.settings.spien && x.now.settings.con2.frmen) _ e in
      ((on (and_left (x.now.settings.spien && x.now.settings.con2.frmen) _ e)).each c).whole
      (not-true (is_quiet x.ledger.wire) (and_left (not (is_quiet x.ledger.wire)) _ under))
      (and_right (not (is_quiet x.ledger.wire)) _ under)
      also none)))))))))

-- Every run from there.
run_true : (x : Watched) →
    ((cs : List Call) (c : Call) →
    judged (watched_calls x cs) c (perform_of (watched_calls x cs).now c) (watched_call (watched_calls x cs) c) ≡ true) →
    (cs : List Call) → run cs x ≡ true
unfolding run made seen_as entered_as told_of_lem
run_true x h [] = refl
run_true x h (c ∷ cs) = and_both _ _ (h [] c) (run_true (watched_call x c) (λ ds d. h (c ∷ ds) d) cs)

-- If the page holds, every run from every beginning is true.
pub page_runs : OneModule → (b : Beginning) (cs : List Call) → run cs (begins b) ≡ true
page_runs p b = run_true (begins b) (page_judged p b)
