-- Frames of an enabled framed module (module_rules, specs/Frames.antt), whatever its life was.
--     frames_hold_lem           each call, a frame host's call, a frame client's call, and that words follow on
--     enabling_shows_none   enabling leaves SS without a pulse
-- Assumes nothing.
use Rattle.std.specs.Prelude.{◌+◌, ◌*◌, ◌-◌, ◌%◌, ◌≤◌, ◌&&◌, ◌||◌, ◌∷◌, ◌≡◌}
use Rattle.laws.proofs.Common.{ℕ, Bool, true, false, not, or-false, or-true, Bool·beq}
use Rattle.laws.proofs.Common.{and-true, Bool·not-not, List, [], refl, sym, ap, ap₂, ◌∙◌, arith, le-leb, lt-leb}
use Rattle.laws.proofs.Common.{ltb-true, ltb-false, eq-eqb, ne_eqb, eqb-true, eqb-false, not-true, not-false, eqb, ltb, leb}
use Rattle.laws.proofs.Common.{length, length-append, when◌then◌else◌, if_true, if_false, clash, by_test, and_left, and_right}
use Rattle.laws.proofs.Common.{and_both, and_first, and-false}
use mathlib.Core.Bool.{and-not_self, and_assoc}
use Rattle.word_order.specs.Ledger.{Wire, quiet, busy, is_quiet, Passed, unmarked, Ledger, sent, left_to_send, edges_given, unsent, carries_filler}
use Rattle.word_order.specs.Port.{edges_under}
use Rattle.word_order.proofs.Order.{TiedAll}
use Rattle.word_order.proofs.Tied.{Tied}
use Rattle.module_rules.proofs.Types.{Con1, Con2, Settings, Engine, Module, Outcome, Shift, Free, Loaded, Begun, Call}
use Rattle.module_rules.specs.Settings.{width_of, framed, frame_host, frame_client, silent, ssen_client, depth_of}
use Rattle.module_rules.specs.Registers.{is_free, stat_settings, enabled_engine}
use Rattle.module_rules.specs.Buffers.{empty}
use Rattle.module_rules.specs.Edge.{pulse_due}
use Rattle.module_rules.specs.Calls.{answering, clear_of, perform_of, sck_of}
use Rattle.module_rules.specs.Words.{unfinished}
use Rattle.module_rules.specs.Invariant.{ShiftHolds, PulseFits}
use Rattle.module_rules.specs.Watch.{terms, Watched, watched_call, watched_calls, shows_pulse, way_of, ours}
use Rattle.module_rules.specs.Frames.{edge_made, to_idle, transmit_edge, word_begins, starts_pulse, ends_pulse, pulse_expected, ss_told, Still, FramedCall, FrameHostCall, FrameClientCall, NextEdge, next}
use Rattle.module_rules.specs.Demands.{FramesHold, sends_filler}
use Rattle.module_rules.specs.Loading.{is_begun}
use Rattle.module_rules.specs.Pulses.{started_by}
use Rattle.module_rules.proofs.Sizes.{width_eight}
use Rattle.module_rules.proofs.BuffersOrder.{waiting_length}
use Rattle.module_invariant.proofs.Pulse.{framed_no_client}
use Rattle.module_invariant.proofs.CallsWhen.{not_unlike, tick_is}
use Rattle.module_invariant.proofs.Pulses.{shows_pulse_lem, shows_none}
use Rattle.module_invariant.proofs.CallCases.{call_cases}
use Rattle.module_invariant.proofs.Sampling.{beq_high, beq_low}
use Rattle.module_order.proofs.Order.{Lives, lives_on, ours_owes}
use Rattle.module_order.proofs.Ports.{port_of}
use Rattle.module_frames.proofs.Calls.{Carried, Does, Edges, Same, Stays, call_does, lives_carried, stays, edges}

-- Levels.
beq_same : (a : Bool) → Bool·beq a a ≡ true
beq_same true = refl
beq_same false = refl

-- Where a first part is true and what the second denies is known.
and_right_of : {a b k : Bool} → a ≡ true → b ≡ not k → (a && not b) ≡ k
and_right_of {k = k} e f = rw (e, f) (Bool·not-not k)

-- When a word of a frame host begins, by the pulses.
host_begins_law : (idle pulse shown left dly : Bool) → (dly ≡ true → pulse ≡ false) →
    (dly ≡ true → idle ≡ false → shown ≡ true → left ≡ true) → (dly ≡ false → pulse ≡ true → left ≡ true) →
    (dly ≡ false → idle ≡ false → pulse ≡ true → shown ≡ false) →
    (not idle && ((when dly then shown else pulse) && left))
    ≡ (not idle && (when dly then not pulse && shown else pulse && not shown))
unfolding when◌then◌else◌
host_begins_law true pulse shown left dly a b c d = refl
host_begins_law false pulse true left true a b c d = b refl refl refl ∙ sym (ap (λ (p : Bool). not p && true) (a refl))
host_begins_law false pulse false left true a b c d = sym (ap (λ (p : Bool). not p && false) (a refl))
host_begins_law false true shown left false a b c d = c refl refl ∙ sym (ap not (d refl refl refl))
host_begins_law false false shown left false a b c d = refl

-- Words left to send.
left_law : (a b : ℕ) → not (ltb b a) ≡ eqb (a - b) 0
left_law a b =
    by_test (ltb b a)
    (λ e. ap not e ∙ sym (ne_eqb (a - b) 0 (λ z. omega (arith, ltb-true b a e, z))))
    (λ e. ap not e ∙ sym (eq-eqb (a - b) 0 (omega (arith, ltb-false b a e))))

quiet_none : (w : Wire) → is_quiet w ≡ true → edges_given w ≡ 0
quiet_none quiet e = refl
quiet_none (busy w) e = clash false e refl

-- What the shift register says of the word under way.
module _ (s : Settings) (n : Engine) where
  -- A word under way has been given an edge.
  started : (sh : Shift) → ShiftHolds s n sh → is_begun sh ≡ true → 1 ≤ edges_under (way_of sh)
  started Free h b = clash false b refl
  started (Loaded word) h b = clash false b refl
  started (Begun p) h b = h.started

  -- The clock stands where the edges given left it.
  clock-at : (sh : Shift) → ShiftHolds s n sh → is_begun sh ≡ true →
      n.pins.sck ≡ Bool·beq s.con1.ckp (eqb (edges_under (way_of sh) % 2) 0)
  clock-at Free h b = clash false b refl
  clock-at (Loaded word) h b = clash false b refl
  clock-at (Begun p) h b = h.clock

  -- A frame host's word is no filler.
  filler-none : silent s ≡ true → (sh : Shift) → ShiftHolds s n sh → sends_filler sh ≡ false
  filler-none quietly Free h = refl
  filler-none quietly (Loaded word) h = refl
  filler-none quietly (Begun p) h = h.host quietly

  module _ (host : frame_host s ≡ true) where
    fsd-off : s.con2.spifsd ≡ false
    fsd-off = not-true s.con2.spifsd (and_right (framed s) _ host)

    -- A frame host's pulse between words: FRMDLY 0, and a word is loaded.
    between : (sh : Shift) → PulseFits s n sh → is_begun sh ≡ false →
        (s.con2.frmdly ≡ false) × (1 ≤ length (unfinished s sh))
    between Free h q = clash s.con2.spifsd (and_right (framed s) _ h) fsd-off
    between (Loaded word) h q =
        (by_test s.con2.frmdly (λ d. clash s.con2.spifsd (h.1 d) fsd-off) (λ d. d), omega arith)
    between (Begun p) h q = clash true refl q

    -- A frame host's pulse within a word, with FRMDLY 0: after edge 2w-1.
    within : s.con2.frmdly ≡ false → (sh : Shift) → PulseFits s n sh → is_begun sh ≡ true →
        edges_under (way_of sh) + 1 ≡ 2 * width_of s
    within early Free h b = clash false b refl
    within early (Loaded word) h b = clash false b refl
    within early (Begun p) h b = (h.2 early).0

  -- A frame client has no pulse within a word.
  client-between : s.con2.spifsd ≡ true → (sh : Shift) → PulseFits s n sh → is_begun sh ≡ false
  client-between fsd Free h = refl
  client-between fsd (Loaded word) h = refl
  client-between fsd (Begun p) h =
      clash s.con2.spifsd fsd (not-true s.con2.spifsd (and_right (framed s) _ h.0))

-- An odd number of edges leaves the clock at the active level, and the next edge goes to the idle one.
odd_active : (ckp : Bool) (k w : ℕ) → k + 1 ≡ 2 * w → Bool·beq ckp (eqb (k % 2) 0) ≡ not ckp
odd_active ckp k w e = ap (Bool·beq ckp) (ne_eqb (k % 2) 0 (λ z. omega (arith, e, z))) ∙ beq_low ckp

even_idle : (ckp : Bool) (k w : ℕ) → k + 2 ≡ 2 * w → Bool·beq ckp (eqb (k % 2) 0) ≡ ckp
even_idle ckp k w e = ap (Bool·beq ckp) (eq-eqb (k % 2) 0 (omega (arith, e))) ∙ beq_high ckp

-- The words accepted and not sent are those that the engine still has.
counted_unsent : (s : Settings) (n : Engine) (l : Ledger) → Tied (terms s) (port_of s n) l →
    unsent l ≡ length (unfinished s n.shift) + n.transmit.count
counted_unsent s n l t =
    let all : length l.accepted ≡ length (sent l) + (length (unfinished s n.shift) + n.transmit.count) =
    ap length t.sending
    ∙ length-append (sent l) _
    ∙ ap (λ (k : ℕ). length (sent l) + k)
    (length-append (unfinished s n.shift) _
    ∙ ap (λ (k : ℕ). length (unfinished s n.shift) + k) (waiting_length (depth_of s) n.transmit)) in
    omega (arith, all)

-- The pulse expected, with nothing under way or something, the edges given to it, and the words left to send.
abbrev expected_with : Settings → Bool → ℕ → ℕ → Bool
expected_with s none k left =
    when s.con2.frmdly then eqb k 1
    else (none && leb 1 left) || (eqb (k + 1) (2 * width_of s) && leb 2 left)

-- The pulse that is due is the one expected.
module _ (s : Settings) (n : Engine) (l : Ledger) (t : Tied (terms s) (port_of s n) l) (host : frame_host s ≡ true) where
  due_expected : (sh : Shift) → n.shift ≡ sh → ShiftHolds s n sh →
      pulse_due s n.transmit.count sh ≡ expected_with s (not (is_begun sh)) (edges_under (way_of sh)) (unsent l)
  unfolding pulse_due when◌then◌else◌
  due_expected Free e h =
      let out : ssen_client s ≡ false = framed_no_client s (and_left (framed s) _ host) in
      let none : unsent l ≡ 0 =
      omega (arith, counted_unsent s n l t, ap (λ (x : Shift). length (unfinished s x)) e, h.0 out) in
      by_test s.con2.frmdly (λ d. cc)
      (λ d. cc (lt-leb 1 (unsent l) (omega arith), ne_eqb 1 (2 * width_of s) (λ z. omega (arith, z))))
  due_expected (Loaded word) e h =
      let some : 1 ≤ unsent l =
      omega (arith, counted_unsent s n l t, ap (λ (x : Shift). length (unfinished s x)) e) in
      by_test s.con2.frmdly (λ d. cc) (λ d. cc (le-leb 1 (unsent l) some))
  due_expected (Begun p) e h =
      let quietly : silent s ≡ true = if_true (framed s) _ _ (and_left (framed s) _ host) ∙ and_right (framed s) _ host in
      let out : ssen_client s ≡ false = framed_no_client s (and_left (framed s) _ host) in
      let one : length (unfinished s (Begun p)) ≡ 1 = cc (h.host quietly) in
      let all : unsent l ≡ 1 + n.transmit.count = cc (counted_unsent s n l t, one) in
      by_test s.con2.frmdly (λ d. cc) (λ d. cc (further n.transmit.count (unsent l) all))
    where
      further : (k u : ℕ) → u ≡ 1 + k → not (empty k) ≡ leb 2 u
      further k u e =
          by_test (empty k)
          (λ z. ap not z ∙ sym (lt-leb 2 u (omega (arith, e, eqb-true k 0 z))))
          (λ z. ap not z ∙ sym (le-leb 2 u (some k u e (eqb-false k 0 z))))
        where
          some : (k u : ℕ) → u ≡ 1 + k → (k ≡ 0 → ⊥) → 2 ≤ u
          some k u e z = omega arith

-- What the settings that count for frames decide is as it was.
same_in : {A : Type 0} (f : Con1 → Con2 → A) {s r : Settings} → Same s r → f r.con1 r.con2 ≡ f s.con1 s.con2
same_in f k = ap₂ f k.con1 k.con2

host_same : {s r : Settings} → Same s r → frame_host s ≡ true → frame_host r ≡ true
host_same k h = same_in (λ c d. d.frmen && not d.spifsd) k ∙ h

-- An edge keeps the settings.
edge_same : (x : Watched) (c : Call) → Edges x c → Same x.now.settings (watched_call x c).now.settings
edge_same x c r =
    record { con1 = ap (λ (q : Settings). q.con1) r.settings; con2 = ap (λ (q : Settings). q.con2) r.settings }

module _ (x : Watched) (v : Lives x) (on : x.now.settings.spien ≡ true) (f : framed x.now.settings ≡ true) (c : Call) where
  abbrev s : Settings
  s = x.now.settings

  abbrev n : Engine
  n = x.now.engine

  abbrev l : Ledger
  l = x.ledger

  abbrev y : Watched
  y = watched_call x c

  tied : TiedAll ours ours_owes x
  tied = v.tied on

  -- The word on the wire is the begun one.
  carried : Carried n.shift l.wire
  carried = lives_carried x v on

  none-begun : is_quiet l.wire ≡ true → is_begun n.shift ≡ false
  none-begun q = not-true (is_begun n.shift) (sym carried.quiet ∙ q)

  one-begun : is_quiet l.wire ≡ false → is_begun n.shift ≡ true
  one-begun b = not-false (is_begun n.shift) (sym carried.quiet ∙ b)

  -- Whether an edge was made.
  stays-unmade : Stays x c → edge_made x c ≡ false
  unfolding sck_of
  stays-unmade r =
      and-false (s.spien && y.now.settings.spien) _
      (ap (λ (b : Bool). not (Bool·beq b n.pins.sck)) r.clock ∙ ap not (beq_same n.pins.sck))

  stays-quietly : Stays x c → transmit_edge x c ≡ false
  stays-quietly r = and_first (edge_made x c) _ (stays-unmade r)

  on-after : Edges x c → y.now.settings.spien ≡ true
  on-after r = ap (λ (q : Settings). q.spien) r.settings ∙ on

  edges_made_lem : Edges x c → edge_made x c ≡ true
  unfolding sck_of
  edges_made_lem r =
      and_both (s.spien && y.now.settings.spien) _ (and_both s.spien _ on (on-after r))
      (ap (λ (b : Bool). not (Bool·beq b n.pins.sck)) r.clock ∙ ap not (not_unlike n.pins.sck))

  edges-transmit : Edges x c → transmit_edge x c ≡ not (to_idle x c)
  edges-transmit r = ap (λ (b : Bool). b && not (to_idle x c)) (edges_made_lem r)

  -- Nothing begins without an edge.
  stays-begins-none : Stays x c → word_begins x c ≡ false
  stays-begins-none r = ap (λ (w : Wire). is_quiet l.wire && not (is_quiet w)) r.wire ∙ and-not_self (is_quiet l.wire)

  -- A word under way is given every edge, to its last.
  whole_of : Does x c → is_quiet l.wire ≡ false →
      edges_given y.ledger.wire
      ≡ (when edge_made x c
      then (when eqb (edges_given l.wire + 1) (2 * width_of s) then 0 else edges_given l.wire + 1)
      else edges_given l.wire)
  whole_of (stays r) b = ap edges_given r.wire ∙ sym (if_false (edge_made x c) _ _ (stays-unmade r))
  whole_of (edges r) b = r.noted.goes b ∙ sym (if_true (edge_made x c) _ _ (edges_made_lem r))

  pub framed_call : FramedCall x c
  unfolding answering
  framed_call =
      record {
        runs_on = λ own sdi ss.
            ap (λ (o : Outcome). o.answer)
            (tick_is x.now sdi ss on own (ap (λ (b : Bool). not b && is_free n.shift) f));
        whole = λ b still. whole_of (call_does x v on f c) b;
      }

  -- An edge with nothing under way.
  edge-begins : Edges x c → is_quiet l.wire ≡ true →
      is_quiet y.ledger.wire
      ≡ not (not (to_idle x c) && (started_by s x.memory.pulse (shows_pulse y.now) && (left_to_send l || not (silent s))))
  unfolding sck_of
  edge-begins r q =
      r.noted.begins q ∙ ap not (and_assoc (not (to_idle x c)) (started_by s x.memory.pulse (shows_pulse y.now)) _)

  left_is : not (left_to_send l) ≡ eqb (unsent l) 0
  unfolding left_to_send
  left_is = left_law (length l.accepted) (length (sent l))

  some_left : 1 ≤ unsent l → left_to_send l ≡ true
  some_left some = not-false (left_to_send l) (left_is ∙ ne_eqb (unsent l) 0 (λ z. omega (arith, z, some)))

  module _ (host : frame_host s ≡ true) where
    fsd : s.con2.spifsd ≡ false
    fsd = fsd-off s n host

    quietly : silent s ≡ true
    quietly = if_true (framed s) _ _ f ∙ and_right (framed s) _ host

    -- SS shows the pulse of the ledger, before the call and after it.
    shows_before : shows_pulse x.now ≡ x.memory.pulse
    shows_before = shows_pulse_lem x.now on host ∙ sym tied.recalls.pulse

    shows-after : Same s y.now.settings → y.now.settings.spien ≡ true → shows_pulse y.now ≡ y.memory.pulse
    shows-after k up = shows_pulse_lem y.now up (host_same k host) ∙ sym ((lives_on x c v).tied up).recalls.pulse

    -- At a transmit edge SS is as expected.
    expected : Edges x c → to_idle x c ≡ false → shows_pulse y.now ≡ pulse_expected s y.ledger
    expected r away =
        let up : y.now.settings.spien ≡ true = on-after r in
        let w : Lives y = lives_on x c v in
        let later : Carried y.now.engine.shift y.ledger.wire = lives_carried y w up in
        shows_pulse_lem y.now up (host_same (edge_same x c r) host)
        ∙ r.given host
        ∙ if_false (to_idle x c) _ _ away
        ∙ ap (λ (q : Settings). pulse_due q y.now.engine.transmit.count y.now.engine.shift) (sym r.settings)
        ∙ due_expected y.now.settings y.now.engine y.ledger (w.tied up).words (host_same (edge_same x c r) host)
        y.now.engine.shift refl
        w.holds.holds.shift
        ∙ ap₂ (λ (b : Bool) (k : ℕ). expected_with y.now.settings b k (unsent y.ledger)) (sym later.quiet) (sym later.edges)
        ∙ ap (λ (q : Settings). pulse_expected q y.ledger) r.settings

    -- SS after any call.
    pulse-of : Does x c →
        shows_pulse y.now
        ≡ (when transmit_edge x c then pulse_expected s y.ledger else y.now.settings.spien && shows_pulse x.now)
    unfolding when◌then◌else◌
    pulse-of (stays r) =
        rw (stays-quietly r)
        (by_test y.now.settings.spien
        (λ up. shows-after r.same up ∙ r.pulse ∙ sym (shows_before) ∙ sym (ap (λ (b : Bool). b && shows_pulse x.now) up))
        (λ down.
        shows_none y.now (and_first y.now.settings.spien _ down)
        ∙ sym (and_first y.now.settings.spien _ down)))
    pulse-of (edges r) =
        rw (edges-transmit r)
        (by_test (to_idle x c)
        (λ idle.
        rw idle
        (shows_pulse_lem y.now (on-after r) (host_same (edge_same x c r) host)
        ∙ rw idle at (r.given host)
        ∙ sym (shows_pulse_lem x.now on host)
        ∙ sym (ap (λ (b : Bool). b && shows_pulse x.now) (on-after r))))
        (λ away. rw away (expected r away)))

    -- A standing pulse, and what it says.
    fits : x.memory.pulse ≡ true → PulseFits s n n.shift
    fits stands = v.holds.pulse on (sym tied.recalls.pulse ∙ stands)

    -- When a word begins with nothing under way, in the ledger's words.
    host-starts : (started_by s x.memory.pulse (shows_pulse y.now) && (left_to_send l || not (silent s)))
        ≡ ((when s.con2.frmdly then shows_pulse y.now else x.memory.pulse) && left_to_send l)
    unfolding when◌then◌else◌
    host-starts = rw (f, fsd, or-false)

    quiet-begins : (r : Edges x c) → is_quiet l.wire ≡ true →
        is_quiet y.ledger.wire
        ≡ not (not (to_idle x c) && ((when s.con2.frmdly then shows_pulse y.now else x.memory.pulse) && left_to_send l))
    quiet-begins r q = edge-begins r q ∙ ap (λ (b : Bool). not (not (to_idle x c) && b)) host-starts

    -- A pulse between words is one for a word that is left to send.
    left-when : is_quiet l.wire ≡ true → x.memory.pulse ≡ true → left_to_send l ≡ true
    left-when q stands =
        some_left
        (omega (arith, counted_unsent s n l tied.words, (between s n host n.shift (fits stands) (none-begun q)).1))

    -- The pulse of a transmit edge, by the word on the wire after it.
    shown-with : (r : Edges x c) → s.con2.frmdly ≡ true → to_idle x c ≡ false →
        shows_pulse y.now ≡ eqb (edges_given y.ledger.wire) 1
    shown-with r dly away = expected r away ∙ if_true s.con2.frmdly _ _ dly

    shown-before : (r : Edges x c) → s.con2.frmdly ≡ false → to_idle x c ≡ false → is_quiet y.ledger.wire ≡ false →
        edges_given y.ledger.wire ≡ 1 → shows_pulse y.now ≡ false
    unfolding when◌then◌else◌
    shown-before r early away begun one =
        expected r away
        ∙ rw (begun, ne_eqb (edges_given y.ledger.wire + 1) (2 * width_of s) (λ z. omega (arith, z, one, width_eight s)), early)

    -- The level that an edge goes to.
    away-from : Edges x c → n.pins.sck ≡ s.con1.ckp → to_idle x c ≡ false
    unfolding sck_of
    away-from r at = rw (r.clock, at) (not_unlike s.con1.ckp)

    back_to : Edges x c → n.pins.sck ≡ not s.con1.ckp → to_idle x c ≡ true
    unfolding sck_of
    back_to r at = rw (r.clock, at, Bool·not-not) (beq_same s.con1.ckp)

    -- A word under way has been given an edge, so that the next one is not its first; and the edge that ends a pulse
    -- within it, FRMDLY 0, goes to the idle level.
    not_first : Edges x c → is_quiet l.wire ≡ false → edges_given y.ledger.wire ≡ 1 → ⊥
    unfolding when◌then◌else◌
    not_first r b one =
        let once : 1 ≤ edges_given l.wire =
        omega (arith, carried.edges, started s n n.shift v.holds.holds.shift (one-begun b)) in
        by_test (eqb (edges_given l.wire + 1) (2 * width_of s))
        (λ e. omega (arith, one, rw e at (r.noted.goes b)))
        (λ e. omega (arith, once, one, rw e at (r.noted.goes b)))

    then-idle : Edges x c → s.con2.frmdly ≡ false → x.memory.pulse ≡ true → is_quiet l.wire ≡ false → to_idle x c ≡ true
    then-idle r early stands b =
        back_to r
        (clock-at s n n.shift v.holds.holds.shift (one-begun b)
        ∙ odd_active s.con1.ckp (edges_under (way_of n.shift)) (width_of s)
        (within s n host early n.shift (fits stands) (one-begun b)))

    -- A word begins exactly at the edge that ends a pulse, or starts one.
    begins-of : Does x c →
        word_begins x c ≡ (transmit_edge x c && (when s.con2.frmdly then starts_pulse x c else ends_pulse x c))
    unfolding when◌then◌else◌
    begins-of (stays r) = stays-begins-none r ∙ sym (and_first (transmit_edge x c) _ (stays-quietly r))
    begins-of (edges r) =
        by_test (is_quiet l.wire)
        (λ q.
        rw (edges-transmit r, shows_before)
        (and_right_of q (quiet-begins r q)
        ∙ host_begins_law (to_idle x c) x.memory.pulse (shows_pulse y.now) (left_to_send l) s.con2.frmdly
        (λ dly.
        by_test x.memory.pulse
        (λ stands. clash s.con2.frmdly dly (between s n host n.shift (fits stands) (none-begun q)).0)
        (λ none. none))
        (λ dly away shown.
        by_test (left_to_send l) (λ e. e)
        (λ e.
        let still : is_quiet y.ledger.wire ≡ true = quiet-begins r q ∙ rw (away, shown, e, dly) in
        clash (shows_pulse y.now) shown (shown-with r dly away ∙ ap (λ (k : ℕ). eqb k 1) (quiet_none y.ledger.wire still))))
        (λ early stands. left-when q stands)
        (λ early away stands.
        let begun : is_quiet y.ledger.wire ≡ false = quiet-begins r q ∙ rw (away, stands, left-when q stands, early) in
        shown-before r early away begun (r.noted.first q begun).0)))
        (λ b.
        rw (edges-transmit r)
        (and_first (is_quiet l.wire) _ b
        ∙ by_test (to_idle x c) (λ idle. sym (and_first (not (to_idle x c)) _ (ap not idle)))
        (λ away.
        sym (and-false (not (to_idle x c)) _
        (by_test s.con2.frmdly
        (λ dly.
        if_true s.con2.frmdly _ _ dly
        ∙ and-false (not (shows_pulse x.now)) _
        (shown-with r dly away ∙ ne_eqb (edges_given y.ledger.wire) 1 (not_first r b)))
        (λ early.
        if_false s.con2.frmdly _ _ early
        ∙ and_first (shows_pulse x.now) _
        (shows_before ∙ by_test x.memory.pulse (λ stands. clash (to_idle x c) (then-idle r early stands b) away)
        (λ none. none))))))))

    -- How words follow on: an edge at a time.
    busy-near : (k : ℕ) → edges_given l.wire + k ≡ 2 * width_of s → k ≤ 2 → is_quiet l.wire ≡ false
    busy-near k near few =
        by_test (is_quiet l.wire)
        (λ q. absurd (omega (arith, quiet_none l.wire q, near, few, width_eight s)))
        (λ b. b)

    wire-clock : is_quiet l.wire ≡ false → n.pins.sck ≡ Bool·beq s.con1.ckp (eqb (edges_given l.wire % 2) 0)
    wire-clock b = cc (clock-at s n n.shift v.holds.holds.shift (one-begun b), carried.edges)

    -- Edge 2w-1 with a further word to send, FRMDLY 0: SS shows its pulse.
    pulse-early : (r : Edges x c) → s.con2.frmdly ≡ false → edges_given l.wire + 2 ≡ 2 * width_of s → 2 ≤ unsent l →
        (edges_given y.ledger.wire + 1 ≡ 2 * width_of s)
        × (y.memory.pulse ≡ true)
        × (y.now.engine.pins.sck ≡ not s.con1.ckp)
    unfolding when◌then◌else◌
    pulse-early r early near more =
        let under : is_quiet l.wire ≡ false = busy-near 2 near (omega arith) in
        let short : eqb (edges_given l.wire + 1) (2 * width_of s) ≡ false =
        ne_eqb (edges_given l.wire + 1) (2 * width_of s) (λ z. omega (arith, z, near)) in
        let goes : edges_given y.ledger.wire ≡ edges_given l.wire + 1 =
        rw short at (r.noted.goes under) in
        let on-it : is_quiet y.ledger.wire ≡ false = r.noted.ends under ∙ short in
        let clock : n.pins.sck ≡ s.con1.ckp =
        wire-clock under ∙ even_idle s.con1.ckp (edges_given l.wire) (width_of s) near in
        let unsent-still : unsent y.ledger ≡ unsent l =
        cc (r.noted.accepted, r.noted.departures (and-false (not (is_quiet l.wire)) _ on-it)) in
        let last : eqb (edges_given y.ledger.wire + 1) (2 * width_of s) ≡ true =
        eq-eqb (edges_given y.ledger.wire + 1) (2 * width_of s) (omega (arith, goes, near)) in (
          omega (arith, goes, near),
          sym (shows-after (edge_same x c r) (on-after r))
              ∙ expected r (away-from r clock)
              ∙ rw (on-it, last, le-leb 2 (unsent y.ledger) (omega (arith, unsent-still, more)), early),
          r.clock ∙ ap not clock,
        )

    -- Edge 2w: the wire is quiet, the clock idle, and a pulse goes on.
    word-ends : (r : Edges x c) → edges_given l.wire + 1 ≡ 2 * width_of s →
        (is_quiet y.ledger.wire ≡ true)
        × (y.now.engine.pins.sck ≡ s.con1.ckp)
        × (x.memory.pulse ≡ true → y.memory.pulse ≡ true)
    unfolding when◌then◌else◌
    word-ends r near =
        let under : is_quiet l.wire ≡ false = busy-near 1 near (omega arith) in
        let clock : n.pins.sck ≡ not s.con1.ckp =
        wire-clock under ∙ odd_active s.con1.ckp (edges_given l.wire) (width_of s) near in (
          r.noted.ends under ∙ eq-eqb (edges_given l.wire + 1) (2 * width_of s) near,
          r.clock ∙ ap not clock ∙ Bool·not-not s.con1.ckp,
          (λ stands.
              sym (shows-after (edge_same x c r) (on-after r))
              ∙ pulse-of (edges r)
              ∙ rw (edges-transmit r, back_to r clock)
              (and_both y.now.settings.spien _ (on-after r) (shows_before ∙ stands))),
        )

    -- The edge after it begins the next word: FRMDLY 0 by the pulse that stands, FRMDLY 1 if a word is there.
    begins-before : (r : Edges x c) → s.con2.frmdly ≡ false → is_quiet l.wire ≡ true → x.memory.pulse ≡ true →
        n.pins.sck ≡ s.con1.ckp → word_begins x c ≡ true
    unfolding when◌then◌else◌
    begins-before r early q stands at =
        and_right_of q (quiet-begins r q ∙ rw (away-from r at, stands, left-when q stands, early))

    -- With FRMDLY 1 a word that is left to send begins at the transmit edge, with its pulse.
    loaded-begins : (r : Edges x c) → s.con2.frmdly ≡ true → 1 ≤ unsent l → to_idle x c ≡ false → (sh : Shift) →
        n.shift ≡ sh → ShiftHolds s n sh → is_begun sh ≡ false → y.now.engine.pins.pulse ≡ true
    loaded-begins r dly some away Free e h q =
        let none = ap (λ (z : Shift). length (unfinished s z)) e in
        absurd (omega (arith, some, counted_unsent s n l tied.words, none, h.0 (framed_no_client s f)))
    loaded-begins r dly some away (Loaded word) e h q = r.begins host dly word e away
    loaded-begins r dly some away (Begun p) e h q = clash true refl q

    shown-loaded : (r : Edges x c) → s.con2.frmdly ≡ true → is_quiet l.wire ≡ true → 1 ≤ unsent l → to_idle x c ≡ false →
        shows_pulse y.now ≡ true
    shown-loaded r dly q some away =
        shows_pulse_lem y.now (on-after r) (host_same (edge_same x c r) host)
        ∙ loaded-begins r dly some away n.shift refl v.holds.holds.shift (none-begun q)

    begins-with : (r : Edges x c) → s.con2.frmdly ≡ true → is_quiet l.wire ≡ true → 1 ≤ unsent l →
        n.pins.sck ≡ s.con1.ckp → word_begins x c ≡ true
    unfolding when◌then◌else◌
    begins-with r dly q some at =
        let away : to_idle x c ≡ false = away-from r at in
        and_right_of q (quiet-begins r q ∙ rw (away, shown-loaded r dly q some away, some_left some, dly))

    -- With a word left to send, nothing under way and no pulse, a transmit edge gives one.
    gives_of : Does x c → is_quiet l.wire ≡ true → 1 ≤ unsent l → shows_pulse x.now ≡ false → transmit_edge x c ≡ true →
        shows_pulse y.now ≡ true
    gives_of (stays r) q some none made = clash (transmit_edge x c) made (stays-quietly r)
    gives_of (edges r) q some none made =
        let away : to_idle x c ≡ false = not-true (to_idle x c) (sym (edges-transmit r) ∙ made) in
        by_test s.con2.frmdly
        (λ dly. shown-loaded r dly q some away)
        (λ early.
        let still : is_quiet y.ledger.wire ≡ true =
        quiet-begins r q
        ∙ ap not
        (and-false (not (to_idle x c)) _
        (and_first (when s.con2.frmdly then shows_pulse y.now else x.memory.pulse) _
        (if_false s.con2.frmdly _ _ early ∙ sym shows_before ∙ none))) in
        let unsent-still : unsent y.ledger ≡ unsent l =
        ap₂ (λ (a : List ℕ) (d : List Passed). length a - length (unmarked d)) r.noted.accepted
        (r.noted.departures (and_first (not (is_quiet l.wire)) _ (ap not q))) in
        expected r away
        ∙ if_false s.con2.frmdly _ _ early
        ∙ ap (λ (b : Bool). b || (eqb (edges_given y.ledger.wire + 1) (2 * width_of s) && leb 2 (unsent y.ledger)))
        (and_both (is_quiet y.ledger.wire) _ still (le-leb 1 (unsent y.ledger) (omega (arith, unsent-still, some)))))

    pub host_call : FrameHostCall x c
    host_call =
        record {
          begins = begins-of (call_does x v on f c);
          no_filler = carried.filler ∙ filler-none s n quietly n.shift v.holds.holds.shift;
          pulse = pulse-of (call_does x v on f c);
          gives = gives_of (call_does x v on f c);
        }

  module _ (client : frame_client s ≡ true) where
    client-fsd : s.con2.spifsd ≡ true
    client-fsd = and_right (framed s) _ client

    no_host : frame_host s ≡ false
    no_host = and-false (framed s) _ (ap not client-fsd)

    fills : silent s ≡ false
    fills = if_true (framed s) _ _ f ∙ ap not client-fsd

    -- It begins by the pulse that stood.
    client-starts : (started_by s x.memory.pulse (shows_pulse y.now) && (left_to_send l || not (silent s))) ≡ x.memory.pulse
    unfolding when◌then◌else◌
    client-starts = rw (f, client-fsd, or-true) (and-true x.memory.pulse)

    client-begins : Does x c → word_begins x c ≡ (transmit_edge x c && x.memory.pulse)
    client-begins (stays r) = stays-begins-none r ∙ sym (and_first (transmit_edge x c) _ (stays-quietly r))
    client-begins (edges r) =
        by_test (is_quiet l.wire)
        (λ q.
        rw (edges-transmit r) (and_right_of q (edge-begins r q ∙ ap (λ (b : Bool). not (not (to_idle x c) && b)) client-starts)))
        (λ b.
        ap (λ (z : Bool). z && not (is_quiet y.ledger.wire)) b
        ∙ sym (and-false (transmit_edge x c) _
        (by_test x.memory.pulse
        (λ stands.
        clash (is_quiet l.wire)
        (carried.quiet ∙ ap not (client-between s n client-fsd n.shift (v.holds.pulse on (sym tied.recalls.pulse ∙ stands))))
        b)
        (λ none. none))))

    client-stands : Does x c →
        y.memory.pulse
        ≡ (when edge_made x c
        then to_idle x c && (Bool·beq (ss_told c) s.con2.frmpol && is_quiet y.ledger.wire)
        else x.memory.pulse)
    unfolding sck_of when◌then◌else◌
    client-stands (stays r) = rw (stays-unmade r) r.pulse
    client-stands (edges r) =
        rw (edges_made_lem r) (rw (no_host, client, r.told client) at r.pulse)

    client-fills : Does x c → word_begins x c ≡ true → carries_filler y.ledger.wire ≡ eqb (unsent l) 0
    client-fills (stays r) begins = clash (word_begins x c) begins (stays-begins-none r)
    client-fills (edges r) begins =
        (r.noted.first (and_left (is_quiet l.wire) _ begins)
        (not-true (is_quiet y.ledger.wire) (and_right (is_quiet l.wire) _ begins))
        ).1
        ∙ left_is

    pub client_call : FrameClientCall x c
    client_call =
        record {
          begins = client-begins (call_does x v on f c);
          stands = λ up. client-stands (call_does x v on f c);
          fills = client-fills (call_does x v on f c);
        }

-- What calls that make no edge keep.
record Kept (x z : Watched) : Type 0 where
  lives : Lives z
  on : z.now.settings.spien ≡ true
  same : Same x.now.settings z.now.settings
  wire : z.ledger.wire ≡ x.ledger.wire
  pulse : z.memory.pulse ≡ x.memory.pulse
  clock : z.now.engine.pins.sck ≡ x.now.engine.pins.sck

same_on : (s r q : Settings) → Same s r → Same r q → Same s q
same_on s r q a b = record { con1 = b.con1 ∙ a.con1; con2 = b.con2 ∙ a.con2 }

-- A call that made no edge, and one that made one.
stays_of : (x : Watched) (v : Lives x) (on : x.now.settings.spien ≡ true) (f : framed x.now.settings ≡ true) (c : Call) →
    edge_made x c ≡ false → Stays x c
stays_of x v on f c made =
    elim (call_does x v on f c) [ stays r ↦ r | edges r ↦ clash (edge_made x c) (edges_made_lem x v on f c r) made ]

edge_of : (x : Watched) (v : Lives x) (on : x.now.settings.spien ≡ true) (f : framed x.now.settings ≡ true) (c : Call) →
    edge_made x c ≡ true → Edges x c
edge_of x v on f c made =
    elim (call_does x v on f c) [ stays r ↦ clash (edge_made x c) made (stays-unmade x v on f c r) | edges r ↦ r ]

still_keeps : (cs : List Call) (x : Watched) → Lives x → x.now.settings.spien ≡ true → framed x.now.settings ≡ true →
    Still x cs → Kept x (watched_calls x cs)
still_keeps [] x v on f u =
    record { lives = v; on = on; same = record { con1 = refl; con2 = refl }; wire = refl; pulse = refl; clock = refl }
still_keeps (c ∷ cs) x v on f u =
    let r : Stays x c = stays_of x v on f c u.1 in
    let k : Kept (watched_call x c) (watched_calls (watched_call x c) cs) =
    still_keeps cs (watched_call x c) (lives_on x c v) u.0 (same_in (λ c d. d.frmen) r.same ∙ f) u.2 in
    record {
      lives = k.lives;
      on = k.on;
      same = same_on _ _ _ r.same k.same;
      wire = k.wire ∙ r.wire;
      pulse = k.pulse ∙ r.pulse;
      clock = k.clock ∙ r.clock;
    }

-- A frame host that is known: alive, enabled, with its delay.
record Hosts (x : Watched) (late : Bool) : Type 0 where
  lives : Lives x
  on : x.now.settings.spien ≡ true
  host : frame_host x.now.settings ≡ true
  delay : x.now.settings.con2.frmdly ≡ late

hosts_framed : (x : Watched) (d : Bool) → Hosts x d → framed x.now.settings ≡ true
hosts_framed x d h = and_left (framed x.now.settings) _ h.host

-- It stays so over an edge, and over calls that make none.
hosts_edge : (x : Watched) (d : Bool) (c : Call) → Hosts x d → Edges x c → Hosts (watched_call x c) d
hosts_edge x d c h r =
    record {
      lives = lives_on x c h.lives;
      on = ap (λ (q : Settings). q.spien) r.settings ∙ h.on;
      host = host_same (edge_same x c r) h.host;
      delay = same_in (λ c d. d.frmdly) (edge_same x c r) ∙ h.delay;
    }

hosts_still : (x z : Watched) (d : Bool) → Hosts x d → Kept x z → Hosts z d
hosts_still x z d h k =
    record {
      lives = k.lives;
      on = k.on;
      host = host_same k.same h.host;
      delay = same_in (λ c d. d.frmdly) k.same ∙ h.delay;
    }

-- The next edge, and what the calls before it keep.
next_edge_lem : (x y : Watched) (d : Bool) (c : Call) → Hosts x d → NextEdge x y c → Kept x y × Edges y c
next_edge_lem x y d c h (next cs e still made) =
    let k : Kept x (watched_calls x cs) = still_keeps cs x h.lives h.on (hosts_framed x d h) still in
    let f : framed (watched_calls x cs).now.settings ≡ true = same_in (λ c d. d.frmen) k.same ∙ hosts_framed x d h in
    (k, edge_of (watched_calls x cs) k.lives k.on f e made)

-- At the edge after a word's last one: nothing is under way, the clock is idle, and a pulse that stood still stands.
record Ended (x y : Watched) (late : Bool) (d : Call) : Type 0 where
  hosts : Hosts y late
  edge : Edges y d
  quiet : is_quiet y.ledger.wire ≡ true
  clock : y.now.engine.pins.sck ≡ y.now.settings.con1.ckp
  pulse : x.memory.pulse ≡ true → y.memory.pulse ≡ true

ended : (x : Watched) (late : Bool) → Hosts x late → edges_given x.ledger.wire + 1 ≡ 2 * width_of x.now.settings → (c : Call) →
    Edges x c → (y : Watched) (d : Call) → NextEdge (watched_call x c) y d → Ended x y late d
ended x late h near c r y d there =
    let last = word-ends x h.lives h.on (hosts_framed x late h) c h.host r near in
    let z : Watched = watched_call x c in
    let hz : Hosts z late = hosts_edge x late c h r in
    let k : Kept z y = (next_edge_lem z y late d hz there).0 in
    record {
      hosts = hosts_still z y late hz k;
      edge = (next_edge_lem z y late d hz there).1;
      quiet = ap is_quiet k.wire ∙ last.0;
      clock = k.clock ∙ last.1 ∙ sym (same_in (λ c d. c.ckp) (same_on _ _ _ (edge_same x c r) k.same));
      pulse = λ stands. k.pulse ∙ last.2 stands;
    }

-- Words follow on.
follows_with : (x : Watched) → Hosts x true → edges_given x.ledger.wire + 1 ≡ 2 * width_of x.now.settings → (c : Call) →
    edge_made x c ≡ true → (y : Watched) (d : Call) → NextEdge (watched_call x c) y d → 1 ≤ unsent y.ledger →
    word_begins y d ≡ true
follows_with x h near c made y d there some =
    let r : Edges x c = edge_of x h.lives h.on (hosts_framed x true h) c made in
    let e : Ended x y true d = ended x true h near c r y d there in
    let hy : Hosts y true = e.hosts in
    begins-with y hy.lives hy.on (hosts_framed y true hy) d hy.host e.edge hy.delay e.quiet some e.clock

follows_before : (x : Watched) → Hosts x false → edges_given x.ledger.wire + 2 ≡ 2 * width_of x.now.settings →
    2 ≤ unsent x.ledger → (c : Call) → edge_made x c ≡ true → (y z : Watched) (d e : Call) → NextEdge (watched_call x c) y d →
    NextEdge (watched_call y d) z e → word_begins z e ≡ true
follows_before x h near more c made y z d e there beyond =
    let f : framed x.now.settings ≡ true = hosts_framed x false h in
    let r : Edges x c = edge_of x h.lives h.on f c made in
    let early = pulse-early x h.lives h.on f c h.host r h.delay near more in
    let u : Watched = watched_call x c in
    let hu : Hosts u false = hosts_edge x false c h r in
    let k : Kept u y = (next_edge_lem u y false d hu there).0 in
    let near-y : edges_given y.ledger.wire + 1 ≡ 2 * width_of y.now.settings =
    ap (λ (w : Wire). edges_given w + 1) k.wire ∙ early.0
    ∙ ap (λ (q : ℕ). 2 * q) (sym (same_in (λ c d. when c.mode16 then 16 else 8) (same_on _ _ _ (edge_same x c r) k.same))) in
    let b : Ended y z false e =
    ended y false (hosts_still u y false hu k) near-y d (next_edge_lem u y false d hu there).1 z e beyond in
    let hz : Hosts z false = b.hosts in
    begins-before z hz.lives hz.on (hosts_framed z false hz) e hz.host b.edge hz.delay b.quiet
    (b.pulse (k.pulse ∙ early.1)) b.clock

-- Frames, all of it.
pub frames_hold_lem : (x : Watched) → Lives x → x.now.settings.spien ≡ true → framed x.now.settings ≡ true → FramesHold x
frames_hold_lem x v on f =
    record {
      each = λ c. framed_call x v on f c;
      host = λ host c. host_call x v on f c host;
      client = λ client c. client_call x v on f c client;
      follows = λ host.
          record {
            before = λ early. follows_before x (record { lives = v; on = on; host = host; delay = early });
            with = λ dly. follows_with x (record { lives = v; on = on; host = host; delay = dly });
          };
    }

-- A module that a call enables gives no pulse.
record Fresh (o : Outcome) : Type 0 where
  none : o.after.settings.spien ≡ true → o.after.engine.pins.pulse ≡ false

module _ (m : Module) (off : m.settings.spien ≡ false) where
  unmoved_fresh : (o : Outcome) → o.after.settings.spien ≡ false → Fresh o
  unmoved_fresh o e = record { none = λ on. clash o.after.settings.spien on e }

  call-fresh : (c : Call) → Fresh (perform_of m c)
  unfolding answering stat_settings enabled_engine clear_of
  call-fresh =
      let s : Settings = m.settings in
      call_cases m Fresh
      (record {
        same = λ a. unmoved_fresh _ off;
        taken = λ on. clash s.spien on off;
        enables = λ off v up good. record { none = λ on. refl };
        disables = λ on. clash s.spien on off;
        rewrites = λ v same. unmoved_fresh _ (same ∙ off);
        configures = λ off c d spre ppre. unmoved_fresh _ off;
        written = λ on. clash s.spien on off;
        seen = λ on. clash s.spien on off;
        cleared = unmoved_fresh _ off;
      })

-- Enabling leaves SS without a pulse.
pub enabling_shows_none : (x : Watched) (c : Call) → x.now.settings.spien ≡ false → shows_pulse (watched_call x c).now ≡ false
enabling_shows_none x c off =
    let y : Module = (perform_of x.now c).after in
    by_test (y.settings.spien && frame_host y.settings)
    (λ up.
    shows_pulse_lem y (and_left y.settings.spien _ up) (and_right y.settings.spien _ up)
    ∙ (call-fresh x.now off c).none (and_left y.settings.spien _ up))
    (λ down. shows_none y down)
