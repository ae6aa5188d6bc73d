-- The edges owed by an enabled unframed host with its own clock, over all lists of calls that leave it undisturbed.
--     call_pays, calls_pay   undisturbed calls make as many edges as what is owed falls by
--     none_owed_idle         a host that owes nothing is idle
--     some_owed_not_idle     a host that owes an edge makes one at a tick
--     no_edge_owes_none      a tick that makes no edge finds none owed
--     calls_leave            undisturbed calls leave the module enabled, an unframed host
--     ticks_make             ticks make an edge each as long as edges are owed
--     falls                  two falls in a row
-- What one edge does is in proofs/Edge.antt.
-- Assumes nothing.
use Rattle.std.specs.Prelude.{◌+◌, ◌≤◌, ◌∷◌, ◌≡◌}
use Rattle.laws.proofs.Common.{ℕ, suc, zero-le, Bool, true, false, not, List, [], refl, sym, ap, subst}
use Rattle.laws.proofs.Common.{◌∙◌, le_trans, zero-add, arith, length, by_test, and-false, clash, and_left, and_right}
use Rattle.laws.proofs.Common.{and_both, and_rest}
use Prim.Native.Nat.{suc-le-suc}
use Rattle.word_order.specs.Bits.{bit_of}
use Rattle.module_rules.proofs.Types.{Module, Outcome, Free, Refusal, Disabled, WrongClock, Answer, Refused, Done, Value}
use Rattle.module_rules.proofs.Types.{NoEdge, Edge, Call, Read, Write, Tick, Pin, ClockStep, Clear}
use Rattle.module_rules.specs.Settings.{depth_of, own_clock, clock_stops, unframed_host}
use Rattle.module_rules.specs.Refusals.{is_done}
use Rattle.module_rules.specs.Registers.{is_free, stat_settings, stat_engine}
use Rattle.module_rules.specs.Interrupts.{noted}
use Rattle.module_rules.specs.Edge.{levels}
use Rattle.module_rules.specs.Calls.{after_calls, refuse, answering, word_taken, clear_of, perform_of}
use Rattle.module_rules.specs.Invariant.{ShiftHolds, ModuleHolds}
use Rattle.module_rules.specs.Demands.{edges_by, edges_made, IsIdle, IsBusy, only_ticks}
use Rattle.module_rules.proofs.BuffersOrder.{none_waiting}
use Rattle.module_rules.proofs.ClockSteps.{next_edge, seeing, stands, step_cases, tick_cases, tick_stands, pins_cases}
use Rattle.module_invariant.proofs.CallsWhen.{own_not_client, is_free_lem, no_edge_when, tick_is, told_elsewhere, unframed_told, host_unframed}
use Rattle.module_invariant.proofs.Holds.{call_keeps}
use Rattle.module_invariant.proofs.CallCases.{read_cases, write_cases}
use Rattle.module_edges_owed.proofs.Parts.{owed_in, AllUndisturbing, Pays, owing_in}
use Rattle.module_edges_owed.proofs.Edge.{owed_is, stat_owes, edge_owes, busy_owes, idle_owes}

module _ (m : Module) (h : ModuleHolds m) (on : m.settings.spien ≡ true) (own : unframed_host m.settings ≡ true) where
  -- A call that makes no edge and leaves what is owed and the settings pays.
  same_pays : (c : Call) (a : Answer) (x : Module) → edges_by c a ≡ 0 → owed_in x ≡ owed_in m → unframed_host x.settings ≡ unframed_host m.settings →
      Pays m c (record { answer = a; after = x })
  same_pays c a x none same con1 =
      record {
        edges = λ enabled taken. ap (λ (k : ℕ). k + owed_in x) none ∙ zero-add (owed_in x) ∙ same;
        clock = con1 ∙ own;
      }

  -- A refused call pays.
  none_refused : (c : Call) (r : Refusal) → edges_by c (Refused r) ≡ 0
  none_refused (Read register) r = refl
  none_refused (Write register v) r = refl
  none_refused (Tick sdi ss) r = refl
  none_refused (Pin sck sdi ss) r = refl
  none_refused (ClockStep sck sdi ss) r = refl
  none_refused Clear r = refl

  refuse-pays : (c : Call) (r : Refusal) → Pays m c (refuse m r)
  unfolding refuse
  refuse-pays c r = same_pays c (Refused r) m (none_refused c r) refl refl

  -- The next edge pays by lowering what is owed by one.
  edge-pays : (sdi ss : Bool) → stands m ≡ false → (c : Call) (a : Answer) → edges_by c a ≡ 1 →
      Pays m c (answering m a (seeing m (next_edge m sdi ss)))
  unfolding answering
  edge-pays sdi ss moves c a one =
      record {
        edges = λ enabled taken.
            ap (λ (k : ℕ). k + owed_in (record { settings = m.settings; engine = seeing m (next_edge m sdi ss) })) one
            ∙ ap (λ (k : ℕ). 1 + k) (owed_is (record { settings = m.settings; engine = seeing m (next_edge m sdi ss) }))
            ∙ ap (λ (b : Bool). 1 + owing_in m.settings (seeing m (levels (not m.engine.pins.sck) sdi b)))
            (told_elsewhere m ss (unframed_told m.settings (host_unframed m.settings own)))
            ∙ edge_owes m.settings own sdi m.engine m.engine.shift refl h.shift
            (and_rest (clock_stops m.settings) _ moves (and_right (own_clock m.settings) _ own))
            ∙ sym (owed_is m);
        clock = own;
      }

  -- Every undisturbed call makes as many edges as what is owed falls by: a write that accepts a word is none, nor is one
  -- that disables.
  pub call_pays : (c : Call) → Pays m c (perform_of m c)
  unfolding perform_of clear_of answering word_taken noted stat_settings stat_engine
  call_pays (Read register) =
      read_cases m (λ i. Pays m (Read i)) (λ i. refuse-pays (Read i)) (λ i v other. same_pays (Read i) (Value v) m refl refl refl)
      (λ on plain some. same_pays (Read 3) _ _ refl refl refl) register
  call_pays (Write register v) =
      write_cases m v (λ i. Pays m (Write i v)) (λ i. refuse-pays (Write i v)) (λ off. clash m.settings.spien on off)
      (λ on down. record { edges = λ up taken. clash (bit_of v 15) up down; clock = own })
      (λ same. record { edges = λ up taken. zero-add _ ∙ stat_owes v m; clock = own })
      (λ off. clash m.settings.spien on off)
      (λ off. clash m.settings.spien on off)
      (λ on room. record { edges = λ enabled taken. clash true refl taken; clock = own })
      register
  call_pays (Tick sdi ss) =
      let c : Call = Tick sdi ss in
      tick_cases m sdi ss (Pays m c) (refuse-pays c Disabled) (refuse-pays c WrongClock) (λ on own still. same_pays c NoEdge m refl refl refl)
      (λ on own moves. edge-pays sdi ss moves c Edge refl)
  call_pays (Pin sck sdi ss) =
      let c : Call = Pin sck sdi ss in
      pins_cases m sck sdi ss (Pays m c) (refuse-pays c Disabled) (refuse-pays c WrongClock)
      (λ on pin. clash (own_clock m.settings) (and_left (own_clock m.settings) _ own) pin)
  call_pays (ClockStep sck sdi ss) =
      let c : Call = ClockStep sck sdi ss in
      step_cases m sck sdi ss (Pays m c) (λ off. refuse-pays c Disabled) (λ on own still. same_pays c NoEdge m refl refl refl)
      (λ on own moves. edge-pays sdi ss moves c Done refl)
      (λ on pin. clash (own_clock m.settings) (and_left (own_clock m.settings) _ own) pin)
  call_pays Clear = same_pays Clear Done _ refl refl refl

-- A number is not both none and some.
none_and_some : (k : ℕ) → k ≡ 0 → 1 ≤ k → ⊥
none_and_some k e h = omega arith

-- One less is left once one is made.
one_fewer : (a b c k : ℕ) → a ≡ 1 → a + b ≡ c → suc k ≤ c → k ≤ b
one_fewer a b c k e f h = omega arith

-- One more is made in all.
one_on_top : (a b k : ℕ) → a ≡ 1 → b ≡ k → a + b ≡ suc k
one_on_top a b k e f = omega arith

-- Two falls in a row.
pub falls : (a b c d e : ℕ) → b + c ≡ d → a + d ≡ e → (a + b) + c ≡ e
falls a b c d e h k = omega arith

-- Undisturbed calls make as many edges as what is owed falls by.
pub calls_pay : (cs : List Call) (m : Module) → ModuleHolds m → m.settings.spien ≡ true → unframed_host m.settings ≡ true →
    AllUndisturbing m cs → edges_made m cs + owed_in (after_calls m cs) ≡ owed_in m
calls_pay [] m h on own u = zero-add (owed_in m)
calls_pay (c ∷ cs) m h on own u =
    let p : Pays m c (perform_of m c) = call_pays m h on own c in
    falls _ _ _ _ _
    (calls_pay cs (perform_of m c).after (call_keeps m c h) u.0.enabled p.clock u.1)
    (p.edges u.0.enabled u.0.no_word)

-- A tick of an enabled host with a word loaded or begun makes an edge.
tick_answers_edge : (m : Module) (sdi ss : Bool) → m.settings.spien ≡ true → unframed_host m.settings ≡ true →
    is_free m.engine.shift ≡ false → (perform_of m (Tick sdi ss)).answer ≡ Edge
unfolding answering
tick_answers_edge m sdi ss on own busy =
    ap (λ (o : Outcome). o.answer)
    (tick_is m sdi ss on (and_left (own_clock m.settings) _ own) (and-false (clock_stops m.settings) _ busy))

-- A tick of an enabled host with its shift register free makes none.
tick_answers_none : (m : Module) (sdi ss : Bool) → m.settings.spien ≡ true → unframed_host m.settings ≡ true →
    is_free m.engine.shift ≡ true → (perform_of m (Tick sdi ss)).answer ≡ NoEdge
unfolding perform_of
tick_answers_none m sdi ss on own free =
    ap (λ (o : Outcome). o.answer)
    (tick_stands m sdi ss on (and_left (own_clock m.settings) _ own)
    (and_both (clock_stops m.settings) _ (and_right (own_clock m.settings) _ own) free))

module _ (m : Module) (h : ModuleHolds m) (on : m.settings.spien ≡ true) (own : unframed_host m.settings ≡ true) where
  -- A host whose shift register is free owes nothing.
  free_owes_none : m.engine.shift ≡ Free → owed_in m ≡ 0
  free_owes_none free =
      owed_is m
      ∙ idle_owes m.settings own m.engine free (subst (ShiftHolds m.settings m.engine) free h.shift)

  -- A host that owes nothing has its shift register free.
  none-owed-free : owed_in m ≡ 0 → m.engine.shift ≡ Free
  none-owed-free e =
      is_free_lem m.engine.shift
      (busy_owes m.settings own m.engine m.engine.shift h.shift m.engine.transmit.count (sym (owed_is m) ∙ e))

  -- A host that owes an edge has a word loaded or begun.
  some-owed-busy : 1 ≤ owed_in m → is_free m.engine.shift ≡ false
  some-owed-busy k =
      by_test (is_free m.engine.shift)
      (λ e. absurd (none_and_some (owed_in m) (free_owes_none (is_free_lem m.engine.shift e)) k))
      (λ e. e)

  -- A host that owes nothing is idle.
  pub none_owed_idle : owed_in m ≡ 0 → IsIdle m
  none_owed_idle e =
      let free : m.engine.shift ≡ Free = none-owed-free e in
      record {
        free = free;
        none_waits =
            none_waiting (depth_of m.settings) m.engine.transmit
            ((subst (ShiftHolds m.settings m.engine) free h.shift).0 (own_not_client m.settings (and_left (own_clock m.settings) _ own)));
        no_edge = λ sdi ss. tick_answers_none m sdi ss on own (ap is_free free);
      }

  -- A host that owes an edge is not idle.
  pub some_owed_not_idle : 1 ≤ owed_in m → IsBusy m
  some_owed_not_idle k sdi ss = tick_answers_edge m sdi ss on own (some-owed-busy k)

-- A tick that makes no edge finds none owed.
pub no_edge_owes_none : (m : Module) → ModuleHolds m → m.settings.spien ≡ true → unframed_host m.settings ≡ true →
    (sdi ss : Bool) → (perform_of m (Tick sdi ss)).answer ≡ NoEdge → owed_in m ≡ 0
no_edge_owes_none m h on own sdi ss e = free_owes_none m h on own (no_edge_when m sdi ss e).2

-- Undisturbed calls keep the invariant and leave the module enabled, with its own clock.
pub calls_leave : (cs : List Call) (m : Module) → ModuleHolds m → m.settings.spien ≡ true → unframed_host m.settings ≡ true →
    AllUndisturbing m cs →
    ModuleHolds (after_calls m cs)
    × ((after_calls m cs).settings.spien ≡ true)
    × (unframed_host (after_calls m cs).settings ≡ true)
calls_leave [] m h on own u = (h, on, own)
calls_leave (c ∷ cs) m h on own u =
    calls_leave cs (perform_of m c).after (call_keeps m c h) u.0.enabled (call_pays m h on own c).clock u.1

-- Ticks make an edge each as long as edges are owed, and leave the module undisturbed.
pub ticks_make : (ss : Bool) (sdis : List Bool) (m : Module) → ModuleHolds m → m.settings.spien ≡ true →
    unframed_host m.settings ≡ true → length sdis ≤ owed_in m →
    AllUndisturbing m (only_ticks ss sdis) × (edges_made m (only_ticks ss sdis) ≡ length sdis)
unfolding answering
ticks_make ss [] m h on own k = (tt, refl)
ticks_make ss (sdi ∷ rest) m h on own k =
    let after : Module = (perform_of m (Tick sdi ss)).after in
    let busy : is_free m.engine.shift ≡ false = some-owed-busy m h on own (le_trans (suc-le-suc zero-le) k) in
    let one : edges_by (Tick sdi ss) (perform_of m (Tick sdi ss)).answer ≡ 1 = ap (edges_by (Tick sdi ss)) (tick_answers_edge m sdi ss on own busy) in
    let enabled : after.settings.spien ≡ true =
    ap (λ (o : Outcome). o.after.settings.spien)
    (tick_is m sdi ss on (and_left (own_clock m.settings) _ own) (and-false (clock_stops m.settings) _ busy)) ∙ on in
    let p : Pays m (Tick sdi ss) (perform_of m (Tick sdi ss)) = call_pays m h on own (Tick sdi ss) in
    let t = ticks_make ss rest after (call_keeps m (Tick sdi ss) h) enabled p.clock (one_fewer _ _ _ _ one (p.edges enabled (and-false (is_done (perform_of m (Tick sdi ss)).answer) false refl)) k) in
    ((record { enabled = enabled; no_word = and-false (is_done (perform_of m (Tick sdi ss)).answer) false refl }, t.0), one_on_top _ _ _ one t.1)
