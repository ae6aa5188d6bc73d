-- What a call does to an enabled framed module and its watcher: it makes an edge, or leaves the wire, the pulse and the clock.
--     Carried        the word on the wire is the one that the shift register has begun
--     Sees           a call has levels seen, by the module and by its watcher
--     edge_heard     the ledger after an edge that a module hears, framed or not
--     Stays, Edges   the two kinds of call
--     call_does      every call of a framed module is one of them
-- Assumes nothing.
use Rattle.std.specs.Prelude.{◌*◌, ◌<◌, ◌&&◌, ◌||◌, ◌≡◌}
use Rattle.laws.proofs.Common.{List, [], ℕ, Bool, true, false, not, Bool·beq, Bool·not-not, refl}
use Rattle.laws.proofs.Common.{sym, ap, subst, ◌∙◌, ap₂, arith, not-true, eqb, when◌then◌else◌, if_keeps, if_true, if_false}
use Rattle.laws.proofs.Common.{clash, by_test, and_right, and-false, unlike, and_first, like}
use Rattle.word_order.specs.Bits.{bit_of}
use Rattle.word_order.specs.Machine.{Entry, entered, notes}
use Rattle.word_order.specs.Ledger.{Ledger, Op, Terms, Wire, carries_filler, edges_given, is_quiet, noted_all, busy, quiet}
use Rattle.word_order.specs.Port.{edges_under}
use Rattle.word_order.proofs.Tied.{Carries}
use Rattle.module_rules.proofs.Types.{Settings, Engine, Module, Outcome, Shift, Free, Loaded, Begun, Refusal, WrongClock}
use Rattle.module_rules.proofs.Types.{Answer, Refused, Done, Edge, Call, Read, Write, Tick, Pin, ClockStep, Clear}
use Rattle.module_rules.specs.Settings.{width_of, framed, frame_host, frame_client, clock_stops, own_clock}
use Rattle.module_rules.specs.Refusals.{is_done, is_value, is_edge}
use Rattle.module_rules.specs.Registers.{is_free, stat_settings, stat_engine, disabled_engine}
use Rattle.module_rules.specs.Interrupts.{noted}
use Rattle.module_rules.specs.Loading.{is_begun, rested, sdo_at}
use Rattle.module_rules.specs.Select.{select_remembered, deselected}
use Rattle.module_rules.specs.Edge.{advanced_if_begun, under_way, pulse_due, active, pulse_after, pulsed, clocked, levels, stepped}
use Rattle.module_rules.specs.Calls.{refuse, answering, word_taken, read_of, word_written, write_of, tick_of, told_select, pins_of, clear_of, perform_of, sck_of}
use Rattle.module_rules.specs.Invariant.{ShiftHolds}
use Rattle.module_rules.specs.Frames.{to_idle, ss_told}
use Rattle.module_rules.specs.Watch.{Memory, Watched, Sight, enabled_by, level_ops, levels_kept, may_begin, shows_pulse, sight_of, watched_call, way_of, terms}
use Rattle.module_rules.specs.Words.{owed_words}
use Rattle.module_rules.specs.Demands.{sends_filler}
use Rattle.module_rules.specs.Pulses.{stands}
use Rattle.module_rules.proofs.Sizes.{width_eight}
use Rattle.module_rules.proofs.ClockSteps.{step_own, step_pin}
use Rattle.module_invariant.proofs.Pulses.{loaded_shown}
use Rattle.module_invariant.proofs.Select.{advanced_levels, stepped_levels}
use Rattle.module_invariant.proofs.FinishWords.{loaded_spares}
use Rattle.module_invariant.proofs.CallCases.{read_cases, write_cases}
use Rattle.module_invariant.proofs.CallsWhen.{heard_edge, not_unlike, pin_is, tick_is}
use Rattle.module_order.proofs.Order.{Lives}
use Rattle.module_order.proofs.Levels.{Recalls}
use Rattle.module_frames.proofs.Seen.{edge_noted, Noted}

-- The settings that count for frames are as they were.
pub record Same (s r : Settings) : Type 0 where
  pub con1 : r.con1 ≡ s.con1
  pub con2 : r.con2 ≡ s.con2

-- A call that makes no edge.
pub record Stays (x : Watched) (c : Call) : Type 0 where
  pub same : Same x.now.settings (watched_call x c).now.settings
  pub clock : (watched_call x c).now.engine.pins.sck ≡ x.now.engine.pins.sck
  pub wire : (watched_call x c).ledger.wire ≡ x.ledger.wire
  pub pulse : (watched_call x c).memory.pulse ≡ x.memory.pulse

-- A call that makes one, with the select level that then counts: the watcher notes it, and a frame host decides on its pulse
-- at a transmit edge; with FRMDLY 1 it gives one to a loaded word.
pub record Edges (x : Watched) (c : Call) : Type 0 where
  pub settings : (watched_call x c).now.settings ≡ x.now.settings
  pub clock : (watched_call x c).now.engine.pins.sck ≡ not x.now.engine.pins.sck
  pub ss : Bool
  pub told : frame_client x.now.settings ≡ true → ss ≡ ss_told c
  pub noted : Noted (terms x.now.settings)
      (may_begin x.now.settings x.memory (shows_pulse (watched_call x c).now) (watched_call x c).now.engine.pins.sck)
      x.ledger
      (watched_call x c).ledger
  pub pulse : (watched_call x c).memory.pulse
      ≡ stands x.now.settings (shows_pulse (watched_call x c).now) (watched_call x c).now.engine.pins.sck ss
      (is_quiet (watched_call x c).ledger.wire)
  pub given : frame_host x.now.settings ≡ true →
      (watched_call x c).now.engine.pins.pulse
      ≡ (when to_idle x c then x.now.engine.pins.pulse
      else pulse_due x.now.settings (watched_call x c).now.engine.transmit.count (watched_call x c).now.engine.shift)
  pub begins : frame_host x.now.settings ≡ true → x.now.settings.con2.frmdly ≡ true → (word : ℕ) →
      x.now.engine.shift ≡ Loaded word → to_idle x c ≡ false → (watched_call x c).now.engine.pins.pulse ≡ true

pub data Does (x : Watched) (c : Call) : Type 0 where
  stays : Stays x c → Does x c
  edges : Edges x c → Does x c

-- An outcome that leaves the clock and the settings that count.
record Rests (m : Module) (o : Outcome) : Type 0 where
  same : Same m.settings o.after.settings
  clock : o.after.engine.pins.sck ≡ m.engine.pins.sck

module _ (m : Module) (on : m.settings.spien ≡ true) where
  unmoved : (a : Answer) → Rests m (record { answer = a; after = m })
  unmoved a = record { same = record { con1 = refl; con2 = refl }; clock = refl }

  read-rests : (register : ℕ) → Rests m (read_of m register)
  unfolding refuse answering word_taken noted
  read-rests =
      read_cases m (λ i. Rests m) (λ i r. unmoved _) (λ i v other. unmoved _)
      (λ on plain some. record { same = record { con1 = refl; con2 = refl }; clock = refl })

  write-rests : (register v : ℕ) → Rests m (write_of m register v)
  unfolding refuse answering stat_settings disabled_engine stat_engine word_written rested sdo_at noted
  write-rests register v =
      let s : Settings = m.settings in
      write_cases m v (λ i. Rests m) (λ i r. unmoved _) (λ off. clash s.spien on off)
      (λ on down. record { same = record { con1 = refl; con2 = refl }; clock = refl })
      (λ same. record { same = record { con1 = refl; con2 = refl }; clock = refl })
      (λ off. clash s.spien on off)
      (λ off. clash s.spien on off)
      (λ on room. record { same = record { con1 = refl; con2 = refl }; clock = (loaded_spares s _).sck })
      register

-- The word on the wire is the one that the shift register has begun.
pub record Carried (sh : Shift) (wire : Wire) : Type 0 where
  pub quiet : is_quiet wire ≡ not (is_begun sh)
  pub edges : edges_given wire ≡ edges_under (way_of sh)
  pub filler : carries_filler wire ≡ sends_filler sh

carried_by : (t : Terms) (owed : List ℕ) (sh : Shift) (wire : Wire) → Carries t owed (way_of sh) wire → Carried sh wire
carried_by t owed Free quiet k = record { quiet = refl; edges = refl; filler = refl }
carried_by t owed Free (busy w) k = absurd k
carried_by t owed (Loaded word) quiet k = record { quiet = refl; edges = refl; filler = refl }
carried_by t owed (Loaded word) (busy w) k = absurd k
carried_by t owed (Begun p) quiet k = absurd k
carried_by t owed (Begun p) (busy w) k = record { quiet = refl; edges = k.edges; filler = k.filler }

pub lives_carried : (x : Watched) → Lives x → x.now.settings.spien ≡ true → Carried x.now.engine.shift x.ledger.wire
lives_carried x v on =
    carried_by (terms x.now.settings) (owed_words x.now) x.now.engine.shift x.ledger.wire (v.tied on).words.carries

-- It is short of its last edge.
short_of : (s : Settings) (n : Engine) (sh : Shift) → ShiftHolds s n sh → edges_under (way_of sh) < 2 * width_of s
short_of s n Free h = omega (arith, width_eight s)
short_of s n (Loaded word) h = omega (arith, width_eight s)
short_of s n (Begun p) h = h.short

-- A call has levels seen, by the module and by its watcher.
pub record Sees (x : Watched) (c : Call) (sck sdi ss : Bool) : Type 0 where
  pub now : (watched_call x c).now
      ≡ record { settings = x.now.settings; engine = stepped x.now.settings (levels sck sdi ss) x.now.engine }
  pub ledger : (watched_call x c).ledger
      ≡ noted_all (terms x.now.settings) (level_ops (sight_of x.now c) x.memory sck sdi ss) x.ledger
  pub memory : (watched_call x c).memory
      ≡ levels_kept (sight_of x.now c) x.memory (not (is_quiet (watched_call x c).ledger.wire)) sck ss

-- The pulse of a frame host after an edge.
host_law : (f idle fsd seen pulse due : Bool) → f ≡ true → fsd ≡ false →
    (when f then (when idle then (when fsd then seen else pulse) else not fsd && due) else pulse) ≡ (when idle then pulse else due)
unfolding when◌then◌else◌
host_law f idle fsd seen pulse due a b = rw (a, b)

module _ (x : Watched) (v : Lives x) (on : x.now.settings.spien ≡ true) where
  abbrev s : Settings
  s = x.now.settings

  abbrev n : Engine
  n = x.now.engine

  abbrev l : Ledger
  l = x.ledger

  recalls : Recalls x.now x.memory
  recalls = (v.tied on).recalls

  -- A call that is answered so that the watcher is told of the levels that were seen, which are those that he goes by.
  sees : (c : Call) {sck ss : Bool} (clock sdi select : Bool) (a : Answer) (tells : Answer → Bool) →
      perform_of x.now c ≡ answering x.now a (stepped s (levels sck sdi ss) n) → tells a ≡ true → clock ≡ sck → select ≡ ss →
      let v : Sight = sight_of x.now c in
      (watched_call x c).ledger
      ≡ entered (terms s) (when tells v.answer then notes (level_ops v x.memory clock sdi select) else notes []) l →
      (watched_call x c).memory
      ≡ (when tells v.answer then levels_kept v x.memory
      (not (is_quiet (watched_call x c).ledger.wire)) clock select else x.memory) →
      Sees x c clock sdi select
  unfolding answering
  sees c clock sdi select a tells is ok to by ledger memory =
      let v : Sight = sight_of x.now c in
      let told : tells v.answer ≡ true = ap (λ (o : Outcome). tells o.answer) is ∙ ok in
      record {
        now = ap (λ (o : Outcome). o.after) is
            ∙ ap₂ (λ (b d : Bool). record { settings = s; engine = stepped s (levels b sdi d) n }) (sym to) (sym by);
        ledger = ledger ∙ ap (λ (e : Entry). entered (terms s) e l) (if_true (tells v.answer) _ _ told);
        memory = memory ∙ if_true (tells v.answer) _ _ told;
      }

  -- The levels of the next edge of a host with its own clock, as the watcher goes by them.
  turned : not x.memory.sck ≡ not n.pins.sck
  turned = ap not recalls.sck

  selected : (ss : Bool) → (when frame_client s then ss else x.memory.ss) ≡ told_select x.now ss
  selected ss = ap (λ (b : Bool). when frame_client s then ss else b) recalls.ss

  -- A pin call of a module that is clocked there.
  pub pin_sees : (sck sdi ss : Bool) → own_clock s ≡ false → Sees x (Pin sck sdi ss) sck sdi ss
  pin_sees sck sdi ss pin =
      sees (Pin sck sdi ss) sck sdi ss Done is_done (pin_is x.now sck sdi ss on pin) refl refl refl refl refl

  -- An SCK level unlike the module's is unlike the watcher's.
  moves-there : (sck : Bool) → sck ≡ not n.pins.sck → Bool·beq sck x.memory.sck ≡ false
  moves-there sck edge =
      ap (Bool·beq sck) recalls.sck ∙ ap (λ (b : Bool). Bool·beq b n.pins.sck) edge ∙ not_unlike n.pins.sck

  -- The ledger after an edge that is heard.
  pub edge_heard : (c : Call) (sck sdi ss : Bool) → Sees x c sck sdi ss → deselected s ss ≡ false → sck ≡ not n.pins.sck →
      Noted (terms s) (may_begin s x.memory (shows_pulse (watched_call x c).now) sck) l (watched_call x c).ledger
  edge_heard c sck sdi ss r hears edge =
      let short : edges_given l.wire < 2 * width_of s =
      omega (arith, (lives_carried x v on).edges, short_of s n n.shift v.holds.holds.shift) in
      let may : Bool = may_begin s x.memory (shows_pulse (watched_call x c).now) sck in
      subst (Noted (terms s) may l)
      (sym
      (r.ledger
      ∙ ap (λ (os : List Op). noted_all (terms s) os l)
      (if_false (deselected s ss) _ _ hears ∙ if_false (Bool·beq sck x.memory.sck) _ _ (moves-there sck edge))))
      (edge_noted (terms s) may n.pins.sdo sdi l (omega (arith, width_eight s)) short)

  module _ (f : framed s ≡ true) where
    -- No word is deaf to the clock in a framed module.
    hears : (ss : Bool) → deselected s ss ≡ false
    hears ss = ap (λ (b : Bool). (not s.con1.msten && (not b && s.con1.ssen)) && ss) f
        ∙ ap (λ (b : Bool). b && ss) (and-false (not s.con1.msten) false refl)

    -- An edge takes what is under way one further, and ends with the pulse.
    edge_steps : (sck sdi ss : Bool) → sck ≡ not n.pins.sck →
        stepped s (levels sck sdi ss) n
        ≡ pulsed s sck (advanced_if_begun s sdi (under_way s sck (select_remembered ss n)) (clocked sck (select_remembered ss n)))
    edge_steps sck sdi ss edge =
        heard_edge s n sck sdi ss (hears ss) (ap (λ (b : Bool). Bool·beq b n.pins.sck) edge ∙ not_unlike n.pins.sck)

    -- The pulse of a frame host.
    edge-pulse : (sck sdi ss : Bool) → sck ≡ not n.pins.sck → frame_host s ≡ true →
        (stepped s (levels sck sdi ss) n).pins.pulse
        ≡ (when Bool·beq sck s.con1.ckp then n.pins.pulse
        else pulse_due s (stepped s (levels sck sdi ss) n).transmit.count (stepped s (levels sck sdi ss) n).shift)
    unfolding pulsed pulse_after clocked select_remembered
    edge-pulse sck sdi ss edge host =
        let way : Shift = under_way s sck (select_remembered ss n) in
        let z : Engine = advanced_if_begun s sdi way (clocked sck (select_remembered ss n)) in
        let fsd : s.con2.spifsd ≡ false = not-true s.con2.spifsd (and_right (framed s) _ host) in
        rw (edge_steps sck sdi ss edge)
        (host_law (framed s) (Bool·beq sck s.con1.ckp) s.con2.spifsd
        (active s z.pins.ss && not (is_begun z.shift)) z.pins.pulse
        (pulse_due s z.transmit.count z.shift) f fsd
        ∙ ap (λ (b : Bool). when Bool·beq sck s.con1.ckp then b else pulse_due s z.transmit.count z.shift)
        (advanced_levels s sdi way (clocked sck (select_remembered ss n))).pulse)

    -- A call that makes an edge.
    edge-does : (c : Call) (sck sdi ss : Bool) → Sees x c sck sdi ss → sck ≡ not n.pins.sck →
        (frame_client s ≡ true → ss ≡ ss_told c) → Does x c
    unfolding sck_of select_remembered
    edge-does c sck sdi ss r edge told =
        let y : Watched = watched_call x c in
        let shown : Bool = shows_pulse y.now in
        let engine : y.now.engine ≡ stepped s (levels sck sdi ss) n = ap (λ (m : Module). m.engine) r.now in
        let clock : y.now.engine.pins.sck ≡ sck =
        ap (λ (e : Engine). e.pins.sck) engine ∙ (stepped_levels s ss sck sdi n).0 in
        edges
        (record {
          settings = ap (λ (m : Module). m.settings) r.now;
          clock = clock ∙ edge;
          ss = ss;
          told = told;
          noted =
              subst (λ (b : Bool). Noted (terms s) (may_begin s x.memory shown b) l y.ledger) (sym clock)
              (edge_heard c sck sdi ss r (hears ss) edge);
          pulse =
              ap (λ (m : Memory). m.pulse) r.memory
              ∙ if_false (deselected s ss || Bool·beq sck x.memory.sck) _ _
              (ap₂ (λ (a b : Bool). a || b) (hears ss) (moves-there sck edge))
              ∙ ap₂ (λ (a b : Bool). stands s shown a ss b) (sym clock) (Bool·not-not (is_quiet y.ledger.wire));
          given = λ host.
              ap (λ (e : Engine). e.pins.pulse) engine
              ∙ edge-pulse sck sdi ss edge host
              ∙ ap (λ (e : Engine). when Bool·beq sck s.con1.ckp then n.pins.pulse else pulse_due s e.transmit.count e.shift)
              (sym engine)
              ∙ ap (λ (b : Bool). when Bool·beq b s.con1.ckp then n.pins.pulse else pulse_due s y.now.engine.transmit.count y.now.engine.shift)
              (sym clock);
          begins = λ host dly word loaded away.
              ap (λ (e : Engine). e.pins.pulse) (engine ∙ edge_steps sck sdi ss edge)
              ∙ loaded_shown s sck sdi (select_remembered ss n) host dly word loaded
              (ap (λ (b : Bool). Bool·beq b s.con1.ckp) (sym clock) ∙ away);
        })

    -- A refused call, which the watcher is not told of.
    refused-does : (c : Call) (r : Refusal) (tells : Answer → Bool) (e : Entry) (m : Memory) →
        perform_of x.now c ≡ refuse x.now r → tells (Refused r) ≡ false →
        (watched_call x c).ledger ≡ entered (terms s) (when tells (perform_of x.now c).answer then e else notes []) l →
        (watched_call x c).memory ≡ (when tells (perform_of x.now c).answer then m else x.memory) → Does x c
    unfolding refuse
    refused-does c r tells e m is deaf ledger memory =
        let none : tells (perform_of x.now c).answer ≡ false = ap (λ (o : Outcome). tells o.answer) is ∙ deaf in
        let rests : Rests x.now (perform_of x.now c) = subst (Rests x.now) (sym is) (unmoved x.now on (Refused r)) in
        stays
        (record {
          same = rests.same;
          clock = rests.clock;
          wire = ap (λ (k : Ledger). k.wire) (ledger ∙ ap (λ (q : Entry). entered (terms s) q l) (if_false (tells _) _ _ none));
          pulse = ap (λ (q : Memory). q.pulse) (memory ∙ if_false (tells _) _ _ none);
        })

    -- A call that shows the remembered SCK level.
    level-stays : (c : Call) (sck sdi ss : Bool) → Sees x c sck sdi ss → Bool·beq sck n.pins.sck ≡ true → Stays x c
    level-stays c sck sdi ss r still =
        let there : Bool·beq sck x.memory.sck ≡ true = ap (Bool·beq sck) recalls.sck ∙ still in
        record {
          same =
              record {
                con1 = ap (λ (m : Module). m.settings.con1) r.now;
                con2 = ap (λ (m : Module). m.settings.con2) r.now;
              };
          clock =
              ap (λ (m : Module). m.engine.pins.sck) r.now
              ∙ (stepped_levels s ss sck sdi n).0
              ∙ like sck n.pins.sck still;
          wire =
              ap (λ (k : Ledger). k.wire)
              (r.ledger
              ∙ ap (λ (os : List Op). noted_all (terms s) os l)
              (if_false (deselected s ss) _ _ (hears ss) ∙ if_true (Bool·beq sck x.memory.sck) _ _ there));
          pulse =
              ap (λ (m : Memory). m.pulse) r.memory
              ∙ if_true (deselected s ss || Bool·beq sck x.memory.sck) _ _ (ap₂ (λ (a b : Bool). a || b) (hears ss) there);
        }

    -- The levels of a call that has them seen make an edge, or show the remembered SCK level.
    seen-does : (c : Call) (sck sdi ss : Bool) → Sees x c sck sdi ss → (frame_client s ≡ true → ss ≡ ss_told c) → Does x c
    seen-does c sck sdi ss r told =
        by_test (Bool·beq sck n.pins.sck)
        (λ still. stays (level-stays c sck sdi ss r still))
        (λ moves. edge-does c sck sdi ss r (unlike sck n.pins.sck moves) told)

    runs_on : (clock_stops s && is_free n.shift) ≡ false
    runs_on = ap (λ (b : Bool). not b && is_free n.shift) f

    -- A tick.
    tick-does : (sdi ss : Bool) → Does x (Tick sdi ss)
    unfolding perform_of tick_of
    tick-does sdi ss =
        let c : Call = Tick sdi ss in
        by_test (own_clock s)
        (λ own.
        seen-does c _ sdi _
        (sees c (not x.memory.sck) sdi (when frame_client s then ss else x.memory.ss) Edge is_edge
        (tick_is x.now sdi ss on own runs_on) refl turned (selected ss) refl refl)
        (λ client. if_true (frame_client s) _ _ client))
        (λ pin.
        refused-does c WrongClock is_edge _ _
        (if_false (not s.spien) _ _ (ap not on) ∙ if_true (not (own_clock s)) _ _ (ap not pin)) refl refl refl)

    -- A pin call.
    pin-does : (sck sdi ss : Bool) → Does x (Pin sck sdi ss)
    unfolding perform_of pins_of
    pin-does sck sdi ss =
        let c : Call = Pin sck sdi ss in
        by_test (own_clock s)
        (λ own.
        refused-does c WrongClock is_done _ _ (if_false (not s.spien) _ _ (ap not on) ∙ if_true (own_clock s) _ _ own) refl
        refl refl)
        (λ pin. seen-does c sck sdi ss (pin_sees sck sdi ss pin) (λ client. refl))

    -- A clock step.
    step-does : (sck sdi ss : Bool) → Does x (ClockStep sck sdi ss)
    unfolding perform_of
    step-does sck sdi ss =
        let c : Call = ClockStep sck sdi ss in
        let mine : Bool = when frame_client s then ss else x.memory.ss in
        let clock : Bool = when own_clock s then not x.memory.sck else sck in
        let select : Bool = when own_clock s then mine else ss in
        by_test (own_clock s)
        (λ own.
        let told : select ≡ mine = if_true (own_clock s) mine ss own in
        seen-does c clock sdi select
        (sees c clock sdi select Done is_done (step_own x.now sck sdi ss on own runs_on) refl
        (if_true (own_clock s) _ sck own ∙ turned) (told ∙ selected ss) refl refl)
        (λ client. told ∙ if_true (frame_client s) _ _ client))
        (λ pin.
        let told : select ≡ ss = if_false (own_clock s) mine ss pin in
        seen-does c clock sdi select
        (sees c clock sdi select Done is_done (step_pin x.now sck sdi ss on pin) refl
        (if_false (own_clock s) _ sck pin) told refl refl)
        (λ client. told))

    -- A write of an enabled module opens no ledger.
    write-does : (register w : ℕ) → Does x (Write register w)
    unfolding perform_of
    write-does register w =
        let c : Call = Write register w in
        let r : Rests x.now (perform_of x.now c) = write-rests x.now on register w in
        let done : Bool = is_done (perform_of x.now c).answer in
        let closed : (done && (eqb register 0 && (not s.spien && bit_of w 15))) ≡ false =
        and-false done _ (and-false (eqb register 0) _ (and_first (not s.spien) _ (ap not on))) in
        stays
        (record {
          same = r.same;
          clock = r.clock;
          wire =
              if_keeps (λ (e : Entry). (entered (terms s) e l).wire ≡ l.wire) (done && eqb register 3) _ _ (λ e. refl)
              (λ e. ap (λ (q : Entry). (entered (terms s) q l).wire) (if_false (enabled_by (sight_of x.now c) register w) _ _ closed));
          pulse = ap (λ (q : Memory). q.pulse) (if_false (enabled_by (sight_of x.now c) register w) _ _ closed);
        })

    -- Every call.
    pub call_does : (c : Call) → Does x c
    unfolding perform_of clear_of answering
    call_does (Read register) =
        let r : Rests x.now (perform_of x.now (Read register)) = read-rests x.now on register in
        stays
        (record {
          same = r.same;
          clock = r.clock;
          wire =
              if_keeps (λ (e : Entry). (entered (terms s) e l).wire ≡ l.wire)
              (is_value (perform_of x.now (Read register)).answer && eqb register 3) _ _
              (λ e. refl)
              (λ e. refl);
          pulse = refl;
        })
    call_does (Write register w) = write-does register w
    call_does (Tick sdi ss) = tick-does sdi ss
    call_does (Pin sck sdi ss) = pin-does sck sdi ss
    call_does (ClockStep sck sdi ss) = step-does sck sdi ss
    call_does Clear = stays (record { same = record { con1 = refl; con2 = refl }; clock = refl; wire = refl; pulse = refl })
