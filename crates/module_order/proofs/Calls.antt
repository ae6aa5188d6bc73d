-- Every call of the module is a step of the law.
--     written_port, taken_port   BUF writes and reads, by their words
--     StepOf                     an outcome after which the module and its watcher are as the law asks
--     call_steps                 every call has such an outcome
-- Assumes nothing.
use Rattle.std.specs.Prelude.{◌^◌, ◌≤◌, ◌<◌, ◌∷◌, ◌++◌, ◌≡◌}
use Rattle.laws.proofs.Common.{ℕ, Bool, true, false, not, List, [], append_assoc, refl, sym}
use Rattle.laws.proofs.Common.{ap, subst₂, ◌∙◌, arith, leb-false, eqb-false, drop, when◌then◌else◌, clash, and_both, and_first}
use Rattle.word_order.specs.Bits.{bit_of}
use Rattle.word_order.specs.Ledger.{accepts, reads}
use Rattle.word_order.specs.Port.{emptied, played, is_under}
use Rattle.word_order.specs.Machine.{Entry, notes, Step}
use Rattle.module_rules.proofs.Types.{Settings, Engine, Module, Receive, Shift, Free, Loaded, Begun, Answer, Done, Edge}
use Rattle.module_rules.proofs.Types.{Refusal, Outcome, Call, Read, Write, Tick, Pin, ClockStep, Clear}
use Rattle.module_rules.specs.Settings.{width_of, depth_of, framed, frame_host, frame_client}
use Rattle.module_rules.specs.Registers.{spitbf, low_bits, stat_settings, stat_engine, enabled_engine}
use Rattle.module_rules.specs.Buffers.{waiting, unread, first_unread, taken, empty_receive}
use Rattle.module_rules.specs.Interrupts.{noted}
use Rattle.module_rules.specs.Loading.{rested, sdo_at}
use Rattle.module_rules.specs.Edge.{levels, stepped}
use Rattle.module_rules.specs.Calls.{refuse, answering, word_taken, read_of, word_written, write_of, told_select, clear_of, perform_of}
use Rattle.module_rules.specs.Words.{unfinished}
use Rattle.module_rules.specs.Invariant.{ModuleHolds}
use Rattle.module_rules.specs.Watch.{terms, way_of, shows_pulse, Sight, sight_of, Memory, level_ops, levels_kept, entry_of, memory_after}
use Rattle.module_rules.proofs.Sizes.{depth_most, low_bits_fit}
use Rattle.module_rules.proofs.BuffersOrder.{written_appends, taken_takes_first}
use Rattle.module_rules.proofs.ClockSteps.{step_cases, tick_cases, pins_cases}
use Rattle.module_invariant.proofs.Parts.{queued, BuffersHold}
use Rattle.module_invariant.proofs.BuffersKept.{written_keeps}
use Rattle.module_invariant.proofs.Engine.{engine_of}
use Rattle.module_invariant.proofs.Buf.{taken_marked}
use Rattle.module_invariant.proofs.Uses.{first_unread_whole}
use Rattle.module_invariant.proofs.Words.{loaded_order, disabled_waiting_none, disabled_unread_none}
use Rattle.module_invariant.proofs.FinishWords.{loaded_spares, loaded_way, begun_under}
use Rattle.module_invariant.proofs.Pulses.{shows_pulse_lem}
use Rattle.module_invariant.proofs.CallCases.{read_cases, write_cases}
use Rattle.module_order.proofs.Ports.{port_of, port_is}
use Rattle.module_order.proofs.Edges.{Steps, sight_at, level_steps}
use Rattle.module_order.proofs.Levels.{Recalls, level_recalls}
use Rattle.word_order.specs.Port as port

-- A BUF write: the word stands last among those owed.
written_port : (s : Settings) (n : Engine) → BuffersHold s n → (word : ℕ) → word < 2 ^ width_of s → n.transmit.count < depth_of s →
    port_of s (word_written s word n) ≡ played (terms s) (accepts word) (port_of s n)
unfolding word_written rested sdo_at noted
written_port s n b word fits room =
    let q : Engine = queued s word n in
    let spared = loaded_spares s q in
    port_is
    (loaded_order s q (unfinished s) refl (λ w. refl)
    (record { transmit = written_keeps s n.transmit b.transmit word fits; receive = b.receive })
    ∙ ap (λ (x : List ℕ). unfinished s n.shift ++ x)
    (written_appends (depth_of s) n.transmit (depth_most s) b.transmit.cells b.transmit.ring word room)
    ∙ sym (append_assoc (unfinished s n.shift) (waiting (depth_of s) n.transmit) (word ∷ [])))
    (loaded_way s q)
    (ap (unread (depth_of s)) spared.receive)
    (ap (λ (r : Receive). r.marked) spared.receive)

-- A BUF read: the first unread word is taken.
taken_port : (s : Settings) (n : Engine) → BuffersHold s n → 1 ≤ n.receive.count →
    (port_of s (word_taken s n) ≡ played (terms s) (reads (first_unread n.receive)) (port_of s n))
    × port.Reads (first_unread n.receive) (unread (depth_of s) n.receive)
unfolding word_taken noted
taken_port s n b some =
    let first = taken_takes_first (depth_of s) n.receive (depth_most s) b.receive.cells b.receive.ring some in
    let rest : unread (depth_of s) (taken (depth_of s) n.receive) ≡ drop 1 (unread (depth_of s) n.receive) =
    sym (ap (drop 1) first) in (
      port_is refl refl rest (taken_marked (depth_of s) n.receive),
      record { first = first ∙ ap (λ (q : List ℕ). first_unread n.receive ∷ q) rest },
    )

-- A call, by its outcome.
unfoldable pub StepOf : Module → Call → Memory → Bool → ℕ → Outcome → Type 0
StepOf m c x busy k o =
    let v : Sight = sight_at m.settings m.engine o.answer (shows_pulse o.after) in
    o.after.settings.spien ≡ true →
    Step (terms m.settings) (terms o.after.settings) m.settings.spien (entry_of x v busy k c) (port_of m.settings m.engine)
    (port_of o.after.settings o.after.engine)
    × ((later : Bool) → later ≡ is_under (way_of o.after.engine.shift) → Recalls o.after (memory_after x v later c))

-- A STAT write leaves what word order looks at.
module _ (v : ℕ) (s : Settings) where
  pub stat_unfinished : (sh : Shift) → unfinished (stat_settings v s) sh ≡ unfinished s sh
  unfolding stat_settings
  stat_unfinished Free = refl
  stat_unfinished (Loaded word) = refl
  stat_unfinished (Begun p) = refl

  stat-port : (n : Engine) → port_of (stat_settings v s) (stat_engine v n) ≡ port_of s n
  unfolding stat_settings stat_engine
  stat-port n = port_is (ap (λ (q : List ℕ). q ++ waiting (depth_of s) n.transmit) (stat_unfinished n.shift)) refl refl refl

  opened-port : (n : Engine) → ModuleHolds (record { settings = s; engine = n }) → s.spien ≡ false →
      port_of (stat_settings v s) (enabled_engine v s.con1 n) ≡ emptied
  unfolding stat_settings enabled_engine empty_receive
  opened-port n h off =
      let m : Module = record { settings = s; engine = n } in
      let free : n.shift ≡ Free = (h.emptied off).shift in
      port_is
      (ap (λ (z : Shift). unfinished (stat_settings v s) z ++ waiting (depth_of s) n.transmit) free ∙ disabled_waiting_none m h off)
      (ap way_of free)
      (disabled_unread_none m h off)
      (ap (λ (r : Receive). r.marked) (h.emptied off).receive)

module _ (m : Module) (x : Memory) (busy : Bool) (k : ℕ) (h : ModuleHolds m) (was : m.settings.spien ≡ true → Recalls m x)
    (plain : m.settings.spien ≡ true → framed m.settings ≡ false → m.engine.pins.pulse ≡ false) where
  -- Nothing was noted, and no word or level changed.
  calm : (n : Engine) (e : Entry) → e ≡ notes [] → port_of m.settings n ≡ port_of m.settings m.engine →
      n.pins ≡ m.engine.pins → (y : Bool → Memory) → ((later : Bool) → y later ≡ x) → m.settings.spien ≡ true →
      Step (terms m.settings) (terms m.settings) m.settings.spien e (port_of m.settings m.engine) (port_of m.settings n)
      × ((later : Bool) → later ≡ is_under (way_of n.shift) → Recalls (record { settings = m.settings; engine = n }) (y later))
  calm n e none words pins y same on = (
    rw none (record { ports = words; legal = tt; stays = λ f. (on, refl) }),
    λ later is.
        rw (same later)
        (record {
          sck = (was on).sck ∙ sym (ap (λ q. q.sck) pins);
          ss = (was on).ss ∙ sym (ap (λ q. q.ss) pins);
          pulse = (was on).pulse ∙ sym (ap (λ q. q.pulse) pins);
        }),
  )

  refused : (c : Call) (r : Refusal) → StepOf m c x busy k (refuse m r)
  unfolding refuse when◌then◌else◌ StepOf
  refused (Read register) r = calm m.engine _ refl refl refl _ (λ later. refl)
  refused (Write register v) r = calm m.engine _ refl refl refl _ (λ later. refl)
  refused (Tick sdi ss) r = calm m.engine _ refl refl refl _ (λ later. refl)
  refused (Pin sck sdi ss) r = calm m.engine _ refl refl refl _ (λ later. refl)
  refused (ClockStep sck sdi ss) r = calm m.engine _ refl refl refl _ (λ later. refl)
  refused Clear r = calm m.engine _ refl refl refl _ (λ later. refl)

  read-steps : (register : ℕ) → StepOf m (Read register) x busy k (read_of m register)
  unfolding answering word_taken noted when◌then◌else◌ StepOf
  read-steps =
      let s : Settings = m.settings in
      let r : Receive = m.engine.receive in
      read_cases m (λ i. StepOf m (Read i) x busy k) (λ i. refused (Read i))
      (λ i v other. calm m.engine _ (rw other) refl refl _ (λ later. refl))
      (λ on unmarked some open'.
      let there : r.count ≡ 0 → ⊥ = eqb-false r.count 0 some in
      let words = taken_port s m.engine (engine_of m h).buffers (omega arith) in (
        record {
          ports = words.0;
          legal = (rw (first_unread_whole m h) words.1, tt);
          stays = λ f. (open', refl);
        },
        λ later is. record { sck = (was on).sck; ss = (was on).ss; pulse = (was on).pulse },
      ))

  write-steps : (register v : ℕ) → StepOf m (Write register v) x busy k (write_of m register v)
  unfolding answering word_written rested sdo_at noted spitbf stat_settings enabled_engine stat_engine when◌then◌else◌ StepOf
  write-steps register v =
      let s : Settings = m.settings in
      let n : Engine = m.engine in
      let spared = loaded_spares s (queued s (low_bits s v) n) in
      write_cases m v (λ i. StepOf m (Write i v) x busy k) (λ i. refused (Write i v))
      (λ off up good on.
      rw (and_both (not s.spien) (bit_of v 15) (ap not off) up) (
        record { ports = opened-port v s n h off; legal = tt; stays = λ f. clash true refl f },
        λ later is. record { sck = refl; ss = refl; pulse = refl },
      ))
      (λ on down up. clash (bit_of v 15) up down)
      (λ same up.
      let on : s.spien ≡ true = sym same ∙ up in
      rw (and_first (not s.spien) (bit_of v 15) (ap not on)) (
        record { ports = stat-port v s n; legal = tt; stays = λ f. (on, refl) },
        λ later is. record { sck = (was on).sck; ss = (was on).ss; pulse = (was on).pulse },
      ))
      (λ off on. clash s.spien on off)
      (λ off on. clash s.spien on off)
      (λ on room open'. (
        record {
          ports =
              written_port s n (engine_of m h).buffers (low_bits s v) (low_bits_fit s v)
              (leb-false (depth_of s) n.transmit.count room);
          legal = (low_bits_fit s v, tt);
          stays = λ f. (open', refl);
        },
        λ later is.
            record {
              sck = (was on).sck ∙ sym spared.sck;
              ss = (was on).ss ∙ sym spared.ss;
              pulse = (was on).pulse ∙ sym spared.pulse;
            },
      ))
      register

  -- The levels are seen, by a tick, a pin call or a clock step.
  abbrev after : Bool → Bool → Bool → Module
  after sck sdi ss = record { settings = m.settings; engine = stepped m.settings (levels sck sdi ss) m.engine }

  abbrev Seen : Answer → Bool → Bool → Bool → Bool → Bool → Type 0
  Seen a sck sdi ss clock select =
      let v : Sight = sight_at m.settings m.engine a (shows_pulse (after sck sdi ss)) in
      Step (terms m.settings) (terms m.settings) m.settings.spien (notes (level_ops v x clock sdi select))
      (port_of m.settings m.engine)
      (port_of m.settings (after sck sdi ss).engine)
      × ((later : Bool) → later ≡ is_under (way_of (after sck sdi ss).engine.shift) →
      Recalls (after sck sdi ss) (levels_kept v x later clock select))

  seen : (a : Answer) (sck sdi ss : Bool) → m.settings.spien ≡ true → Seen a sck sdi ss sck ss
  seen a sck sdi ss on =
      let s : Settings = m.settings in
      let n : Engine = (after sck sdi ss).engine in
      let shown : Bool = shows_pulse (after sck sdi ss) in
      let gives : frame_host s ≡ true → shown ≡ n.pins.pulse = λ host. shows_pulse_lem (after sck sdi ss) on host in
      let r : Steps s m.engine (level_ops (sight_at s m.engine a shown) x sck sdi ss) n =
      level_steps s on a shown x sck sdi ss m.engine (engine_of m h) (was on).sck (was on).pulse gives in (
        record { ports = r.ports; legal = r.legal; stays = λ f. (on, refl) },
        λ later is.
            level_recalls s a x shown later sck sdi ss m.engine (was on) (is ∙ begun_under n.shift) gives (plain on),
      )

  -- The next edge of a host with its own clock, in the levels that the watcher remembers.
  turns : (a : Answer) (sdi ss : Bool) → m.settings.spien ≡ true →
      Seen a (not m.engine.pins.sck) sdi (told_select m ss) (not x.sck) (when frame_client m.settings then ss else x.ss)
  turns a sdi ss on =
      let told : Bool = when frame_client m.settings then ss else x.ss in
      let told' : told_select m ss ≡ told = ap (λ (b : Bool). when frame_client m.settings then ss else b) (sym (was on).ss) in
      let turn : not m.engine.pins.sck ≡ not x.sck = ap not (sym (was on).sck) in
      subst₂ (λ (c b : Bool). Seen a c sdi b (not x.sck) told) (sym turn) (sym told') (seen a (not x.sck) sdi told on)

  steps : (c : Call) → StepOf m c x busy k (perform_of m c)
  unfolding perform_of clear_of answering when◌then◌else◌ StepOf
  steps (Read register) = read-steps register
  steps (Write register v) = write-steps register v
  steps (Tick sdi ss) =
      tick_cases m sdi ss (StepOf m (Tick sdi ss) x busy k) (refused (Tick sdi ss) _) (refused (Tick sdi ss) _)
      (λ on own still. calm m.engine _ refl refl refl _ (λ later. refl))
      (λ on own moves open'. turns Edge sdi ss on)
  steps (Pin sck sdi ss) =
      pins_cases m sck sdi ss (StepOf m (Pin sck sdi ss) x busy k) (refused (Pin sck sdi ss) _) (refused (Pin sck sdi ss) _)
      (λ on pin open'. seen Done sck sdi ss on)
  steps (ClockStep sck sdi ss) =
      step_cases m sck sdi ss (StepOf m (ClockStep sck sdi ss) x busy k) (λ off. refused (ClockStep sck sdi ss) _)
      (λ on own still. calm m.engine _ refl refl refl _ (λ later. refl))
      (λ on own moves open'. rw own (turns Done sdi ss on))
      (λ on pin open'. rw pin (seen Done sck sdi ss on))
  steps Clear = calm _ _ refl refl refl _ (λ later. refl)

  -- The same, opened.
  pub call_steps : (c : Call) → (perform_of m c).after.settings.spien ≡ true →
      Step (terms m.settings) (terms (perform_of m c).after.settings) m.settings.spien (entry_of x (sight_of m c) busy k c)
      (port_of m.settings m.engine) (port_of (perform_of m c).after.settings (perform_of m c).after.engine)
      × ((later : Bool) → later ≡ is_under (way_of (perform_of m c).after.engine.shift) →
      Recalls (perform_of m c).after (memory_after x (sight_of m c) later c))
  unfolding StepOf
  call_steps c = steps c
