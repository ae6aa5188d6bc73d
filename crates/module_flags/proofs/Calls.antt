-- The flags after every call.
--     FlagsOf      an outcome after which the flags are as they must be, by the law's operations or with no word seen
--     call_flags   every call has such an outcome
-- Assumes nothing.
use Rattle.std.specs.Prelude.{◌≤◌, ◌&&◌, ◌||◌, ◌≡◌}
use Rattle.laws.proofs.Common.{ℕ, Bool, true, false, not, or-false, List, [], refl, sym, ap, subst₂}
use Rattle.laws.proofs.Common.{arith, leb-false, when◌then◌else◌, clash, and_both, and_first}
use Rattle.word_order.specs.Bits.{bit_of}
use Rattle.word_order.specs.Ledger.{Op}
use Rattle.word_order.specs.Machine.{Entry, opens, notes, is_opening}
use Rattle.module_rules.proofs.Types.{Settings, Engine, Module, Answer, Refused, Done, Value, NoEdge, Edge, Refusal, Outcome}
use Rattle.module_rules.proofs.Types.{Call, Read, Write, Tick, Pin, ClockStep, Clear, Receive, Transmit}
use Rattle.module_rules.specs.Settings.{depth_of, frame_client}
use Rattle.module_rules.specs.Registers.{spitbf, low_bits, stat_settings, stat_engine, enabled_engine, disabled_engine, spirov_after}
use Rattle.module_rules.specs.Buffers.{empty_transmit, empty_receive, unread, waiting}
use Rattle.module_rules.specs.Refusals.{is_done}
use Rattle.module_rules.specs.RefusalTable.{asks, writes, is_clear}
use Rattle.module_rules.specs.Edge.{levels, stepped}
use Rattle.module_rules.specs.Calls.{refuse, answering, read_of, write_of, told_select, clear_of, perform_of}
use Rattle.module_rules.specs.Invariant.{ModuleHolds}
use Rattle.module_rules.specs.Watch.{shows_pulse, Memory, entry_of, level_ops}
use Rattle.module_rules.specs.Flags.{raised}
use Rattle.module_rules.proofs.ClockSteps.{step_cases, tick_cases, pins_cases}
use Rattle.module_invariant.proofs.Engine.{engine_of}
use Rattle.module_invariant.proofs.Pulses.{shows_pulse_lem}
use Rattle.module_invariant.proofs.CallCases.{read_cases, write_cases}
use Rattle.module_order.proofs.Edges.{sight_at}
use Rattle.module_order.proofs.Levels.{Recalls}
use Rattle.module_flags.proofs.Happened.{ops_of, happened, quiet_raises}
use Rattle.module_flags.proofs.Steps.{module_of, Raises, taken_flags, written_flags}
use Rattle.module_flags.proofs.Levels.{level_flags}

-- SPIROV after a call, by what it loses.
abbrev pub spirov_by : Module → Call → Answer → Bool → Bool
spirov_by m c a lost = when is_done a && writes 0 c then m.engine.spirov && bit_of (asks c).value 6 else m.engine.spirov || lost

-- A call of an enabled module that stays enabled, by its operations.
pub record Flagged (m : Module) (c : Call) (os : List Op) (o : Outcome) : Type 0 where
  pub flag : o.after.engine.interrupt
      ≡ (not (is_clear c) && (m.engine.interrupt || raised m.settings (happened m os o.after)))
  pub spirov : o.after.engine.spirov ≡ spirov_by m c o.answer (happened m os o.after).lost

-- A call of which no word is seen: the module was disabled, or is then.
pub record Plain (m : Module) (c : Call) (e : Entry) (o : Outcome) : Type 0 where
  pub flag : o.after.engine.interrupt ≡ (not (is_clear c) && m.engine.interrupt)
  pub spirov : o.after.engine.spirov ≡ spirov_by m c o.answer false
  pub unnoted : is_opening e ≡ false → e ≡ notes []
  pub unread : o.after.engine.receive.count ≤ m.engine.receive.count
  pub waiting : o.after.settings.spien ≡ true → m.engine.transmit.count ≤ o.after.engine.transmit.count

unfoldable pub FlagsOf : Module → Call → Memory → Bool → ℕ → Outcome → Type 0
FlagsOf m c x busy k o =
    let e : Entry = entry_of x (sight_at m.settings m.engine o.answer (shows_pulse o.after)) busy k c in
    (m.settings.spien ≡ true → o.after.settings.spien ≡ true → Flagged m c (ops_of e) o)
    × ((m.settings.spien && o.after.settings.spien) ≡ false → Plain m c e o)

-- The flags stay, nothing is noted and no word passes.
plain_by : {m : Module} {c : Call} {e : Entry} {o : Outcome} →
    o.after.engine.interrupt ≡ (not (is_clear c) && m.engine.interrupt) →
    o.after.engine.spirov ≡ spirov_by m c o.answer false → (is_opening e ≡ false → e ≡ notes []) →
    o.after.engine.receive.count ≤ m.engine.receive.count →
    (o.after.settings.spien ≡ true → m.engine.transmit.count ≤ o.after.engine.transmit.count) → Plain m c e o
plain_by i v n r t = record { flag = i; spirov = v; unnoted = n; unread = r; waiting = t }

-- A STAT write notes nothing unless it opens a ledger.
stat_unnoted : (b : Bool) → is_opening (when b then opens else notes []) ≡ false → (when b then opens else notes []) ≡ notes []
unfolding when◌then◌else◌
stat_unnoted true e = clash true refl e
stat_unnoted false e = refl

module _ (m : Module) (x : Memory) (busy : Bool) (k : ℕ) (h : ModuleHolds m) (was : m.settings.spien ≡ true → Recalls m x) where
  abbrev entered : Call → Answer → Module → Entry
  entered c a after = entry_of x (sight_at m.settings m.engine a (shows_pulse after)) busy k c

  -- Nothing was noted, and no word passed.
  calm : (c : Call) (a : Answer) (n : Engine) → entered c a (module_of m.settings n) ≡ notes [] →
      n.transmit ≡ m.engine.transmit → n.receive ≡ m.engine.receive →
      n.interrupt ≡ (not (is_clear c) && m.engine.interrupt) → n.spirov ≡ m.engine.spirov → (is_done a && writes 0 c) ≡ false →
      FlagsOf m c x busy k (record { answer = a; after = module_of m.settings n })
  unfolding FlagsOf when◌then◌else◌
  calm c a n none t r i v stat =
      let after : Module = module_of m.settings n in
      let quiet : raised m.settings (happened m [] after) ≡ false =
      quiet_raises m [] after refl refl refl (ap (unread (depth_of m.settings)) r) (ap (waiting (depth_of m.settings)) t) in
      rw none (
        λ on on'. record { flag = cc (quiet, or-false m.engine.interrupt); spirov = cc (or-false m.engine.spirov) },
        λ off.
            record {
              flag = i;
              spirov = cc (or-false m.engine.spirov);
              unnoted = λ o. refl;
              unread = omega (arith, ap (λ (q : Receive). q.count) r);
              waiting = λ on. omega (arith, ap (λ (q : Transmit). q.count) t);
            },
      )

  refused : (c : Call) (r : Refusal) → is_clear c ≡ false → FlagsOf m c x busy k (refuse m r)
  unfolding refuse when◌then◌else◌
  refused (Read register) r plain = calm (Read register) (Refused r) m.engine refl refl refl refl refl refl
  refused (Write register v) r plain = calm (Write register v) (Refused r) m.engine refl refl refl refl refl refl
  refused (Tick sdi ss) r plain = calm (Tick sdi ss) (Refused r) m.engine refl refl refl refl refl refl
  refused (Pin sck sdi ss) r plain = calm (Pin sck sdi ss) (Refused r) m.engine refl refl refl refl refl refl
  refused (ClockStep sck sdi ss) r plain = calm (ClockStep sck sdi ss) (Refused r) m.engine refl refl refl refl refl refl
  refused Clear r plain = clash true refl plain

  -- A step of an enabled module.
  stepped-flags : m.settings.spien ≡ true → (c : Call) (a : Answer) (os : List Op) (n : Engine) →
      entered c a (module_of m.settings n) ≡ notes os → is_clear c ≡ false → (is_done a && writes 0 c) ≡ false →
      Raises m.settings m.engine os n → FlagsOf m c x busy k (record { answer = a; after = module_of m.settings n })
  unfolding FlagsOf when◌then◌else◌
  stepped-flags on c a os n noted' unclear stat r =
      rw noted' (
        λ on' on''. record { flag = cc r.flag; spirov = cc r.spirov },
        λ off. clash (m.settings.spien && m.settings.spien) (and_both _ _ on on) off,
      )

  read_flags : (register : ℕ) → FlagsOf m (Read register) x busy k (read_of m register)
  unfolding answering when◌then◌else◌
  read_flags =
      read_cases m (λ i. FlagsOf m (Read i) x busy k) (λ i r. refused (Read i) r refl)
      (λ i v other. calm (Read i) (Value v) m.engine (rw other) refl refl refl refl refl)
      (λ on unmarked some. stepped-flags on (Read 3) _ _ _ refl refl refl (taken_flags m.settings m.engine _))

  write-flags : (register v : ℕ) → FlagsOf m (Write register v) x busy k (write_of m register v)
  unfolding FlagsOf answering spitbf stat_settings enabled_engine disabled_engine stat_engine spirov_after empty_receive empty_transmit when◌then◌else◌
  write-flags register v =
      let s : Settings = m.settings in
      let up : Bool = not s.spien && bit_of v 15 in
      let rewritten : Module = module_of (stat_settings v s) (stat_engine v m.engine) in
      write_cases m v (λ i. FlagsOf m (Write i v) x busy k) (λ i r. refused (Write i v) r refl)
      (λ off high good. (
        λ on. clash s.spien on off,
        λ o. plain_by refl refl (stat_unnoted up) (omega arith) (λ on. omega arith),
      ))
      (λ on down. (
        λ on' high. clash (bit_of v 15) high down,
        λ o. plain_by refl refl (stat_unnoted up) (omega arith) (λ high. clash (bit_of v 15) high down),
      ))
      (λ same. (
        λ on high.
            rw (and_first (not s.spien) (bit_of v 15) (ap not on))
            (record {
              flag = cc (quiet_raises m [] rewritten refl refl refl refl refl, or-false m.engine.interrupt);
              spirov = refl;
            }),
        λ o. plain_by refl refl (stat_unnoted up) (omega arith) (λ on. omega arith),
      ))
      (λ off. (
        λ on. clash s.spien on off,
        λ o. plain_by refl (sym (or-false _)) (λ f. refl) (omega arith) (λ on. omega arith),
      ))
      (λ off. (
        λ on. clash s.spien on off,
        λ o. plain_by refl (sym (or-false _)) (λ f. refl) (omega arith) (λ on. omega arith),
      ))
      (λ on room.
      stepped-flags on (Write 3 v) Done _ _ refl refl refl
      (written_flags s on m.engine (low_bits s v) (leb-false (depth_of s) m.engine.transmit.count room)))
      register

  -- Ticks, pin calls and clock steps.
  abbrev after : Bool → Bool → Bool → Module
  after sck sdi ss = module_of m.settings (stepped m.settings (levels sck sdi ss) m.engine)

  seen-flags : m.settings.spien ≡ true → (a : Answer) (sck sdi ss : Bool) →
      Raises m.settings m.engine (level_ops (sight_at m.settings m.engine a (shows_pulse (after sck sdi ss))) x sck sdi ss)
      (after sck sdi ss).engine
  seen-flags on a sck sdi ss =
      level_flags m.settings on a (shows_pulse (after sck sdi ss)) x sck sdi ss m.engine (engine_of m h) (was on).sck (was on).pulse
      (λ host. shows_pulse_lem (after sck sdi ss) on host)

  -- The next edge of a host with its own clock, by a call that the watcher notes so.
  turn-flags : m.settings.spien ≡ true → (c : Call) (a : Answer) (sdi ss : Bool) →
      let told : Bool = when frame_client m.settings then ss else x.ss in
      entered c a (after (not x.sck) sdi told)
      ≡ notes (level_ops (sight_at m.settings m.engine a (shows_pulse (after (not x.sck) sdi told))) x (not x.sck) sdi told) →
      is_clear c ≡ false → (is_done a && writes 0 c) ≡ false →
      FlagsOf m c x busy k (record { answer = a; after = after (not m.engine.pins.sck) sdi (told_select m ss) })
  turn-flags on c a sdi ss noted' unclear stat =
      let told : Bool = when frame_client m.settings then ss else x.ss in
      let told' : told_select m ss ≡ told = ap (λ (b : Bool). when frame_client m.settings then ss else b) (sym (was on).ss) in
      let turn : not m.engine.pins.sck ≡ not x.sck = ap not (sym (was on).sck) in
      subst₂ (λ (p q : Bool). FlagsOf m c x busy k (record { answer = a; after = after p sdi q })) (sym turn) (sym told')
      (stepped-flags on c a _ _ noted' unclear stat (seen-flags on a (not x.sck) sdi told))

  -- Every call.
  pub call_flags : (c : Call) → FlagsOf m c x busy k (perform_of m c)
  unfolding perform_of clear_of answering when◌then◌else◌
  call_flags (Read register) = read_flags register
  call_flags (Write register v) = write-flags register v
  call_flags (Tick sdi ss) =
      let c : Call = Tick sdi ss in
      tick_cases m sdi ss (FlagsOf m c x busy k) (refused c _ refl) (refused c _ refl)
      (λ on own still. calm c NoEdge m.engine refl refl refl refl refl refl)
      (λ on own moves. turn-flags on c Edge sdi ss refl refl refl)
  call_flags (Pin sck sdi ss) =
      let c : Call = Pin sck sdi ss in
      pins_cases m sck sdi ss (FlagsOf m c x busy k) (refused c _ refl) (refused c _ refl)
      (λ on pin. stepped-flags on c Done _ _ refl refl refl (seen-flags on Done sck sdi ss))
  call_flags (ClockStep sck sdi ss) =
      let c : Call = ClockStep sck sdi ss in
      step_cases m sck sdi ss (FlagsOf m c x busy k) (λ off. refused c _ refl)
      (λ on own still. calm c NoEdge m.engine refl refl refl refl refl refl)
      (λ on own moves. turn-flags on c Done sdi ss (rw own) refl refl)
      (λ on pin. stepped-flags on c Done _ _ (rw pin) refl refl (seen-flags on Done sck sdi ss))
  call_flags Clear = calm Clear Done _ refl refl refl refl refl refl
