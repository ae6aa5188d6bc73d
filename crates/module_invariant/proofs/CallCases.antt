-- What holds of each outcome of a call holds of the call, so that a proof over all calls names each outcome once.
--     register_cases            a register number is one of the four, or above 3
--     read_cases, write_cases   register calls, by what they come to at each register
--     Outcomes, call_cases      every call, for what looks at its outcome alone
-- The cases of clock steps, ticks and pin calls are in module_rules, proofs/ClockSteps.antt.
-- Assumes nothing.
use Rattle.std.specs.Prelude.{◌<◌, ◌&&◌, ◌≡◌}
use Rattle.laws.proofs.Common.{ℕ, zero, suc, Bool, true, false, not, refl, sym, ap, ◌∙◌, arith, lt-ltb}
use Rattle.laws.proofs.Common.{not-true, not-false, eqb, ltb, when◌then◌else◌, if_keeps, by_test, clash, and_left, and_right}
use Rattle.laws.proofs.Common.{and_rest, and_rest_first}
use Rattle.word_order.specs.Bits.{bit_of}
use Rattle.module_rules.proofs.Types.{Con1, Con2, Settings, Engine, Module, Outcome, Answer, Refused, Done, Value, NoEdge}
use Rattle.module_rules.proofs.Types.{Edge, Refusal, NoSuchRegister, Disabled, Enabled, TransmitFull, ReceiveEmpty, Overflowed}
use Rattle.module_rules.proofs.Types.{Call, Read, Write, Tick, Pin, ClockStep, Clear}
use Rattle.module_rules.specs.Settings.{clock_stops, own_clock, unframed_host}
use Rattle.module_rules.specs.Refusals.{bad_settings}
use Rattle.module_rules.specs.Registers.{con1_from, con2_from, is_free, spitbf, stat_settings, stat_engine, enabled_engine, disabled_engine, low_bits}
use Rattle.module_rules.specs.Buffers.{empty, first_unread}
use Rattle.module_rules.specs.Edge.{Levels}
use Rattle.module_rules.specs.Calls.{refuse, answering, word_taken, read_buf, read_of, turns_on, turns_off, stat_written, write_stat, with_con1, with_con2, configured, word_written, write_buf, write_of, clear_of, perform_of}
use Rattle.module_rules.proofs.ClockSteps.{seeing, step_cases, tick_cases, pins_cases}

pub register_cases : (P : ℕ → Type 0) → P 0 → P 1 → P 2 → P 3 → ((k : ℕ) → ltb 3 k ≡ true → P k) → (register : ℕ) → P register
register_cases P a b c d above zero = a
register_cases P a b c d above (suc zero) = b
register_cases P a b c d above (suc (suc zero)) = c
register_cases P a b c d above (suc (suc (suc zero))) = d
register_cases P a b c d above (suc (suc (suc (suc k)))) =
    above (suc (suc (suc (suc k)))) (lt-ltb 3 (suc (suc (suc (suc k)))) (omega arith))

-- A done write, of STAT, and of CON1 or CON2.
abbrev done_with : Settings → Engine → Outcome
done_with s n = record { answer = Done; after = record { settings = s; engine = n } }

abbrev pub stat_done : Module → ℕ → Engine → Outcome
stat_done m v n = done_with (stat_settings v m.settings) n

abbrev pub configured_to : Module → Con1 → Con2 → Outcome
configured_to m c d =
    let s : Settings = m.settings in
    done_with
    (record { depth = s.depth; spien = s.spien; spisidl = s.spisidl; sisel = s.sisel; con1 = c; con2 = d }) m.engine

module _ (m : Module) where
  abbrev word_read : ℕ
  word_read = low_bits m.settings (first_unread m.engine.receive)

  -- A read is refused, shows a register and changes nothing, or takes a word.
  pub read_cases : (P : ℕ → Outcome → Type 0) → ((register : ℕ) (r : Refusal) → P register (refuse m r)) →
      ((register v : ℕ) → eqb register 3 ≡ false → P register (record { answer = Value v; after = m })) →
      (m.settings.spien ≡ true → m.engine.receive.marked ≡ false → empty m.engine.receive.count ≡ false →
      P 3 (answering m (Value word_read) (word_taken m.settings m.engine))) →
      (register : ℕ) → P register (read_of m register)
  unfolding read_of read_buf when◌then◌else◌
  read_cases P refused shown taken =
      register_cases (λ k. P k (read_of m k)) (shown 0 _ refl) (shown 1 _ refl) (shown 2 _ refl)
      (if_keeps (P 3) (not m.settings.spien) _ _ (λ off. refused 3 Disabled)
      (λ on.
      if_keeps (P 3) m.engine.receive.marked _ _ (λ marked. refused 3 Overflowed)
      (λ plain.
      if_keeps (P 3) (empty m.engine.receive.count) _ _ (λ none. refused 3 ReceiveEmpty)
      (taken (not-false m.settings.spien on) plain))))
      (λ k above. rw above (refused k NoSuchRegister))

  -- A write is refused; it enables the module, disables it or leaves it so; it configures a disabled one; or a word is accepted.
  module _ (v : ℕ) (P : ℕ → Outcome → Type 0) (refused : (register : ℕ) (r : Refusal) → P register (refuse m r))
      (enables : m.settings.spien ≡ false → bit_of v 15 ≡ true → bad_settings m.settings ≡ false →
      P 0 (stat_done m v (enabled_engine v m.settings.con1 m.engine)))
      (disables : m.settings.spien ≡ true → bit_of v 15 ≡ false → P 0 (stat_done m v (disabled_engine v m.engine)))
      (rewrites : bit_of v 15 ≡ m.settings.spien → P 0 (stat_done m v (stat_engine v m.engine)))
      (con1 : m.settings.spien ≡ false → P 1 (configured_to m (con1_from v) m.settings.con2))
      (con2 : m.settings.spien ≡ false → P 2 (configured_to m m.settings.con1 (con2_from v)))
      (written : m.settings.spien ≡ true → spitbf m ≡ false →
      P 3 (answering m Done (word_written m.settings (low_bits m.settings v) m.engine)))
    where
      stat-cases : P 0 (write_stat m v)
      unfolding write_stat stat_written turns_on turns_off
      stat-cases =
          let s : Settings = m.settings in
          if_keeps (P 0) (turns_on s v && bad_settings s) _ _ (λ bad. refused 0 _)
          (λ good.
          if_keeps (λ (n : Engine). P 0 (stat_done m v n)) (not s.spien && bit_of v 15) _ _
          (λ up.
          enables (not-true s.spien (and_left (not s.spien) _ up)) (and_right (not s.spien) _ up)
          (and_rest (turns_on s v) _ good up))
          (λ not-up.
          if_keeps (λ (n : Engine). P 0 (stat_done m v n)) (s.spien && not (bit_of v 15)) _ _
          (λ down. disables (and_left s.spien _ down) (not-true (bit_of v 15) (and_right s.spien _ down)))
          (λ not-down.
          rewrites
          (by_test (bit_of v 15) (λ up. up ∙ sym (not-false s.spien (and_rest_first (not s.spien) _ not-up up)))
          (λ down. down ∙ sym (and_rest_first s.spien _ not-down (ap not down)))))))

      configured-cases : (register : ℕ) (s : Settings) →
          (m.settings.spien ≡ false → P register (done_with s m.engine)) → P register (configured m s)
      unfolding configured
      configured-cases register s done = if_keeps (P register) m.settings.spien _ _ (λ on. refused register Enabled) done

      pub write_cases : (register : ℕ) → P register (write_of m register v)
      unfolding write_of with_con1 with_con2 write_buf when◌then◌else◌
      write_cases =
          register_cases (λ k. P k (write_of m k v)) stat-cases (configured-cases 1 _ con1) (configured-cases 2 _ con2)
          (if_keeps (P 3) (not m.settings.spien) _ _ (λ off. refused 3 Disabled)
          (λ on.
          if_keeps (P 3) (spitbf m) _ _ (λ none. refused 3 TransmitFull) (written (not-false m.settings.spien on))))
          (λ k above. rw above (refused k NoSuchRegister))

-- An answer of a call that has levels seen.
abbrev pub sees : Answer → Bool
sees (Refused r) = false
sees Done = true
sees (Value v) = false
sees NoEdge = false
sees Edge = true

-- The outcomes of calls: nothing changes; a word is taken; STAT enables, disables or neither; CON1 or CON2 is written; a word is
-- accepted; levels are seen; the interrupt flag is cleared.
pub record Outcomes (m : Module) (P : Outcome → Type 0) : Type 0 where
  pub same : (a : Answer) → P (record { answer = a; after = m })
  pub taken : m.settings.spien ≡ true → m.engine.receive.marked ≡ false →
      (v : ℕ) → P (answering m (Value v) (word_taken m.settings m.engine))
  pub enables : m.settings.spien ≡ false → (v : ℕ) → bit_of v 15 ≡ true → bad_settings m.settings ≡ false →
      P (stat_done m v (enabled_engine v m.settings.con1 m.engine))
  pub disables : m.settings.spien ≡ true → (v : ℕ) → bit_of v 15 ≡ false → P (stat_done m v (disabled_engine v m.engine))
  pub rewrites : (v : ℕ) → bit_of v 15 ≡ m.settings.spien → P (stat_done m v (stat_engine v m.engine))
  pub configures : m.settings.spien ≡ false → (c : Con1) (d : Con2) → (m.settings.con1.spre < 8 → c.spre < 8) →
      (m.settings.con1.ppre < 4 → c.ppre < 4) → P (configured_to m c d)
  pub written : m.settings.spien ≡ true → (v : ℕ) →
      P (answering m Done (word_written m.settings (low_bits m.settings v) m.engine))
  pub seen : m.settings.spien ≡ true → (a : Answer) → sees a ≡ true → (x : Levels) →
      (unframed_host m.settings ≡ true → is_free m.engine.shift ≡ false) → P (answering m a (seeing m x))
  pub cleared : P (clear_of m)

module _ (m : Module) (P : Outcome → Type 0) (h : Outcomes m P) where
  -- An edge of a host with its own clock finds a word in its shift register, unless its clock runs on; a module that is
  -- clocked from its pin has no such clock.
  own_busy : (clock_stops m.settings && is_free m.engine.shift) ≡ false → unframed_host m.settings ≡ true →
      is_free m.engine.shift ≡ false
  own_busy moves host = and_rest (clock_stops m.settings) _ moves (and_right (own_clock m.settings) _ host)

  pin-busy : own_clock m.settings ≡ false → unframed_host m.settings ≡ true → is_free m.engine.shift ≡ false
  pin-busy pin host = clash (own_clock m.settings) (and_left (own_clock m.settings) _ host) pin

  refusal : (r : Refusal) → P (refuse m r)
  unfolding refuse
  refusal r = h.same (Refused r)

  pub call_cases : (c : Call) → P (perform_of m c)
  unfolding perform_of con1_from
  call_cases (Read register) =
      read_cases m (λ k. P) (λ k. refusal) (λ k v other. h.same (Value v)) (λ on plain some. h.taken on plain _) register
  call_cases (Write register v) =
      write_cases m v (λ k. P) (λ k. refusal) (λ off. h.enables off v) (λ on. h.disables on v) (h.rewrites v)
      (λ off. h.configures off _ _ (λ k. omega arith) (λ k. omega arith)) (λ off. h.configures off _ _ (λ k. k) (λ k. k))
      (λ on room. h.written on v) register
  call_cases (Tick sdi ss) =
      tick_cases m sdi ss P (refusal _) (refusal _) (λ on own still. h.same NoEdge)
      (λ on own moves. h.seen on Edge refl _ (own_busy moves))
  call_cases (Pin sck sdi ss) =
      pins_cases m sck sdi ss P (refusal _) (refusal _) (λ on pin. h.seen on Done refl _ (pin-busy pin))
  call_cases (ClockStep sck sdi ss) =
      step_cases m sck sdi ss P (λ off. refusal _) (λ on own still. h.same NoEdge)
      (λ on own moves. h.seen on Done refl _ (own_busy moves))
      (λ on pin. h.seen on Done refl _ (pin-busy pin))
  call_cases Clear = h.cleared
