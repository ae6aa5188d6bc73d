-- A call is refused exactly when a row of the table of document 01 applies, with the first that does in the order of the
-- tests, whatever the module.
--     refused_exactly_lem   the demand of specs/Demands.antt
--     never_given_lem        no refusal has the number 4
--     refused_by        a test that refuses by its row: what comes after it is asked only if it fails
--     by_spien          a call is refused exactly if it is so in every enabled and in every disabled module
-- Assumes nothing.
use Rattle.std.specs.Prelude.{◌&&◌, ◌||◌, ◌≡◌}
use Rattle.laws.proofs.Common.{ℕ, Bool, true, false, not, or-false, refl, ap, ◌∙◌, arith, eqb, leb}
use Rattle.laws.proofs.Common.{when◌then◌else◌, if_keeps}
use Rattle.word_order.specs.Bits.{bit_of}
use Rattle.module_rules.proofs.Types.{Module, Outcome, Refusal, NoSuchRegister, Disabled, Enabled, TransmitFull, ReceiveEmpty}
use Rattle.module_rules.proofs.Types.{WrongClock, NoRate, UnreadableLine, DifferentModes, TooManyEdges, Undivided}
use Rattle.module_rules.proofs.Types.{LateSampling, UnselectedCke, Overflowed, NoSuchDepth, Call, Read, Write, Tick, Pin}
use Rattle.module_rules.proofs.Types.{ClockStep, Clear}
use Rattle.module_rules.specs.Settings.{depth_of, own_clock}
use Rattle.module_rules.specs.Refusals.{number_of, said_of, undivided, late_sampling, unselected_cke, causes, bad_settings, first_given}
use Rattle.module_rules.specs.Registers.{spitbf}
use Rattle.module_rules.specs.Buffers.{full, empty}
use Rattle.module_rules.specs.Calls.{refuse, answering, turns_on, read_buf, read_of, write_stat, configured, write_buf, write_of, no_next_edge, clock_step_of, edge_told, tick_of, pins_of, clear_of, perform_of}
use Rattle.module_rules.specs.RefusalTable.{first_number, rows}
use Rattle.module_rules.proofs.BuffersOrder.{waiting_length, unread_length}
use Rattle.module_invariant.proofs.Parts.{restat}
use Rattle.module_invariant.proofs.CallCases.{register_cases}

-- The refusal number that an outcome tells.
abbrev told : Outcome → ℕ
told o = (said_of o.answer).number

-- A test that refuses, and a row that applies by the same test, give the same number if what comes after them does.
refused_by : (m : Module) (r : Refusal) (b c : Bool) (o : Outcome) (k : ℕ) → c ≡ b → (b ≡ false → told o ≡ k) →
    told (when b then refuse m r else o) ≡ (when c then number_of r else k)
unfolding when◌then◌else◌ refuse
refused_by m r true c o k same h = rw same refl
refused_by m r false c o k same h = rw same (h refl)

-- A call is refused exactly by its row if it is so in every module that is enabled and in every one that is not.
by_spien : (c : Call) →
    ((on : Bool) (m : Module) →
    let x : Module =
    record { settings = restat m.settings on m.settings.spisidl m.settings.sisel; engine = m.engine } in
    told (perform_of x c) ≡ first_number (rows x c)) →
    (m : Module) → told (perform_of m c) ≡ first_number (rows m c)
by_spien c h m = h m.settings.spien m

-- The first of three causes that is given, and its number.
first_cause_lem : (up a b c : Bool) (p q r k : ℕ) →
    (when up && (a || (b || c)) then (when a then p else when b then q else r) else k)
    ≡ (when up && a then p else when up && b then q else when up && c then r else k)
unfolding when◌then◌else◌
first_cause_lem true true b c p q r k = refl
first_cause_lem true false true c p q r k = refl
first_cause_lem true false false true p q r k = refl
first_cause_lem true false false false p q r k = refl
first_cause_lem false a b c p q r k = refl

-- The number of the first cause.
cause_number : (a b : Bool) →
    number_of (when a then Undivided else when b then LateSampling else UnselectedCke) ≡ (when a then 13 else when b then 14 else 15)
unfolding when◌then◌else◌ number_of
cause_number true b = refl
cause_number false true = refl
cause_number false false = refl

-- No refusal has the number 4, and none has 12.
pub never_given_lem : (r : Refusal) → (number_of r ≡ 4 → ⊥) × (number_of r ≡ 12 → ⊥)
unfolding number_of
never_given_lem NoSuchRegister = ((λ e. omega (arith, e)), (λ e. omega (arith, e)))
never_given_lem Disabled = ((λ e. omega (arith, e)), (λ e. omega (arith, e)))
never_given_lem Enabled = ((λ e. omega (arith, e)), (λ e. omega (arith, e)))
never_given_lem TransmitFull = ((λ e. omega (arith, e)), (λ e. omega (arith, e)))
never_given_lem ReceiveEmpty = ((λ e. omega (arith, e)), (λ e. omega (arith, e)))
never_given_lem WrongClock = ((λ e. omega (arith, e)), (λ e. omega (arith, e)))
never_given_lem NoRate = ((λ e. omega (arith, e)), (λ e. omega (arith, e)))
never_given_lem UnreadableLine = ((λ e. omega (arith, e)), (λ e. omega (arith, e)))
never_given_lem DifferentModes = ((λ e. omega (arith, e)), (λ e. omega (arith, e)))
never_given_lem TooManyEdges = ((λ e. omega (arith, e)), (λ e. omega (arith, e)))
never_given_lem Undivided = ((λ e. omega (arith, e)), (λ e. omega (arith, e)))
never_given_lem LateSampling = ((λ e. omega (arith, e)), (λ e. omega (arith, e)))
never_given_lem UnselectedCke = ((λ e. omega (arith, e)), (λ e. omega (arith, e)))
never_given_lem Overflowed = ((λ e. omega (arith, e)), (λ e. omega (arith, e)))
never_given_lem NoSuchDepth = ((λ e. omega (arith, e)), (λ e. omega (arith, e)))

-- A read of STAT, CON1 or CON2 is never refused, and a BUF read exactly by its rows.
read_refused : (m : Module) (register : ℕ) → told (perform_of m (Read register)) ≡ first_number (rows m (Read register))
unfolding perform_of read_of read_buf when◌then◌else◌ refuse answering number_of
read_refused m =
    register_cases (λ k. told (perform_of m (Read k)) ≡ first_number (rows m (Read k)))
    (by_spien (Read 0) (elim [ true ↦ λ m. refl | false ↦ λ m. refl ]) m)
    (by_spien (Read 1) (elim [ true ↦ λ m. refl | false ↦ λ m. refl ]) m)
    (by_spien (Read 2) (elim [ true ↦ λ m. refl | false ↦ λ m. refl ]) m)
    (by_spien (Read 3)
    (elim [
      | true ↦ λ m.
          refused_by _ Overflowed m.engine.receive.marked _ _ _ refl
          (λ plain.
          refused_by _ ReceiveEmpty (empty m.engine.receive.count) _ _ 0
          (ap (λ (k : ℕ). eqb k 0) (unread_length _ m.engine.receive)) (λ some. refl))
      | false ↦ λ m. refl
    ])
    m)
    (λ k above. rw above)

-- A STAT write is refused exactly by rows 13 to 15, a CON1 or CON2 write by row 3, and a BUF write by rows 2 and 5.
write_refused : (m : Module) (v register : ℕ) →
    told (perform_of m (Write register v)) ≡ first_number (rows m (Write register v))
unfolding perform_of write_of write_stat turns_on configured write_buf spitbf when◌then◌else◌ refuse answering number_of
write_refused m v =
    register_cases (λ k. told (perform_of m (Write k v)) ≡ first_number (rows m (Write k v)))
    (by_spien (Write 0 v)
    (elim [
      | true ↦ λ m. refl
      | false ↦ λ m.
          let s = m.settings in
          refused_by _ (first_given (causes s)) (bit_of v 15 && bad_settings s) (bit_of v 15 && bad_settings s) _ 0 refl (λ good. refl)
          ∙ ap (λ (k : ℕ). when bit_of v 15 && bad_settings s then k else 0)
          (cause_number (undivided s) (late_sampling s))
          ∙ first_cause_lem (bit_of v 15) (undivided s) (late_sampling s) (unselected_cke s) 13 14 15 0
    ])
    m)
    (by_spien (Write 1 v) (elim [ true ↦ λ m. refl | false ↦ λ m. refl ]) m)
    (by_spien (Write 2 v) (elim [ true ↦ λ m. refl | false ↦ λ m. refl ]) m)
    (by_spien (Write 3 v)
    (elim [
      | true ↦ λ m.
          refused_by _ TransmitFull (full (depth_of m.settings) m.engine.transmit.count) _ _ 0
          (ap (leb (depth_of m.settings)) (waiting_length _ m.engine.transmit)) (λ room. refl)
      | false ↦ λ m. refl
    ])
    m)
    (λ k above. rw above)

-- A tick is refused exactly by its row.
tick_refused : (sdi ss : Bool) (m : Module) → told (perform_of m (Tick sdi ss)) ≡ first_number (rows m (Tick sdi ss))
unfolding perform_of clock_step_of edge_told tick_of when◌then◌else◌ refuse answering number_of
tick_refused sdi ss =
    by_spien (Tick sdi ss)
    (elim [
      | true ↦ λ m.
          refused_by _ WrongClock (not (own_clock m.settings)) _ _ 0 (or-false _)
          (λ own. if_keeps (λ (o : Outcome). told (edge_told o) ≡ 0) (no_next_edge m) _ _ (λ e. refl) (λ e. refl))
      | false ↦ λ m. refl
    ])

-- A pin call is refused exactly by its row.
pin_refused : (sck sdi ss : Bool) (m : Module) →
    told (perform_of m (Pin sck sdi ss)) ≡ first_number (rows m (Pin sck sdi ss))
unfolding perform_of clock_step_of pins_of when◌then◌else◌ refuse answering number_of
pin_refused sck sdi ss =
    by_spien (Pin sck sdi ss)
    (elim [
      | true ↦ λ m.
          refused_by _ WrongClock (own_clock m.settings) _ _ 0 refl
          (λ pin. if_keeps (λ (o : Outcome). told o ≡ 0) (no_next_edge m) _ _ (λ e. refl) (λ e. refl))
      | false ↦ λ m. refl
    ])

-- A clock step is refused exactly by its row.
step_refused : (sck sdi ss : Bool) (m : Module) →
    told (perform_of m (ClockStep sck sdi ss)) ≡ first_number (rows m (ClockStep sck sdi ss))
unfolding perform_of clock_step_of when◌then◌else◌ refuse answering number_of
step_refused sck sdi ss =
    by_spien (ClockStep sck sdi ss)
    (elim [
      | true ↦ λ m. if_keeps (λ (o : Outcome). told o ≡ 0) (no_next_edge m) _ _ (λ e. refl) (λ e. refl)
      | false ↦ λ m. refl
    ])

-- The clear call is never refused.
clear_refused : (m : Module) → told (perform_of m Clear) ≡ first_number (rows m Clear)
unfolding perform_of clear_of when◌then◌else◌ answering
clear_refused = by_spien Clear (elim [ true ↦ λ m. refl | false ↦ λ m. refl ])

-- Every call is refused exactly when a row of the table applies, with the number of the first that does.
pub refused_exactly_lem : (m : Module) (c : Call) → told (perform_of m c) ≡ first_number (rows m c)
refused_exactly_lem m (Read register) = read_refused m register
refused_exactly_lem m (Write register v) = write_refused m v register
refused_exactly_lem m (Tick sdi ss) = tick_refused sdi ss m
refused_exactly_lem m (Pin sck sdi ss) = pin_refused sck sdi ss m
refused_exactly_lem m (ClockStep sck sdi ss) = step_refused sck sdi ss m
refused_exactly_lem m Clear = clear_refused m
