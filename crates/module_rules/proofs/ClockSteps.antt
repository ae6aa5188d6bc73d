-- The clock step, and the tick and the pin call that are made of it (document 02, Eleven).
--     step_own, step_pin          what it is on an enabled host with its own clock that has a next edge, and on a module clocked from its pin
--     step_cases                  what holds of each of its outcomes holds of it
--     tick_as_before, pins_as_before   tick and pin call are the functions that they were before there was a clock step
--     performs_as_before, calls_as_before   so are all calls, and lists of them
--     tick_cases, pins_cases      what holds of each of their outcomes holds of them
--     tick_is_step, beside_pins   each is the clock step of its kind of module
--     step_follows                what holds after every tick and every pin call holds after every clock step
--     clock_steps_lem                 what the page says of clock steps
-- Assumes nothing.
use Rattle.std.specs.Prelude.{◌&&◌, ◌∷◌, ◌≡◌}
use Rattle.laws.proofs.Common.{Bool, true, false, not, List, [], refl, sym, ap, subst, subst₂, ◌∙◌, not-false}
use Rattle.laws.proofs.Common.{when◌then◌else◌, if_keeps, if_both, if_true, if_false, by_test}
use Rattle.module_rules.proofs.Types.{Module, Engine, Outcome, Done, NoEdge, Edge, Disabled, WrongClock, Call, Read, Write}
use Rattle.module_rules.proofs.Types.{Tick, Pin, ClockStep, Clear}
use Rattle.module_rules.specs.Settings.{frame_client, clock_stops, own_clock}
use Rattle.module_rules.specs.Registers.{is_free}
use Rattle.module_rules.specs.Refusals.{number_of, said_of, is_done, is_edge}
use Rattle.module_rules.specs.Edge.{Levels, levels, stepped}
use Rattle.module_rules.specs.Calls.{refuse, answering, read_of, write_of, told_select, heeded, no_next_edge, clock_step_of, edge_told, tick_of, pins_of, clear_of, perform_of, after_calls}
use Rattle.module_rules.specs.Demands.{ClockSteps}

-- An outcome that changes nothing.
abbrev pub unmoved : Module → Outcome
unmoved m = record { answer = NoEdge; after = m }

-- The levels of the next edge of a host with its own clock: SCK at the other level of its clock, and SS as it is told.
abbrev pub next_edge : Module → Bool → Bool → Levels
next_edge m sdi ss = levels (not m.engine.pins.sck) sdi (told_select m ss)

-- The engine once levels are seen.
abbrev pub seeing : Module → Levels → Engine
seeing m x = stepped m.settings x m.engine

-- A clock that stands: it stops between words, and no word is loaded.
abbrev pub stands : Module → Bool
stands m = clock_stops m.settings && is_free m.engine.shift

module _ (m : Module) where
  -- With a clock of its own the module has no next edge if that stands, and else goes by its own SCK; with none it sees the levels.
  own_stands : own_clock m.settings ≡ true → no_next_edge m ≡ stands m
  own_stands own = ap (λ (b : Bool). (b && clock_stops m.settings) && is_free m.engine.shift) own

  pin-moves : own_clock m.settings ≡ false → no_next_edge m ≡ false
  pin-moves pin = ap (λ (b : Bool). (b && clock_stops m.settings) && is_free m.engine.shift) pin

  module _ (sck sdi ss : Bool) where
    -- What is done, by the clock.
    own-heeds : own_clock m.settings ≡ true → heeded m (levels sck sdi ss) ≡ next_edge m sdi ss
    own-heeds own = if_true (own_clock m.settings) _ _ own

    pin-heeds : own_clock m.settings ≡ false → heeded m (levels sck sdi ss) ≡ levels sck sdi ss
    pin-heeds pin = if_false (own_clock m.settings) _ _ pin

    pub step_off : m.settings.spien ≡ false → clock_step_of m sck sdi ss ≡ refuse m Disabled
    unfolding clock_step_of
    step_off off = if_true (not m.settings.spien) _ _ (ap not off)

    pub step_stands : m.settings.spien ≡ true → own_clock m.settings ≡ true → stands m ≡ true → clock_step_of m sck sdi ss ≡ unmoved m
    unfolding clock_step_of
    step_stands on own still =
        if_false (not m.settings.spien) _ _ (ap not on) ∙ if_true (no_next_edge m) _ _ (own_stands own ∙ still)

    pub step_own : m.settings.spien ≡ true → own_clock m.settings ≡ true → stands m ≡ false →
        clock_step_of m sck sdi ss ≡ answering m Done (seeing m (next_edge m sdi ss))
    unfolding clock_step_of
    step_own on own moves =
        if_false (not m.settings.spien) _ _ (ap not on)
        ∙ if_false (no_next_edge m) _ _ (own_stands own ∙ moves)
        ∙ ap (λ (x : Levels). answering m Done (seeing m x)) (own-heeds own)

    pub step_pin : m.settings.spien ≡ true → own_clock m.settings ≡ false →
        clock_step_of m sck sdi ss ≡ answering m Done (seeing m (levels sck sdi ss))
    unfolding clock_step_of
    step_pin on pin =
        if_false (not m.settings.spien) _ _ (ap not on)
        ∙ if_false (no_next_edge m) _ _ (pin-moves pin)
        ∙ ap (λ (x : Levels). answering m Done (seeing m x)) (pin-heeds pin)

    pub step_cases : (P : Outcome → Type 0) → (m.settings.spien ≡ false → P (refuse m Disabled)) →
        (m.settings.spien ≡ true → own_clock m.settings ≡ true → stands m ≡ true → P (unmoved m)) →
        (m.settings.spien ≡ true → own_clock m.settings ≡ true → stands m ≡ false →
        P (answering m Done (seeing m (next_edge m sdi ss)))) →
        (m.settings.spien ≡ true → own_clock m.settings ≡ false → P (answering m Done (seeing m (levels sck sdi ss)))) →
        P (clock_step_of m sck sdi ss)
    step_cases P refused none made seen =
        by_test m.settings.spien
        (λ on.
        by_test (own_clock m.settings)
        (λ own.
        by_test (stands m)
        (λ still. subst P (sym (step_stands on own still)) (none on own still))
        (λ moves. subst P (sym (step_own on own moves)) (made on own moves)))
        (λ pin. subst P (sym (step_pin on pin)) (seen on pin)))
        (λ off. subst P (sym (step_off off)) (refused off))

  -- The tick as it was said before there was a clock step: 2, then 7, no edge of a clock that stands, or the next edge.
  abbrev pub tick_before : Bool → Bool → Outcome
  tick_before sdi ss =
      when not m.settings.spien then refuse m Disabled
      else when not (own_clock m.settings) then refuse m WrongClock
      else when stands m then unmoved m
      else answering m Edge (seeing m (next_edge m sdi ss))

  pub tick_as_before : (sdi ss : Bool) → tick_of m sdi ss ≡ tick_before sdi ss
  unfolding tick_of edge_told answering
  tick_as_before sdi ss =
      if_both (λ (x y : Outcome). x ≡ y) (not m.settings.spien) (not m.settings.spien) _ _ _ _ refl (λ off. refl)
      (λ on.
      if_both (λ (x y : Outcome). x ≡ y) (not (own_clock m.settings)) (not (own_clock m.settings)) _ _ _ _ refl (λ pin. refl)
      (λ own.
      let enabled : m.settings.spien ≡ true = not-false m.settings.spien on in
      let clock : own_clock m.settings ≡ true = not-false (own_clock m.settings) own in
      by_test (stands m)
      (λ still. ap edge_told (step_stands false sdi ss enabled clock still) ∙ sym (if_true (stands m) _ _ still))
      (λ moves. ap edge_told (step_own false sdi ss enabled clock moves) ∙ sym (if_false (stands m) _ _ moves))))

  -- The pin call as it was: 2, then 7, or the levels are seen.
  abbrev pub pins_before : Bool → Bool → Bool → Outcome
  pins_before sck sdi ss =
      when not m.settings.spien then refuse m Disabled
      else when own_clock m.settings then refuse m WrongClock
      else answering m Done (seeing m (levels sck sdi ss))

  pub pins_as_before : (sck sdi ss : Bool) → pins_of m sck sdi ss ≡ pins_before sck sdi ss
  unfolding pins_of
  pins_as_before sck sdi ss =
      if_both (λ (x y : Outcome). x ≡ y) (not m.settings.spien) (not m.settings.spien) _ _ _ _ refl (λ off. refl)
      (λ on.
      if_both (λ (x y : Outcome). x ≡ y) (own_clock m.settings) (own_clock m.settings) _ _ _ _ refl (λ own. refl)
      (λ pin. step_pin sck sdi ss (not-false m.settings.spien on) pin))

  module _ (sdi ss : Bool) where
    pub tick_cases : (P : Outcome → Type 0) → P (refuse m Disabled) → P (refuse m WrongClock) →
        (m.settings.spien ≡ true → own_clock m.settings ≡ true → stands m ≡ true → P (unmoved m)) →
        (m.settings.spien ≡ true → own_clock m.settings ≡ true → stands m ≡ false →
        P (answering m Edge (seeing m (next_edge m sdi ss)))) →
        P (tick_of m sdi ss)
    tick_cases P disabled wrong none made =
        subst P (sym (tick_as_before sdi ss))
        (if_keeps P (not m.settings.spien) _ _ (λ off. disabled)
        (λ on.
        if_keeps P (not (own_clock m.settings)) _ _ (λ pin. wrong)
        (λ own.
        let enabled : m.settings.spien ≡ true = not-false m.settings.spien on in
        let clock : own_clock m.settings ≡ true = not-false (own_clock m.settings) own in
        if_keeps P (stands m) _ _ (none enabled clock) (made enabled clock))))

    pub tick_off : m.settings.spien ≡ false → tick_of m sdi ss ≡ refuse m Disabled
    unfolding tick_of
    tick_off off = if_true (not m.settings.spien) _ _ (ap not off)

    -- With a clock of its own, the module's tick is its clock step, told as a tick tells it.
    pub tick_is_step : own_clock m.settings ≡ true → tick_of m sdi ss ≡ edge_told (clock_step_of m false sdi ss)
    unfolding tick_of edge_told refuse
    tick_is_step own =
        by_test m.settings.spien
        (λ on. if_false (not m.settings.spien) _ _ (ap not on) ∙ if_false (not (own_clock m.settings)) _ _ (ap not own))
        (λ off. if_true (not m.settings.spien) _ _ (ap not off) ∙ sym (ap edge_told (step_off false sdi ss off)))

    pub tick_stands : m.settings.spien ≡ true → own_clock m.settings ≡ true → stands m ≡ true → tick_of m sdi ss ≡ unmoved m
    unfolding edge_told
    tick_stands on own still = tick_is_step own ∙ ap edge_told (step_stands false sdi ss on own still)

    pub tick_own : m.settings.spien ≡ true → own_clock m.settings ≡ true → stands m ≡ false →
        tick_of m sdi ss ≡ answering m Edge (seeing m (next_edge m sdi ss))
    unfolding edge_told answering
    tick_own on own moves = tick_is_step own ∙ ap edge_told (step_own false sdi ss on own moves)

  module _ (sck sdi ss : Bool) where
    pub pins_cases : (P : Outcome → Type 0) → P (refuse m Disabled) → P (refuse m WrongClock) →
        (m.settings.spien ≡ true → own_clock m.settings ≡ false → P (answering m Done (seeing m (levels sck sdi ss)))) →
        P (pins_of m sck sdi ss)
    pins_cases P disabled wrong seen =
        subst P (sym (pins_as_before sck sdi ss))
        (if_keeps P (not m.settings.spien) _ _ (λ off. disabled)
        (λ on.
        if_keeps P (own_clock m.settings) _ _ (λ own. wrong) (λ pin. seen (not-false m.settings.spien on) pin)))

    -- A clock step beside the tick of a host with its own clock, and beside the pin call of another module.
    abbrev Beside : Outcome → Outcome → Type 0
    Beside o t = (o.after ≡ t.after) × (is_done o.answer ≡ is_edge t.answer)

    pub beside_tick : own_clock m.settings ≡ true →
        ((clock_step_of m sck sdi ss).after ≡ (tick_of m sdi ss).after)
        × (is_done (clock_step_of m sck sdi ss).answer ≡ is_edge (tick_of m sdi ss).answer)
    unfolding refuse answering
    beside_tick own =
        by_test m.settings.spien
        (λ on.
        by_test (stands m)
        (λ still. subst₂ Beside (sym (step_stands sck sdi ss on own still)) (sym (tick_stands sdi ss on own still)) (refl, refl))
        (λ moves. subst₂ Beside (sym (step_own sck sdi ss on own moves)) (sym (tick_own sdi ss on own moves)) (refl, refl)))
        (λ off. subst₂ Beside (sym (step_off sck sdi ss off)) (sym (tick_off sdi ss off)) (refl, refl))

    pub beside_pins : own_clock m.settings ≡ false → clock_step_of m sck sdi ss ≡ pins_of m sck sdi ss
    unfolding pins_of
    beside_pins pin =
        by_test m.settings.spien
        (λ on. sym (if_false (not m.settings.spien) _ _ (ap not on) ∙ if_false (own_clock m.settings) _ _ pin))
        (λ off. step_off sck sdi ss off ∙ sym (if_true (not m.settings.spien) _ _ (ap not off)))

    pub step_follows : (P : Module → Type 0) → P (tick_of m sdi ss).after → P (pins_of m sck sdi ss).after →
        P (clock_step_of m sck sdi ss).after
    step_follows P tick pins =
        by_test (own_clock m.settings)
        (λ own. subst P (sym (beside_tick own).0) tick)
        (λ pin. subst P (ap (λ (o : Outcome). o.after) (sym (beside_pins pin))) pins)

  -- The call on a host with its own clock, by the levels that it goes by.
  by-heeded : (x y : Levels) → heeded m x ≡ heeded m y →
      clock_step_of m x.sck x.sdi x.ss ≡ clock_step_of m y.sck y.sdi y.ss
  unfolding clock_step_of
  by-heeded x y same =
      ap
      (λ (z : Levels).
      when not m.settings.spien then refuse m Disabled
      else when no_next_edge m then unmoved m
      else answering m Done (seeing m z))
      same

  step_refused : (sck sdi ss : Bool) → (said_of (clock_step_of m sck sdi ss).answer).number ≡ (when m.settings.spien then 0 else 2)
  unfolding refuse answering number_of
  step_refused sck sdi ss =
      step_cases sck sdi ss (λ (o : Outcome). (said_of o.answer).number ≡ (when m.settings.spien then 0 else 2))
      (λ off. sym (if_false m.settings.spien _ _ off))
      (λ on own still. sym (if_true m.settings.spien _ _ on))
      (λ on own moves. sym (if_true m.settings.spien _ _ on))
      (λ on pin. sym (if_true m.settings.spien _ _ on))

  -- SCK does not count there, and SS counts for a frame client alone.
  sck-ignored : own_clock m.settings ≡ true → (a b sdi ss : Bool) → clock_step_of m a sdi ss ≡ clock_step_of m b sdi ss
  sck-ignored own a b sdi ss = by-heeded (levels a sdi ss) (levels b sdi ss) (own-heeds a sdi ss own ∙ sym (own-heeds b sdi ss own))

  ss-ignored : own_clock m.settings ≡ true → frame_client m.settings ≡ false → (sck sdi a b : Bool) →
      clock_step_of m sck sdi a ≡ clock_step_of m sck sdi b
  ss-ignored own other sck sdi a b =
      by-heeded (levels sck sdi a) (levels sck sdi b)
      (own-heeds sck sdi a own
      ∙ ap (λ (ss : Bool). levels (not m.engine.pins.sck) sdi ss)
      (if_false (frame_client m.settings) _ _ other ∙ sym (if_false (frame_client m.settings) _ _ other))
      ∙ sym (own-heeds sck sdi b own))

-- Every call as it was; a clock step has no past.
abbrev pub perform_before : Module → Call → Outcome
perform_before m (Read register) = read_of m register
perform_before m (Write register v) = write_of m register v
perform_before m (Tick sdi ss) = tick_before m sdi ss
perform_before m (Pin sck sdi ss) = pins_before m sck sdi ss
perform_before m (ClockStep sck sdi ss) = clock_step_of m sck sdi ss
perform_before m Clear = clear_of m

pub performs_as_before : (m : Module) (c : Call) → perform_of m c ≡ perform_before m c
unfolding perform_of
performs_as_before m (Read register) = refl
performs_as_before m (Write register v) = refl
performs_as_before m (Tick sdi ss) = tick_as_before m sdi ss
performs_as_before m (Pin sck sdi ss) = pins_as_before m sck sdi ss
performs_as_before m (ClockStep sck sdi ss) = refl
performs_as_before m Clear = refl

abbrev pub calls_before : Module → List Call → Module
calls_before m [] = m
calls_before m (c ∷ cs) = calls_before (perform_before m c).after cs

pub calls_as_before : (cs : List Call) (m : Module) → after_calls m cs ≡ calls_before m cs
calls_as_before [] m = refl
calls_as_before (c ∷ cs) m =
    calls_as_before cs (perform_of m c).after ∙ ap (λ (o : Outcome). calls_before o.after cs) (performs_as_before m c)

-- All of it.
pub clock_steps_lem : (m : Module) → ClockSteps m
unfolding perform_of
clock_steps_lem m =
    record {
      refused = step_refused m;
      sck = sck-ignored m;
      ss = ss-ignored m;
      tick = λ own sck sdi ss. beside_tick m sck sdi ss own;
      pin = λ pin sck sdi ss. beside_pins m sck sdi ss pin;
    }
