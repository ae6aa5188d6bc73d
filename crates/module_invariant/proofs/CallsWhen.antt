-- The calls that are not refused: which tests an answer settles, and what the call then is.
--     buf_read_when, buf_read_is     a BUF read that answers a value
--     buf_write_when, buf_write_is   a BUF write that is done
--     tick_when, tick_is             a tick that makes an edge
--     no_edge_when                   a tick that makes none
--     pin_when, pin_is               a pin call that is done
--     told_elsewhere                 only a frame client heeds the select level that a tick carries
--     host_unframed, unframed_begins, unpulsed   an unframed module awaits no pulse and has none to decide
--     heard_edge                     levels that make an edge of what is under way
--     told_edge, own_edge_lem            the step of a tick: the clock of a host goes to its other level
-- Assumes nothing.
use Rattle.std.specs.Prelude.{◌&&◌, ◌||◌, ◌≡◌}
use Rattle.laws.proofs.Common.{ℕ, Bool, true, false, not, Bool·beq, refl, sym, ap, ◌∙◌, not-true, not-false}
use Rattle.laws.proofs.Common.{when◌then◌else◌, if_false, clash, and_both, and_left, and_right}
use Rattle.module_rules.proofs.Types.{Settings, Engine, Module, Outcome, Shift, Free, Loaded, Begun, Answer, Done, Value}
use Rattle.module_rules.proofs.Types.{NoEdge, Edge, Refusal, Disabled, TransmitFull, ReceiveEmpty, WrongClock, Overflowed}
use Rattle.module_rules.proofs.Types.{Read, Write, Tick, Pin}
use Rattle.module_rules.specs.Changes.{with_pulse}
use Rattle.module_rules.specs.Settings.{framed, frame_client, clock_stops, ssen_client, own_clock, unframed_host}
use Rattle.module_rules.specs.Refusals.{is_edge}
use Rattle.module_rules.specs.Registers.{is_free, spitbf, low_bits}
use Rattle.module_rules.specs.Buffers.{empty, first_unread}
use Rattle.module_rules.specs.Loading.{is_begun}
use Rattle.module_rules.specs.Select.{deselected, select_remembered, select_seen}
use Rattle.module_rules.specs.Edge.{advanced_if_begun, awaits_pulse, under_way, pulsed, clocked, edged, levels, stepped}
use Rattle.module_rules.specs.Calls.{refuse, answering, word_taken, read_buf, read_of, word_written, write_buf, write_of, told_select, perform_of}
use Rattle.module_rules.proofs.ClockSteps.{stands, tick_cases, tick_own, pins_cases, pins_as_before}
use Rattle.module_invariant.proofs.Parts.{accepts}

-- A call that may be refused by a test and is not has passed the test.
passes : (m : Module) (r : Refusal) (a : Answer) → accepts a ≡ true → (b : Bool) (o : Outcome) →
    (when b then refuse m r else o).answer ≡ a → (b ≡ false) × (o.answer ≡ a)
unfolding when◌then◌else◌ refuse
passes m r a ok true o e = clash (accepts a) ok (sym (ap accepts e))
passes m r a ok false o e = (refl, e)

-- A shift register that is free is the free one.
pub is_free_lem : (sh : Shift) → is_free sh ≡ true → sh ≡ Free
is_free_lem Free e = refl
is_free_lem (Loaded word) e = clash false e refl
is_free_lem (Begun p) e = clash false e refl

-- A host with its own clock is no SSEN client.
pub own_not_client : (s : Settings) → own_clock s ≡ true → ssen_client s ≡ false
own_not_client s own = rw (and_left s.con1.msten _ own)

-- A level is unlike its opposite.
pub not_unlike : (b : Bool) → Bool·beq (not b) b ≡ false
not_unlike true = refl
not_unlike false = refl

module _ (m : Module) where
  -- A BUF read answers a value if the module is enabled and a word is unread in a buffer without a mark.
  pub buf_read_when : (v : ℕ) → (perform_of m (Read 3)).answer ≡ Value v →
      (m.settings.spien ≡ true) × (empty m.engine.receive.count ≡ false) × (m.engine.receive.marked ≡ false)
  unfolding perform_of read_of read_buf when◌then◌else◌
  buf_read_when v e =
      let p = passes m Disabled (Value v) refl (not m.settings.spien) _ e in
      let k = passes m Overflowed (Value v) refl m.engine.receive.marked _ p.1 in
      let q = passes m ReceiveEmpty (Value v) refl (empty m.engine.receive.count) _ k.1 in
      (not-false m.settings.spien p.0, q.0, k.0)

  -- Such a BUF read shows the first unread word and takes it.
  pub buf_read_is : m.settings.spien ≡ true → empty m.engine.receive.count ≡ false →
      m.engine.receive.marked ≡ false →
      perform_of m (Read 3)
      ≡ answering m (Value (low_bits m.settings (first_unread m.engine.receive))) (word_taken m.settings m.engine)
  unfolding perform_of read_of read_buf when◌then◌else◌
  buf_read_is on some plain =
      if_false (not m.settings.spien) _ _ (ap not on)
      ∙ if_false m.engine.receive.marked _ _ plain
      ∙ if_false (empty m.engine.receive.count) _ _ some

  -- A BUF write is done if the module is enabled and the transmit buffer is not full.
  pub buf_write_when : (v : ℕ) → (perform_of m (Write 3 v)).answer ≡ Done → (m.settings.spien ≡ true) × (spitbf m ≡ false)
  unfolding perform_of write_of write_buf when◌then◌else◌
  buf_write_when v e =
      let p = passes m Disabled Done refl (not m.settings.spien) _ e in
      let q = passes m TransmitFull Done refl (spitbf m) _ p.1 in
      (not-false m.settings.spien p.0, q.0)

  -- Such a BUF write has its low bits waiting or loaded.
  pub buf_write_is : (v : ℕ) → m.settings.spien ≡ true → spitbf m ≡ false →
      perform_of m (Write 3 v) ≡ answering m Done (word_written m.settings (low_bits m.settings v) m.engine)
  unfolding perform_of write_of write_buf when◌then◌else◌
  buf_write_is v on room = if_false (not m.settings.spien) _ _ (ap not on) ∙ if_false (spitbf m) _ _ room

  -- A refusal is no other answer.
  refused-not : {A : Type 0} (r : Refusal) (a : Answer) → accepts a ≡ true → (refuse m r).answer ≡ a → A
  unfolding refuse
  refused-not r a ok e = clash (accepts a) ok (sym (ap accepts e))

  -- A tick answers "no edge" in an enabled unframed host with its own clock whose shift register is free.
  pub no_edge_when : (sdi ss : Bool) → (perform_of m (Tick sdi ss)).answer ≡ NoEdge →
      (m.settings.spien ≡ true) × (unframed_host m.settings ≡ true) × (m.engine.shift ≡ Free)
  unfolding perform_of answering
  no_edge_when sdi ss =
      tick_cases m sdi ss
      (λ (o : Outcome). o.answer ≡ NoEdge → (m.settings.spien ≡ true) × (unframed_host m.settings ≡ true)
      × (m.engine.shift ≡ Free))
      (refused-not Disabled NoEdge refl) (refused-not WrongClock NoEdge refl)
      (λ on own still e. (
        on,
        and_both (own_clock m.settings) _ own (and_left (clock_stops m.settings) _ still),
        is_free_lem m.engine.shift (and_right (clock_stops m.settings) _ still),
      ))
      (λ on own moves e. clash true refl (ap is_edge e))

  -- A tick makes an edge in an enabled host with its own clock whose shift register is not free or whose clock runs on.
  pub tick_when : (sdi ss : Bool) → (perform_of m (Tick sdi ss)).answer ≡ Edge →
      (m.settings.spien ≡ true) × (own_clock m.settings ≡ true) × (stands m ≡ false)
  unfolding perform_of
  tick_when sdi ss =
      tick_cases m sdi ss (λ (o : Outcome). o.answer ≡ Edge → (m.settings.spien ≡ true) × (own_clock m.settings ≡ true)
      × (stands m ≡ false))
      (refused-not Disabled Edge refl) (refused-not WrongClock Edge refl) (λ on own still e. clash false (ap is_edge e) refl)
      (λ on own moves e. (on, own, moves))

  -- Such a tick takes the clock to its other level.
  pub tick_is : (sdi ss : Bool) → m.settings.spien ≡ true → own_clock m.settings ≡ true →
      (clock_stops m.settings && is_free m.engine.shift) ≡ false →
      perform_of m (Tick sdi ss)
      ≡ answering m Edge (stepped m.settings (levels (not m.engine.pins.sck) sdi (told_select m ss)) m.engine)
  unfolding perform_of
  tick_is sdi ss on own moves = tick_own m sdi ss on own moves

  -- A pin call is done if the module is enabled and clocked from its pin.
  pub pin_when : (sck sdi ss : Bool) → (perform_of m (Pin sck sdi ss)).answer ≡ Done →
      (m.settings.spien ≡ true) × (own_clock m.settings ≡ false)
  unfolding perform_of
  pin_when sck sdi ss =
      pins_cases m sck sdi ss (λ (o : Outcome). o.answer ≡ Done → (m.settings.spien ≡ true) × (own_clock m.settings ≡ false))
      (refused-not Disabled Done refl) (refused-not WrongClock Done refl) (λ on pin e. (on, pin))

  -- Such a pin call has its levels seen.
  pub pin_is : (sck sdi ss : Bool) → m.settings.spien ≡ true → own_clock m.settings ≡ false →
      perform_of m (Pin sck sdi ss) ≡ answering m Done (stepped m.settings (levels sck sdi ss) m.engine)
  unfolding perform_of
  pin_is sck sdi ss on pin =
      pins_as_before m sck sdi ss
      ∙ if_false (not m.settings.spien) _ _ (ap not on)
      ∙ if_false (own_clock m.settings) _ _ pin

-- The select level that a tick carries counts for a frame client alone.
pub told_elsewhere : (m : Module) (ss : Bool) → frame_client m.settings ≡ false → told_select m ss ≡ m.engine.pins.ss
told_elsewhere m ss other = if_false (frame_client m.settings) _ _ other

-- An unframed module is no frame client.
pub unframed_told : (s : Settings) → framed s ≡ false → frame_client s ≡ false
unframed_told s plain = ap (λ (b : Bool). b && s.con2.spifsd) plain

-- The edge rules of an unframed host: it is unframed, and awaits no pulse.
pub host_unframed : (s : Settings) → unframed_host s ≡ true → framed s ≡ false
host_unframed s host = not-true (framed s) (and_right (own_clock s) _ host)

pub unframed_begins : (s : Settings) (n : Engine) → framed s ≡ false → awaits_pulse s n ≡ false
unfolding awaits_pulse
unframed_begins s n plain =
    ap (λ (b : Bool). (b && (s.con2.spifsd || not s.con2.frmdly)) && not n.pins.pulse) plain

module _ (s : Settings) (sck : Bool) where
  -- An unframed module has no pulse to decide.
  pub unpulsed : (n : Engine) → framed s ≡ false → pulsed s sck n ≡ n
  unfolding pulsed
  unpulsed n plain = ap (λ (b : Bool). with_pulse b n) (if_false (framed s) _ _ plain)

module _ (s : Settings) (n : Engine) where
  -- Levels that are heard, with SCK unlike the remembered level: what is under way goes one edge further, with the select
  -- level told.
  pub heard_edge : (sck sdi ss : Bool) → deselected s ss ≡ false → Bool·beq sck n.pins.sck ≡ false →
      stepped s (levels sck sdi ss) n
      ≡ pulsed s sck (advanced_if_begun s sdi (under_way s sck (select_remembered ss n)) (clocked sck (select_remembered ss n)))
  unfolding stepped select_seen select_remembered edged
  heard_edge sck sdi ss hears edge =
      if_false (Bool·beq sck n.pins.sck) _ _ edge
      ∙ ap (edged s sck sdi) (if_false (deselected s ss && is_begun n.shift) _ _
      (ap (λ (b : Bool). b && is_begun n.shift) hears))
      ∙ if_false (deselected s ss) _ _ hears

module _ (s : Settings) (n : Engine) (own : own_clock s ≡ true) where
  -- A tick takes the clock of a host to its other level, and what is under way one edge further, with the select level that it
  -- was told: select does not count for a host with its own clock.
  pub told_edge : (sdi ss : Bool) →
      stepped s (levels (not n.pins.sck) sdi ss) n
      ≡ pulsed s (not n.pins.sck)
      (advanced_if_begun s sdi (under_way s (not n.pins.sck) (select_remembered ss n)) (clocked (not n.pins.sck) (select_remembered ss n)))
  told_edge sdi ss = heard_edge s n (not n.pins.sck) sdi ss (rw (own_not_client s own)) (not_unlike n.pins.sck)

  -- The same with the select level that was remembered.
  pub own_edge_lem : (sdi : Bool) →
      stepped s (levels (not n.pins.sck) sdi n.pins.ss) n
      ≡ pulsed s (not n.pins.sck)
      (advanced_if_begun s sdi (under_way s (not n.pins.sck) n) (clocked (not n.pins.sck) n))
  unfolding select_remembered
  own_edge_lem sdi = told_edge sdi n.pins.ss
