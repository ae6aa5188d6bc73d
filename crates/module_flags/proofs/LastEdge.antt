-- The last edge of a word, of every record.
--     last_edge_drops   a finished word is dropped exactly if its buffer is full or marked
-- Assumes nothing.
use Rattle.std.specs.Prelude.{◌+◌, ◌*◌, ◌≤◌, ◌&&◌, ◌||◌, ◌≡◌}
use Rattle.laws.proofs.Common.{ℕ, Bool, true, false, not, Bool·beq, refl, sym, ap, subst, ◌∙◌}
use Rattle.laws.proofs.Common.{le-ltb, not-true, ltb, leb, if_keeps, if_false, clash, by_test, and_left, and_right, and-false}
use Rattle.laws.proofs.Common.{or_rest, unlike}
use mir.Val.{bool_byte}
use Rattle.module_rules.proofs.Types.{Settings, Engine, Receive, Module, Outcome, Progress, Shift, Begun, Call, Read, Write}
use Rattle.module_rules.proofs.Types.{Tick, Pin, ClockStep, Clear}
use Rattle.module_rules.specs.Settings.{width_of, depth_of, clock_stops, ssen_client, own_clock}
use Rattle.module_rules.specs.Registers.{is_free}
use Rattle.module_rules.specs.Bits.{received_after}
use Rattle.module_rules.specs.Finish.{is_lost, delivered, finished}
use Rattle.module_rules.specs.Select.{select_remembered, deselected}
use Rattle.module_rules.specs.Edge.{begun, advanced, advanced_if_begun, awaits_pulse, under_way, pulsed, clocked, levels, stepped}
use Rattle.module_rules.specs.Calls.{answering, told_select, perform_of, sck_of}
use Rattle.module_rules.specs.Demands.{drops, LastEdge, clocks_word}
use Rattle.module_rules.proofs.BuffersOrder.{unread_length}
use Rattle.module_rules.proofs.ClockSteps.{next_edge, seeing, stands, step_own, step_pin}
use Rattle.module_invariant.proofs.Losses.{delivered_count, delivered_marked, delivered_spirov, lost_is}
use Rattle.module_invariant.proofs.FinishWords.{finished_spares}
use Rattle.module_invariant.proofs.CallsWhen.{heard_edge, not_unlike, own_not_client, pin_is, tick_is}

module _ (s : Settings) (n : Engine) (p : Progress) (e : n.shift ≡ Begun p) (last : 2 * width_of s ≤ p.edges + 1) where
  -- The word under way at an edge is the one begun.
  goes_on : (sck : Bool) → under_way s sck n ≡ Begun p
  unfolding under_way begun
  goes_on sck =
      if_keeps (λ (x : Shift). x ≡ Begun p) (Bool·beq sck s.con1.ckp) _ _ (λ a. e)
      (λ a. if_keeps (λ (x : Shift). x ≡ Begun p) (awaits_pulse s n) _ _ (λ b. e) (λ b. ap (begun s n) e))

  -- The edge finishes it.
  finishes : (sck sdi : Bool) →
      advanced_if_begun s sdi (under_way s sck n) (clocked sck n)
      ≡ finished s p.filler (received_after s (p.edges + 1) sdi p.received) (clocked sck n)
  unfolding advanced_if_begun advanced
  finishes sck sdi =
      ap (λ (x : Shift). advanced_if_begun s sdi x (clocked sck n)) (goes_on sck)
      ∙ if_false (ltb (p.edges + 1) (2 * width_of s)) _ _ (le-ltb (p.edges + 1) (2 * width_of s) last)

-- The levels are seen at the last edge: the receive buffer and SPIROV are those that the received word leaves.
last_steps : (s : Settings) (n : Engine) (p : Progress) (sck sdi ss : Bool) → n.shift ≡ Begun p →
    2 * width_of s ≤ p.edges + 1 → sck ≡ not n.pins.sck → deselected s ss ≡ false →
    let word : ℕ = received_after s (p.edges + 1) sdi p.received in
    ((stepped s (levels sck sdi ss) n).receive ≡ (delivered s word (clocked sck (select_remembered ss n))).receive)
    × ((stepped s (levels sck sdi ss) n).spirov ≡ (delivered s word (clocked sck (select_remembered ss n))).spirov)
unfolding select_remembered pulsed
last_steps s n p sck sdi ss e last edge hears =
    let word : ℕ = received_after s (p.edges + 1) sdi p.received in
    let x : Engine = select_remembered ss n in
    let is : stepped s (levels sck sdi ss) n ≡ pulsed s sck (finished s p.filler word (clocked sck x)) =
    heard_edge s n sck sdi ss hears (ap (λ (b : Bool). Bool·beq b n.pins.sck) edge ∙ not_unlike n.pins.sck)
    ∙ ap (pulsed s sck) (finishes s x p e last sck sdi) in
    let spared = finished_spares s p.filler word (clocked sck x) in (
      ap (λ (y : Engine). y.receive) is ∙ spared.receive,
      ap (λ (y : Engine). y.spirov) is ∙ spared.spirov,
    )

-- A call that clocks the word at its last edge.
last_told : (m after : Module) (p : Progress) (sck sdi ss : Bool) → m.engine.shift ≡ Begun p →
    2 * width_of m.settings ≤ p.edges + 1 → sck ≡ not m.engine.pins.sck → deselected m.settings ss ≡ false →
    after ≡ record { settings = m.settings; engine = stepped m.settings (levels sck sdi ss) m.engine } →
    LastEdge m after
unfolding clocked select_remembered
last_told m after p sck sdi ss e last edge hears is =
    let s : Settings = m.settings in
    let n : Engine = m.engine in
    let word : ℕ = received_after s (p.edges + 1) sdi p.received in
    let x : Engine = clocked sck (select_remembered ss n) in
    let got = last_steps s n p sck sdi ss e last edge hears in
    let lost : is_lost s x ≡ drops m =
    lost_is s x ∙ ap (λ (k : ℕ). leb (depth_of s) k || n.receive.marked) (sym (unread_length (depth_of s) n.receive)) in
    subst (LastEdge m) (sym is)
    (record {
      unread =
          unread_length (depth_of s) _
          ∙ ap (λ (r : Receive). r.count) got.0
          ∙ delivered_count s word x
          ∙ ap (λ (b : Bool). n.receive.count + bool_byte (not b)) lost
          ∙ ap (λ (k : ℕ). k + bool_byte (not (drops m))) (sym (unread_length (depth_of s) n.receive));
      spirov = got.1 ∙ delivered_spirov s word x ∙ ap (λ (b : Bool). n.spirov || b) lost;
      mark =
          ap (λ (r : Receive). r.marked) got.0
          ∙ delivered_marked s x word
          ∙ ap (λ (b : Bool). n.receive.marked || (b && s.con2.spiben)) lost;
    })

-- By the next edge of a host with its own clock, and by levels that a pin brings.
busy : (m : Module) (p : Progress) → m.engine.shift ≡ Begun p → stands m ≡ false
busy m p e = and-false (clock_stops m.settings) (is_free m.engine.shift) (ap is_free e)

module _ (m : Module) {after : Module} (p : Progress) where
  last_own : (sdi ss : Bool) → m.engine.shift ≡ Begun p → 2 * width_of m.settings ≤ p.edges + 1 → own_clock m.settings ≡ true →
      after ≡ record { settings = m.settings; engine = seeing m (next_edge m sdi ss) } → LastEdge m after
  last_own sdi ss e last own is =
      last_told m after p (not m.engine.pins.sck) sdi (told_select m ss) e last refl
      (ap (λ (b : Bool). b && told_select m ss) (own_not_client m.settings own))
      is

  last-pin : (sck sdi ss : Bool) → m.engine.shift ≡ Begun p → 2 * width_of m.settings ≤ p.edges + 1 →
      (not (Bool·beq sck m.engine.pins.sck) && not (ssen_client m.settings && ss)) ≡ true →
      after ≡ record { settings = m.settings; engine = seeing m (levels sck sdi ss) } → LastEdge m after
  last-pin sck sdi ss e last clocks is =
      last_told m after p sck sdi ss e last
      (unlike sck m.engine.pins.sck
      (not-true (Bool·beq sck m.engine.pins.sck) (and_left (not (Bool·beq sck m.engine.pins.sck)) _ clocks)))
      (not-true (ssen_client m.settings && ss) (and_right (not (Bool·beq sck m.engine.pins.sck)) _ clocks))
      is

-- Every such call, of every record.
pub last_edge_drops : (m : Module) (c : Call) (p : Progress) → m.settings.spien ≡ true → clocks_word m c ≡ true →
    m.engine.shift ≡ Begun p → 2 * width_of m.settings ≤ p.edges + 1 → LastEdge m (perform_of m c).after
unfolding answering sck_of perform_of
last_edge_drops m (Read register) p on clocks e last = clash false clocks refl
last_edge_drops m (Write register v) p on clocks e last = clash false clocks refl
last_edge_drops m (Tick sdi ss) p on clocks e last = last_own m p sdi ss e last clocks (ap (λ (o : Outcome). o.after) (tick_is m sdi ss on clocks (busy m p e)))
last_edge_drops m (Pin sck sdi ss) p on clocks e last =
    let pin : own_clock m.settings ≡ false =
    not-true (own_clock m.settings) (and_left (not (own_clock m.settings)) _ clocks) in
    last-pin m p sck sdi ss e last (and_right (not (own_clock m.settings)) _ clocks) (ap (λ (o : Outcome). o.after) (pin_is m sck sdi ss on pin))
last_edge_drops m (ClockStep sck sdi ss) p on clocks e last =
    by_test (own_clock m.settings)
    (λ own. last_own m p sdi ss e last own (ap (λ (o : Outcome). o.after) (step_own m sck sdi ss on own (busy m p e))))
    (λ pin. last-pin m p sck sdi ss e last (or_rest (own_clock m.settings) _ clocks pin) (ap (λ (o : Outcome). o.after) (step_pin m sck sdi ss on pin)))
last_edge_drops m Clear p on clocks e last = clash false clocks refl
