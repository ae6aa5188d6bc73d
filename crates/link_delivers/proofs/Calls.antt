-- The two calls of a turn. This is the only place of this law that knows how a host is clocked and a client sees: both enter the operations of an
-- edge of the law of word_wire.
--     Entered          a call that leaves the settings and is entered as an edge
--     on_the_wire      a driven SDO is read at its level
--     host_entered, host_clock, host_left, host_leaves      the host's call, if it makes an edge
--     host_unmoved                                          if it makes none
--     PlainClient, client_entered, client_unmoved, client_clock   the client's call, if it sees an edge, and if it sees none
-- Assumes nothing.
use Rattle.std.specs.Prelude.{◌+◌, ◌&&◌, ◌||◌, ◌∷◌, ◌++◌, ◌≡◌}
use Rattle.laws.proofs.Common.{ℕ, Bool, true, false, not, Bool·beq, List, [], refl, sym, ap}
use Rattle.laws.proofs.Common.{ap₂, subst₂, ◌∙◌, when◌then◌else◌, by_test, if_true, if_false, clash, and_left, and_right}
use Rattle.laws.proofs.Common.{and_rest, and-false, and_first}
use Rattle.word_order.specs.Ledger.{Terms, begins, Wire, quiet, busy, Ledger, left_to_send, begun_on, is_quiet, edges_given}
use Rattle.word_order.specs.Port.{Port}
use Rattle.word_order.specs.Machine.{Entry, notes, entered}
use Rattle.word_order.proofs.Tied.{Carries, Tied, some_left}
use Rattle.word_order.proofs.Operations.{tied_op}
use Rattle.word_wire.specs.Wire.{turn_ops}
use Rattle.word_wire.proofs.Arrives.{next_samples}
use Rattle.module_rules.proofs.Types.{Settings, Engine, Module, Outcome, Shift, Free, Loaded, Begun, Done, NoEdge, Edge, Call}
use Rattle.module_rules.proofs.Types.{Low, High}
use Rattle.module_rules.specs.Settings.{depth_of, framed, cke_of, silent, ssen_client, own_clock, clock_stops, unframed_host}
use Rattle.module_rules.specs.Refusals.{is_edge, is_done}
use Rattle.module_rules.specs.Registers.{is_free}
use Rattle.module_rules.specs.Buffers.{waiting}
use Rattle.module_rules.specs.Bits.{samples}
use Rattle.module_rules.specs.Select.{deselected}
use Rattle.module_rules.specs.Edge.{advanced_if_begun, awaits_pulse, under_way, pulsed, clocked, levels, stepped}
use Rattle.module_rules.specs.Calls.{answering, told_select, undriven, sck_of, sdo_of, perform_of}
use Rattle.module_rules.specs.Invariant.{ShiftHolds}
use Rattle.module_rules.specs.Words.{unfinished}
use Rattle.module_rules.specs.Watch.{terms, way_of, port_in, Sight, sight_of, Memory, level_ops, entry_of, Watched, watched_call}
use Rattle.module_invariant.proofs.RefusalsUnchanged.{no_edge_unchanged}
use Rattle.module_invariant.proofs.CallsWhen.{own_not_client, not_unlike, tick_when, tick_is, pin_is, told_elsewhere, unframed_told, host_unframed, unframed_begins, own_edge_lem}
use Rattle.module_invariant.proofs.Engine.{engine_of}
use Rattle.module_order.proofs.Ports.{whole_terms, begun_port}
use Rattle.module_order.proofs.Order.{Lives}
use Rattle.link_rules.specs.LinkDemands.{read_as, tick_beside, pins_beside}
use Rattle.link_page.proofs.LinkIdle.{ticked_none}
use Rattle.link_page.proofs.LinkLevels.{sampling_leaves}

-- The entry that the watcher makes of a call.
abbrev pub entry_at : Watched → Call → Entry
entry_at x c =
    entry_of x.memory (sight_of x.now c) (not (is_quiet x.ledger.wire)) (edges_given x.ledger.wire) c

-- A call that leaves the settings and is entered as an edge.
pub record Entered (x : Watched) (c : Call) (may sdo sdi : Bool) : Type 0 where
  pub settings : (watched_call x c).now.settings ≡ x.now.settings
  pub entry : entry_at x c ≡ notes (turn_ops may sdo sdi)

-- An edge to the active level may begin a word, and one to the idle level may not.
abbrev pub active : Settings → Bool → Bool
active s sck = not (Bool·beq sck s.con1.ckp)

-- What an unframed module enters of levels that are an edge, if it heeds it.
may_is : (b f z : Bool) → f ≡ false → (b && (not f || z)) ≡ b
may_is true f z e = ap (λ (g : Bool). not g || z) e
may_is false f z e = refl

edge_ops_lem : (v : Sight) (x : Memory) (sck sdi ss : Bool) → framed v.settings ≡ false → deselected v.settings ss ≡ false →
    Bool·beq sck x.sck ≡ false → level_ops v x sck sdi ss ≡ turn_ops (active v.settings sck) v.sdo sdi
edge_ops_lem v x sck sdi ss plain heeds edge =
    if_false (deselected v.settings ss) _ _ heeds
    ∙ if_false (Bool·beq sck x.sck) _ _ edge
    ∙ ap (λ (b : Bool). turn_ops b v.sdo sdi) (may_is (active v.settings sck) (framed v.settings) _ plain)

-- A driven SDO is read at its level.
level_law : (b : Bool) → read_as (when b then High else Low) ≡ b
unfolding when◌then◌else◌
level_law true = refl
level_law false = refl

pub on_the_wire : (m : Module) → m.settings.spien ≡ true → m.settings.con1.dissdo ≡ false →
    deselected m.settings m.engine.pins.ss ≡ false → read_as (sdo_of m) ≡ m.engine.pins.sdo
unfolding sdo_of undriven
on_the_wire m on driven selected =
    ap read_as (if_false (undriven m) _ _ (drives m.settings.spien m.settings.con1.dissdo _ on driven selected))
    ∙ level_law m.engine.pins.sdo
  where
    drives : (a b c : Bool) → a ≡ true → b ≡ false → c ≡ false → (not a || (b || c)) ≡ false
    drives a b c e f g = rw (e, f, g)

-- What is under way leaves SDO at an edge that samples.
way_leaves : (s : Settings) (sdi : Bool) (n : Engine) (owed : List ℕ) (sh : Shift) (wire : Wire) → Carries (terms s) owed (way_of sh) wire →
    next_samples (terms s) wire ≡ true → (advanced_if_begun s sdi sh n).pins.sdo ≡ n.pins.sdo
unfolding advanced_if_begun
way_leaves s sdi n owed Free wire c e = refl
way_leaves s sdi n owed (Loaded word) wire c e = refl
way_leaves s sdi n owed (Begun p) quiet c e = absurd c
way_leaves s sdi n owed (Begun p) (busy w) c e =
    sampling_leaves s sdi p n c.short (ap (λ (k : ℕ). samples (cke_of s) (k + 1)) (sym c.edges) ∙ e)

-- What is on the wire as an edge is given.
abbrev pub at_edge : Terms → Bool → Ledger → Wire
at_edge t may l = when may then begun_on t l l.wire else l.wire

-- An unframed host sends no filler.
pub host_silent : (s : Settings) → unframed_host s ≡ true → silent s ≡ true
host_silent s host =
    if_false (framed s) _ _ (host_unframed s host) ∙ and_left s.con1.msten _ (and_left (own_clock s) _ host)

-- The host's call, if it makes an edge.
module _ (x : Watched) (v : Lives x) (host : unframed_host x.now.settings ≡ true) (other : Module)
    (made : (perform_of x.now (tick_beside other)).answer ≡ Edge) where
  abbrev s : Settings
  s = x.now.settings

  abbrev n : Engine
  n = x.now.engine

  abbrev sdi : Bool
  sdi = read_as (sdo_of other)

  abbrev sck : Bool
  sck = not x.memory.sck

  abbrev after : Module
  after = (perform_of x.now (tick_beside other)).after

  on : s.spien ≡ true
  on = (tick_when x.now sdi false made).0

  own : own_clock s ≡ true
  own = and_left (own_clock s) _ host

  plain : framed s ≡ false
  plain = host_unframed s host

  not_free : is_free n.shift ≡ false
  not_free = and_rest (clock_stops s) _ (tick_when x.now sdi false made).2 (and_right (own_clock s) _ host)

  is : perform_of x.now (tick_beside other)
      ≡ answering x.now Edge (stepped s (levels (not n.pins.sck) sdi (told_select x.now false)) n)
  is = tick_is x.now sdi false on own (tick_when x.now sdi false made).2

  same : after.settings ≡ s
  unfolding answering
  same = ap (λ (o : Outcome). o.after.settings) is

  edge-made : is_edge (perform_of x.now (tick_beside other)).answer ≡ true
  edge-made = ap is_edge made

  pub host_entered : Entered x (tick_beside other) (active s sck) n.pins.sdo sdi
  host_entered =
      record {
        settings = same;
        entry =
            if_true (is_edge (perform_of x.now (tick_beside other)).answer) _ _ edge-made
            ∙ ap notes
            (edge_ops_lem (sight_of x.now (tick_beside other)) x.memory sck sdi _ plain (and_first (ssen_client s) _ (own_not_client s own))
            (not_unlike x.memory.sck));
      }

  pub host_clock : (watched_call x (tick_beside other)).memory.sck ≡ sck
  host_clock =
      ap (λ (q : Memory). q.sck) (if_true (is_edge (perform_of x.now (tick_beside other)).answer) _ _ edge-made)

  -- It has a word to send.
  owes : (sh : Shift) → n.shift ≡ sh → ShiftHolds s n sh → left_to_send x.ledger ≡ true
  owes Free e k = clash (is_free n.shift) (ap is_free e) not_free
  owes (Loaded word) e k =
      some_left (terms s) (port_in x.now) x.ledger (v.tied on).words word (waiting (depth_of s) n.transmit)
      (ap (λ (q : Shift). unfinished s q ++ waiting (depth_of s) n.transmit) e)
  owes (Begun p) e k =
      some_left (terms s) (port_in x.now) x.ledger (v.tied on).words p.word (waiting (depth_of s) n.transmit)
      (ap (λ (q : Shift). unfinished s q ++ waiting (depth_of s) n.transmit) e
      ∙ ap (λ (q : List ℕ). q ++ waiting (depth_of s) n.transmit)
      (if_false (p.filler || ssen_client s) [] (p.word ∷ []) (neither (k.host (host_silent s host)) (own_not_client s own))))
    where
      neither : p.filler ≡ false → ssen_client s ≡ false → (p.filler || ssen_client s) ≡ false
      neither f c = ap₂ (λ (a b : Bool). a || b) f c

  pub host_left : left_to_send x.ledger ≡ true
  host_left = owes n.shift refl v.holds.holds.shift

  -- What the ledger has on the wire at that edge is what is under way then.
  abbrev turned : Bool
  turned = not n.pins.sck

  acts : active s sck ≡ active s turned
  acts = ap (λ (b : Bool). active s (not b)) (v.tied on).recalls.sck

  carried : Carries (terms s) (port_in x.now).owed (way_of (under_way s turned n)) (at_edge (terms s) (active s sck) x.ledger)
  unfolding under_way
  carried =
      let t : Tied (terms s) (port_in x.now) x.ledger = (v.tied on).words in
      by_test (Bool·beq turned s.con1.ckp)
      (λ back.
      subst₂ (Carries (terms s) (port_in x.now).owed) (ap way_of (sym (if_true (Bool·beq turned s.con1.ckp) _ _ back)))
      (sym (if_false (active s sck) _ _ (acts ∙ ap not back)))
      t.carries)
      (λ away.
      subst₂ (Carries (terms s) (port_in x.now).owed)
      (ap (λ (p : Port). p.way) (begun_port s n (engine_of x.now v.holds.holds).buffers n.shift v.holds.holds.shift)
      ∙ ap way_of
      (sym (if_false (Bool·beq turned s.con1.ckp) _ _ away ∙ if_false (awaits_pulse s n) _ _ (unframed_begins s n plain))))
      (sym (if_true (active s sck) _ _ (acts ∙ ap not away)))
      (tied_op (terms s) (whole_terms s) begins (port_in x.now) x.ledger t tt).carries)

  -- SDO stays at an edge that samples.
  pub host_leaves : next_samples (terms s) (at_edge (terms s) (active s sck) x.ledger) ≡ true → after.engine.pins.sdo ≡ n.pins.sdo
  unfolding answering pulsed clocked
  host_leaves e =
      ap (λ (o : Outcome). o.after.engine.pins.sdo) is
      ∙ ap (λ (b : Bool). (stepped s (levels turned sdi b) n).pins.sdo) (told_elsewhere x.now false (unframed_told s plain))
      ∙ ap (λ (y : Engine). y.pins.sdo) (own_edge_lem s n own sdi)
      ∙ way_leaves s sdi (clocked turned n) _ (under_way s turned n) _ carried e

-- The host's call, if it makes no edge: it changes nothing and is not entered.
module _ (x : Watched) (on : x.now.settings.spien ≡ true) (host : unframed_host x.now.settings ≡ true) (other : Module)
    (none : is_edge (perform_of x.now (tick_beside other)).answer ≡ false) where
  no_edge : (perform_of x.now (tick_beside other)).answer ≡ NoEdge
  no_edge = ticked_none x.now other on (and_left _ (clock_stops x.now.settings) host) none

  pub host_unmoved : watched_call x (tick_beside other) ≡ x
  host_unmoved =
      let m : (watched_call x (tick_beside other)).now ≡ x.now = no_edge_unchanged x.now (tick_beside other) no_edge in
      let r : (watched_call x (tick_beside other)).memory ≡ x.memory =
      if_false (is_edge (perform_of x.now (tick_beside other)).answer) _ _ none in
      let l : (watched_call x (tick_beside other)).ledger ≡ x.ledger =
      ap (λ (q : Entry). entered (terms x.now.settings) q x.ledger)
      (if_false (is_edge (perform_of x.now (tick_beside other)).answer) _ _ none) in
      λ i. record { now = m i; memory = r i; ledger = l i }

-- An enabled, unframed client.
pub record PlainClient (u : Settings) : Type 0 where
  pub on : u.spien ≡ true
  pub client : u.con1.msten ≡ false
  pub plain : framed u ≡ false

-- The client's call.
module _ (y : Watched) (is : PlainClient y.now.settings) (other : Module) where
  abbrev u : Settings
  u = y.now.settings

  pin : perform_of y.now (pins_beside other)
      ≡ answering y.now Done (stepped u (levels (sck_of other) (read_as (sdo_of other)) false) y.now.engine)
  pin = pin_is y.now _ _ false is.on (ap (λ (b : Bool). b && not u.con1.dissck) is.client)

  done : is_done (perform_of y.now (pins_beside other)).answer ≡ true
  unfolding answering
  done = ap (λ (o : Outcome). is_done o.answer) pin

  pub client_settings : (watched_call y (pins_beside other)).now.settings ≡ u
  unfolding answering
  client_settings = ap (λ (o : Outcome). o.after.settings) pin

  shown : entry_at y (pins_beside other)
      ≡ notes (level_ops (sight_of y.now (pins_beside other)) y.memory (sck_of other) (read_as (sdo_of other)) false)
  shown = if_true (is_done (perform_of y.now (pins_beside other)).answer) _ _ done

  -- It sees an edge.
  pub client_entered : Bool·beq (sck_of other) y.memory.sck ≡ false →
      Entered y (pins_beside other) (active u (sck_of other)) y.now.engine.pins.sdo (read_as (sdo_of other))
  client_entered edge =
      record {
        settings = client_settings;
        entry =
            shown
            ∙ ap notes
            (edge_ops_lem (sight_of y.now (pins_beside other)) y.memory (sck_of other) _ false is.plain (and-false (ssen_client u) false refl) edge);
      }

  -- It sees no edge.
  pub client_unmoved : Bool·beq (sck_of other) y.memory.sck ≡ true → entry_at y (pins_beside other) ≡ notes []
  client_unmoved still =
      shown
      ∙ ap notes
      (if_false (deselected u false) _ _ (and-false (ssen_client u) false refl) ∙ if_true (Bool·beq (sck_of other) y.memory.sck) _ _ still)

  pub client_clock : ((watched_call y (pins_beside other)).memory.sck ≡ sck_of other)
      × ((watched_call y (pins_beside other)).memory.ss ≡ false)
  client_clock = (
    ap (λ (q : Memory). q.sck) (if_true (is_done (perform_of y.now (pins_beside other)).answer) _ _ done),
    ap (λ (q : Memory). q.ss) (if_true (is_done (perform_of y.now (pins_beside other)).answer) _ _ done),
  )
