-- A whole linked run: its first call joins both ends, and every turn keeps them so.
--     begins_joined   after the first call, for modules at word boundaries
--     run_joined      from the host's turn on
-- Assumes nothing.
use Rattle.std.specs.Prelude.{◌*◌, ◌∷◌, ◌≡◌}
use Rattle.laws.proofs.Common.{ℕ, zero, suc, Bool, true, false, not, Bool·beq, List, [], append-nil, refl, sym}
use Rattle.laws.proofs.Common.{ap, subst₂, ◌∙◌, arith, length, when◌then◌else◌, if_both, by_test, clash}
use Rattle.word_order.specs.Ledger.{Terms, Wire, quiet, Ledger, unmarked, noted_all, given}
use Rattle.word_order.specs.Port.{idle, is_under, wire_from}
use Rattle.word_order.specs.Machine.{Entry, entered}
use Rattle.word_wire.specs.Wire.{turn_ops}
use Rattle.word_wire.proofs.Lists.{Room}
use Rattle.word_wire.proofs.Departs.{Departs, none_departs}
use Rattle.module_rules.proofs.Types.{Settings, Engine, Module, Shift, Free, Loaded, Begun, Answer, Refused, Done, Value}
use Rattle.module_rules.proofs.Types.{NoEdge, Edge, Call}
use Rattle.module_rules.specs.Settings.{depth_of, unframed_host}
use Rattle.module_rules.specs.Bits.{samples}
use Rattle.module_rules.specs.Refusals.{is_edge}
use Rattle.module_rules.specs.Calls.{sck_of, perform_of}
use Rattle.module_rules.specs.Invariant.{Reached, ShiftHolds}
use Rattle.module_rules.specs.Words.{unread_in}
use Rattle.module_rules.specs.Watch.{terms, way_of, Watched, watched_call, watched_calls}
use Rattle.module_rules.specs.Lives.{mid_life, resumed_at}
use Rattle.module_rules.proofs.BuffersOrder.{unread_length}
use Rattle.module_order.proofs.Order.{life_holds, lives_on}
use Rattle.link_rules.specs.LinkDemands.{tick_beside, pins_beside, host_calls, client_calls}
use Rattle.link_rules.specs.WireDemands.{Ready, before, room_in}
use Rattle.link_delivers.proofs.Calls.{active, host_unmoved, client_settings, client_entered, client_unmoved, client_clock}
use Rattle.link_delivers.proofs.Turns.{Paired, End, Wired, WiredBetween, Joined, turn_joined}

-- An answer that is an edge.
is_edge_lem : (a : Answer) → is_edge a ≡ true → a ≡ Edge
is_edge_lem (Refused r) e = clash false e refl
is_edge_lem Done e = clash false e refl
is_edge_lem (Value v) e = clash false e refl
is_edge_lem NoEdge e = clash false e refl
is_edge_lem Edge e = refl

-- From the host's turn on, both ends stay in step.
pub run_joined : (left : ℕ) (host client : Module) (x y : Watched) → Joined host client x y →
    Joined host client (watched_calls x (host_calls left x.now y.now)) (watched_calls y (client_calls left x.now y.now))
unfolding host_calls client_calls
run_joined zero host client x y j = j
run_joined (suc left) host client x y j =
    let c : Call = tick_beside y.now in
    if_both (λ (cs ds : List Call). Joined host client (watched_calls x (c ∷ cs)) (watched_calls y ds))
    (is_edge (perform_of x.now c).answer) _ _ _ _ _ refl
    (λ e. run_joined left host client _ _ (turn_joined host client x y j (is_edge_lem _ e)))
    (λ e.
    rw (host_unmoved x j.pair.host_on j.pair.host y.now e) j)

-- The room of a receive buffer, by the ledger that opens with what the module holds.
room_is : (m : Module) (h : Reached m) (on : m.settings.spien ≡ true) → Room (terms m.settings) (before m) (room_in m)
room_is m h on =
    let t = ((life_holds (mid_life m h on) []).tied on).words in
    let kept : length (unmarked (before m)) ≡ length (unread_in m) = ap length t.receiving in
    let count : length (unread_in m) ≡ m.engine.receive.count = unread_length (depth_of m.settings) m.engine.receive in
    record {
      left = omega (arith, kept, count, h.holds.receive.fits);
      ended = λ e. let full : m.engine.receive.count ≡ depth_of m.settings = (h.mark (t.mark ∙ e)).1 in omega (arith, full, count);
    }

-- With no word begun the clock of an unframed host is idle.
clock_idle : (s : Settings) (n : Engine) (sh : Shift) → ShiftHolds s n sh → s.spien ≡ true → unframed_host s ≡ true →
    way_of sh ≡ idle → n.pins.sck ≡ s.con1.ckp
clock_idle s n Free k on own e = k.1 on own
clock_idle s n (Loaded word) k on own e = k.2 own
clock_idle s n (Begun p) k on own e = clash true refl (ap is_under e)

beq_same : (a : Bool) → Bool·beq a a ≡ true
beq_same true = refl
beq_same false = refl

-- An edge to the idle level does nothing to a quiet wire.
unmoved : (t : Terms) (sdo sdi may : Bool) (l : Ledger) → l.wire ≡ quiet → may ≡ false → noted_all t (turn_ops may sdo sdi) l ≡ l
unfolding given when◌then◌else◌
unmoved t sdo sdi true l calm still = clash true refl still
unmoved t sdo sdi false l calm still = ap (λ (w : Wire). given t sdo sdi w l) calm

-- One end as a run begins.
calm : (m : Module) → Ready m → (resumed_at m).ledger.wire ≡ quiet
calm m r = ap (wire_from (terms m.settings)) r.between

opens : (m : Module) → Ready m → m.settings.spien ≡ true → End m (resumed_at m)
opens m r on =
    record {
      lives = life_holds (mid_life m r.reached on) [];
      settings = refl;
      departs = none_departs (terms m.settings) _ refl (calm m r);
      owes = refl;
    }

-- A wire as a run begins: nothing has passed.
wire_opens : (a b : Module) → Ready a → Ready b → b.settings.spien ≡ true → (terms a.settings).last ≡ (terms b.settings).last →
    ((e : ℕ) → (terms a.settings).samples e ≡ (terms b.settings).samples e) → WiredBetween b (resumed_at a) (resumed_at b)
wire_opens a b r q on last alike =
    record {
      faces = record { last = last; alike = alike; drops = refl; fits = room_is b q.reached on };
      arrives =
          record {
            wire = rw (calm a r, calm b q) tt;
            words = sym (append-nil (before b));
            unread = refl;
            equally = refl;
          };
    }

module _ (host client : Module) (h : Ready host) (g : Ready client) (pair : Paired host.settings client.settings) where
  abbrev x : Watched
  x = resumed_at host

  abbrev y : Watched
  y = resumed_at client

  abbrev z : Watched
  z = watched_call y (pins_beside host)

  -- The host's clock is idle, so that the first call begins nothing.
  idle-clock : active client.settings (sck_of host) ≡ false
  unfolding sck_of
  idle-clock =
      ap (λ (b : Bool). not (Bool·beq b client.settings.con1.ckp))
      (clock_idle host.settings host.engine host.engine.shift h.reached.holds.shift pair.host_on pair.host h.between
      ∙ pair.ckp)
      ∙ ap not (beq_same client.settings.con1.ckp)

  same-ledger : z.ledger ≡ y.ledger
  same-ledger =
      let enters : Entry → Ledger = λ (q : Entry). entered (terms client.settings) q y.ledger in
      by_test (Bool·beq (sck_of host) y.memory.sck)
      (λ still. ap enters (client_unmoved y pair.client host still))
      (λ edge.
      ap enters (client_entered y pair.client host edge).entry
      ∙ unmoved (terms client.settings) _ _ _ y.ledger (calm client g) idle-clock)

  same-settings : z.now.settings ≡ client.settings
  same-settings = client_settings y pair.client host

  same_clock : z.memory.sck ≡ x.memory.sck
  unfolding sck_of
  same_clock = (client_clock y pair.client host).0

  -- The first call joins both ends.
  pub begins_joined : Joined host client x z
  begins_joined =
      let k : End client y = opens client g pair.client.on in
      let last : (terms host.settings).last ≡ (terms client.settings).last = ap (λ (w : ℕ). 2 * w) pair.width in
      let alike : (e : ℕ) → (terms host.settings).samples e ≡ (terms client.settings).samples e =
      λ e. ap (λ (c : Bool). samples c e) pair.cke in
      record {
        pair = rw same-settings pair;
        host_end = opens host h pair.host_on;
        client_end =
            record {
              lives = lives_on y (pins_beside host) k.lives;
              settings = same-settings;
              departs = subst₂ (λ (u : Settings) (l : Ledger). Departs (terms u) l) (sym same-settings) (sym same-ledger) k.departs;
              owes = ap (λ (l : Ledger). l.accepted) same-ledger;
            };
        to_client =
            subst₂ (Wired client host.settings x.ledger) (sym same-settings) (sym same-ledger)
            (wire_opens host client h g pair.client.on last alike);
        to_host =
            subst₂ (λ (u : Settings) (l : Ledger). Wired host u l host.settings x.ledger) (sym same-settings) (sym same-ledger)
            (wire_opens client host g h pair.host_on (sym last) (λ e. sym (alike e)));
        clock = same_clock;
        low = (client_clock y pair.client host).1;
      }
