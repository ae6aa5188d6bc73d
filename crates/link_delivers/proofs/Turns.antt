-- One turn of a linked run: the host's call and the client's call, each an edge of the law at its end.
--     Paired         settings that a linked run accepts, with SDO driven at both ends
--     Joined         two watched modules on one wire, since the run began with these modules
--     turn_joined    a turn keeps them joined
-- Assumes nothing.
use Rattle.std.specs.Prelude.{◌||◌, ◌≡◌}
use Rattle.laws.proofs.Common.{Bool, true, false, not, Bool·beq, or-true, sym, ap, ap₂, subst, subst₂, ◌∙◌}
use Rattle.laws.proofs.Common.{if_false, and_left, and-false, and_first}
use Rattle.word_order.specs.Ledger.{Terms, Ledger, left_to_send, noted_all}
use Rattle.word_order.specs.Port.{LegalAll}
use Rattle.word_order.specs.Machine.{Entry, entered}
use Rattle.word_order.proofs.Order.{call_steps}
use Rattle.word_wire.specs.Wire.{turn_ops}
use Rattle.word_wire.proofs.Departs.{Departs, turn_departs, turn_accepts}
use Rattle.word_wire.proofs.Arrives.{Faces, Arrives, Starts, next_samples, turn_arrives}
use Rattle.module_rules.proofs.Types.{Settings, Module, Edge, Call}
use Rattle.module_rules.specs.Settings.{width_of, framed, cke_of, silent, ssen_client, own_clock, unframed_host}
use Rattle.module_rules.specs.Calls.{sck_of, sdo_of, perform_of}
use Rattle.module_rules.specs.Words.{owed_words}
use Rattle.module_rules.specs.Watch.{terms, port_in, ours, Watched, watched_call}
use Rattle.module_invariant.proofs.CallsWhen.{own_not_client, not_unlike}
use Rattle.module_order.proofs.Ports.{whole_terms}
use Rattle.module_order.proofs.Order.{ours_owes, Lives, lives_on}
use Rattle.link_rules.specs.LinkDemands.{read_as, tick_beside, pins_beside}
use Rattle.link_rules.specs.WireDemands.{before, room_in}
use Rattle.link_delivers.proofs.Calls.{PlainClient, Entered, active, on_the_wire, at_edge, host_entered, host_clock, host_left, host_leaves, client_entered, client_clock}

-- Settings that a linked run accepts, with SDO driven at both ends.
pub record Paired (s u : Settings) : Type 0 where
  pub host_on : s.spien ≡ true
  pub host : unframed_host s ≡ true
  pub client : PlainClient u
  pub cke : cke_of s ≡ cke_of u
  pub width : width_of s ≡ width_of u
  pub ckp : s.con1.ckp ≡ u.con1.ckp
  pub host_driven : s.con1.dissdo ≡ false
  pub client_driven : u.con1.dissdo ≡ false

-- One end: its settings stay, and the words that it owed as the run began are those that it accepted, and depart in their order.
pub record End (began : Module) (x : Watched) : Type 0 where
  pub lives : Lives x
  pub settings : x.now.settings ≡ began.settings
  pub departs : Departs (terms x.now.settings) x.ledger
  pub owes : x.ledger.accepted ≡ owed_words began

-- A wire from one end to the other, which had its room as the run began.
pub record Wired (began : Module) (s : Settings) (l : Ledger) (u : Settings) (k : Ledger) : Type 0 where
  pub faces : Faces (terms s) (terms u) (before began) (room_in began)
  pub arrives : Arrives (before began) (room_in began) l k

abbrev pub WiredBetween : Module → Watched → Watched → Type 0
WiredBetween began x y = Wired began x.now.settings x.ledger y.now.settings y.ledger

-- Both ends in step.
pub record Joined (host client : Module) (x y : Watched) : Type 0 where
  pub pair : Paired x.now.settings y.now.settings
  pub host_end : End host x
  pub client_end : End client y
  pub to_client : WiredBetween client x y
  pub to_host : WiredBetween host y x
  pub clock : y.memory.sck ≡ x.memory.sck
  pub low : y.memory.ss ≡ false

-- A call that is entered as an edge, at one end.
module _ (x : Watched) (c : Call) (may sdo sdi : Bool) (e : Entered x c may sdo sdi) where
  abbrev t : Terms
  t = terms x.now.settings

  noted-so : (watched_call x c).ledger ≡ noted_all t (turn_ops may sdo sdi) x.ledger
  noted-so = ap (λ (q : Entry). entered t q x.ledger) e.entry

  end_on : (began : Module) → x.now.settings.spien ≡ true → End began x → End began (watched_call x c)
  end_on began on h =
      let still : (watched_call x c).now.settings.spien ≡ true = ap (λ (s : Settings). s.spien) e.settings ∙ on in
      let legal : LegalAll t (turn_ops may sdo sdi) (port_in x.now) =
      rw e.entry at (call_steps ours ours_owes x c h.lives.holds h.lives.tied still).0.legal in
      record {
        lives = lives_on x c h.lives;
        settings = e.settings ∙ h.settings;
        departs =
            subst₂ (λ (s : Settings) (l : Ledger). Departs (terms s) l) (sym e.settings) (sym noted-so)
            (turn_departs t (whole_terms x.now.settings) (port_in x.now) x.ledger may sdo sdi
            (h.lives.tied on).words legal h.departs);
        owes = ap (λ (l : Ledger). l.accepted) noted-so ∙ turn_accepts t may sdo sdi x.ledger ∙ h.owes;
      }

-- Two calls that are entered as one edge, at both ends.
wired_on : (began : Module) (x y : Watched) (c d : Call) (may sdo sdi sdo' sdi' : Bool) → Entered x c may sdo sdi →
    Entered y d may sdo' sdi' →
    (may ≡ true → Starts (terms x.now.settings) x.ledger × Starts (terms y.now.settings) y.ledger) →
    (next_samples (terms x.now.settings) (at_edge (terms x.now.settings) may x.ledger) ≡ true → sdo ≡ sdi') →
    WiredBetween began x y → WiredBetween began (watched_call x c) (watched_call y d)
wired_on began x y c d may sdo sdi sdo' sdi' e f starts same w =
    record {
      faces = rw (e.settings, f.settings) w.faces;
      arrives =
          rw (noted-so x c may sdo sdi e, noted-so y d may sdo' sdi' f)
          (turn_arrives _ _ (before began) (room_in began) w.faces sdo sdi sdo' sdi' may x.ledger y.ledger starts same
          w.arrives);
    }

module _ (host client : Module) (x y : Watched) (j : Joined host client x y)
    (made : (perform_of x.now (tick_beside y.now)).answer ≡ Edge) where
  abbrev s : Settings
  s = x.now.settings

  abbrev u : Settings
  u = y.now.settings

  abbrev x₁ : Watched
  x₁ = watched_call x (tick_beside y.now)

  abbrev y₁ : Watched
  y₁ = watched_call y (pins_beside x₁.now)

  abbrev acts : Bool
  acts = active s (not x.memory.sck)

  abbrev sdi₁ : Bool
  sdi₁ = read_as (sdo_of y.now)

  abbrev sdi₂ : Bool
  sdi₂ = read_as (sdo_of x₁.now)

  ticked : Entered x (tick_beside y.now) acts x.now.engine.pins.sdo sdi₁
  ticked = host_entered x j.host_end.lives j.pair.host y.now made

  host_on_lem : End host x₁
  host_on_lem = end_on x (tick_beside y.now) acts x.now.engine.pins.sdo sdi₁ ticked host j.pair.host_on j.host_end

  still : x₁.now.settings.spien ≡ true
  still = ap (λ (q : Settings). q.spien) ticked.settings ∙ j.pair.host_on

  clock-is : sck_of x₁.now ≡ not x.memory.sck
  unfolding sck_of
  clock-is =
      sym (host_on_lem.lives.tied still).recalls.sck ∙ host_clock x j.host_end.lives j.pair.host y.now made

  seen : Entered y (pins_beside x₁.now) acts y.now.engine.pins.sdo sdi₂
  seen =
      subst (λ (b : Bool). Entered y (pins_beside x₁.now) b y.now.engine.pins.sdo sdi₂)
      (ap₂ (λ (a c : Bool). not (Bool·beq a c)) clock-is (sym j.pair.ckp))
      (client_entered y j.pair.client x₁.now
      (ap₂ Bool·beq clock-is j.clock ∙ not_unlike x.memory.sck))

  -- The levels that both ends carry.
  host_level : sdi₂ ≡ x₁.now.engine.pins.sdo
  host_level =
      on_the_wire x₁.now still (ap (λ (q : Settings). q.con1.dissdo) ticked.settings ∙ j.pair.host_driven)
      (and_first (ssen_client x₁.now.settings) _
      (ap ssen_client ticked.settings ∙ own_not_client s (and_left (own_clock s) _ j.pair.host)))

  client-level : sdi₁ ≡ y.now.engine.pins.sdo
  client-level =
      on_the_wire y.now j.pair.client.on j.pair.client_driven
      (and-false (ssen_client u) _ (sym (j.client_end.lives.tied j.pair.client.on).recalls.ss ∙ j.low))

  -- Both begin something: the host has a word to send, and the client sends a filler if it has none.
  host-starts : Starts (terms s) x.ledger
  host-starts = ap (λ (b : Bool). b || not (silent s)) (host_left x j.host_end.lives j.pair.host y.now made)

  client-starts : Starts (terms u) y.ledger
  client-starts =
      ap (λ (b : Bool). left_to_send y.ledger || not b) (if_false (framed u) _ _ j.pair.client.plain ∙ j.pair.client.client)
      ∙ or-true (left_to_send y.ledger)

  pub turn_joined : Joined host client x₁ y₁
  turn_joined =
      record {
        pair = rw (ticked.settings, seen.settings) j.pair;
        host_end = host_on_lem;
        client_end =
            end_on y (pins_beside x₁.now) acts y.now.engine.pins.sdo sdi₂ seen client j.pair.client.on j.client_end;
        to_client =
            wired_on client x y (tick_beside y.now) (pins_beside x₁.now) acts x.now.engine.pins.sdo sdi₁
            y.now.engine.pins.sdo sdi₂ ticked seen (λ a. (host-starts, client-starts))
            (λ e. sym (host_leaves x j.host_end.lives j.pair.host y.now made e) ∙ sym host_level) j.to_client;
        to_host =
            wired_on host y x (pins_beside x₁.now) (tick_beside y.now) acts y.now.engine.pins.sdo sdi₂
            x.now.engine.pins.sdo sdi₁ seen ticked (λ a. (client-starts, host-starts)) (λ e. sym client-level) j.to_host;
        clock =
            (client_clock y j.pair.client x₁.now).0
            ∙ clock-is
            ∙ sym (host_clock x j.host_end.lives j.pair.host y.now made);
        low = (client_clock y j.pair.client x₁.now).1;
      }
