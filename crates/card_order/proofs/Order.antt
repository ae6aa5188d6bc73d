-- The card is a machine of the law of word order.
--     keeps        calls keep the invariant
--     steps        each call, by its words and by the watcher's count of edges
--     owes         what the card owes the law
--     card_tied    a card and its ledger after any calls from power-up
--     card_order_lem   demand 3's word order
-- Assumes nothing.
use Rattle.std.specs.Prelude.{◌*◌, ◌-◌, ◌/◌, ◌%◌, ◌≤◌, ◌∷◌, ◌≡◌}
use Rattle.laws.proofs.Common.{ℕ, Bool, true, false, not, List, [], append_assoc, refl}
use Rattle.laws.proofs.Common.{sym, ap, ◌∙◌, mod-lt, arith, not-false, when◌then◌else◌, if_keeps, clash}
use native.Mathlib.Nat.{zero-mod}
use lib.Pow.{pow_pos}
use Rattle.word_order.specs.Bits.{sampled_in}
use Rattle.word_order.specs.Port.{idle, ShowsOn, Whole}
use Rattle.word_order.specs.Machine.{Entry, notes, Step, Machine, InOrder}
use Rattle.word_order.proofs.Order.{TiedOn, calls_tied, in_order_lem}
use Rattle.card_rules.specs.Settings.{named, Settings, Shape, shape_of}
use Rattle.card_rules.specs.Card.{Pins, Flags, Engine, Card, with_flags, with_unread, with_engine, powered_up}
use Rattle.card_rules.specs.Edge.{at_first_place, samples, last_edge, is_full}
use Rattle.card_rules.specs.Calls.{Call, set_protocol, set_length, enable, disable, write, read, edge, clear_underrun, clear_overflow, Outcome, set_protocol_of, set_length_of, enable_of, disable_of, sample_of, write_of, read_from, read_of, edge_of, clear_underrun_of, clear_overflow_of, perform_of, perform}
use Rattle.card_rules.specs.Figures.{starts_channel}
use Rattle.card_rules.specs.Watch.{port_of, Sight, edges_after, edge_ops, entry_of, watching, powered_up_card, life}
use Rattle.card_order.specs.Invariant.{Fits, terms_of, WithinOn, Holds}
use Rattle.card_order.proofs.Sampling.{sampled_in_lem}
use Rattle.card_order.proofs.EdgeWords.{EdgeStep, edge_step, edged_place}
use Rattle.card_order.proofs.FiguresHold.{named_fits, same_figures, terms_same, frame_is, place_next}

-- Three choices by one test have what their values have.
if_three : {A B C : Type 0} (P : A → B → C → Type 0) (b : Bool) (x y : A) (u v : B) (p q : C) → (b ≡ true → P x u p) →
    (b ≡ false → P y v q) → P (when b then x else y) (when b then u else v) (when b then p else q)
unfolding when◌then◌else◌
if_three P true x y u v p q h k = h refl
if_three P false x y u v p q h k = k refl

-- The frame has clocks.
some_frame : (x : Settings) → named x.bits x.frame ≡ true → 1 ≤ x.frame
some_frame x e = omega (arith, (named_fits x e).inside, (same_figures x).frame)

-- A disabled card has nothing under way.
resting : (m : Card) → Holds m → m.enabled ≡ false → m.engine.way ≡ idle
resting m h off = ap (λ (n : Engine). n.way) (h.rests off)

abbrev with_pins : Pins → Engine → Engine
with_pins x n =
    record { place = n.place; waiting = n.waiting; way = n.way; unread = n.unread; pins = x; flags = n.flags }

abbrev After : Outcome → Type 0
After o = Holds o.after

-- Settings change where nothing is under way.
set_anew : (m : Card) (x : Settings) → Holds m → m.enabled ≡ false → named x.bits x.frame ≡ true →
    Holds (record { enabled = m.enabled; settings = x; engine = m.engine })
set_anew m x h off e =
    record {
      names = e;
      shows = rw (resting m h off) tt;
      within = rw (resting m h off) tt;
      rests = h.rests;
    }

-- Flags change.
flagged : (m : Card) (flags : Flags) → Holds m → Holds (with_engine (with_flags flags m.engine) m)
flagged m flags h =
    record {
      names = h.names;
      shows = h.shows;
      within = h.within;
      rests = λ off. ap (λ (n : Engine). with_flags flags (with_pins m.engine.pins n)) (h.rests off);
    }

-- Samples and edges move while the card is enabled.
moved : (m : Card) (n : Engine) → Holds m → not m.enabled ≡ false → ShowsOn (terms_of (shape_of m.settings)) n.pins.sdo n.way →
    WithinOn (shape_of m.settings) n.way → Holds (with_engine n m)
moved m n h on shows within =
    record { names = h.names; shows = shows; within = within; rests = λ off. clash m.enabled (not-false m.enabled on) off }

pub keeps : (m : Card) (c : Call) → Holds m → Holds (perform m c)
unfolding set_protocol_of set_length_of enable_of disable_of write_of read_of edge_of clear_underrun_of clear_overflow_of
keeps m (set_protocol p) h = if_keeps After m.enabled _ _ (λ e. h) (λ off. set_anew m _ h off h.names)
keeps m (set_length bits frame) h =
    if_keeps After m.enabled _ _ (λ e. h)
    (λ off. if_keeps After (named bits frame) _ _ (λ e. set_anew m _ h off e) (λ e. h))
keeps m enable h =
    if_keeps After m.enabled _ _ (λ e. h) (λ off. record { names = h.names; shows = tt; within = tt; rests = λ f. refl })
keeps m disable h =
    if_keeps After m.enabled _ _ (λ on. record { names = h.names; shows = tt; within = tt; rests = λ f. refl }) (λ e. h)
keeps m (write v) h =
    if_keeps After (not m.enabled) _ _ (λ e. h)
    (λ on. if_keeps After (is_full m.engine.waiting) _ _ (λ e. h) (λ e. moved m _ h on h.shows h.within))
keeps m read h = if_keeps After (not m.enabled) _ _ (λ e. h) (λ on. go on m.engine.unread)
  where
    go : not m.enabled ≡ false → (r : List ℕ) → Holds (read_from m r).after
    go on [] = h
    go on (sample ∷ rest) = moved m (with_unread rest m.engine) h on h.shows h.within
keeps m (edge sdi) h =
    if_keeps After (not m.enabled) _ _ (λ e. h)
    (λ on.
    let s : Shape = shape_of m.settings in
    let g = edge_step s (named_fits m.settings h.names) sdi m.engine (at_first_place s m.engine.place) refl h.shows h.within in
    moved m _ h on g.shows g.within)
keeps m clear_underrun h = flagged m _ h
keeps m clear_overflow h = flagged m _ h

-- A call, by its outcome.
abbrev pub StepOf : Card → Call → ℕ → Outcome → Type 0
StepOf m c n o =
    let x : Sight = record { enabled = m.enabled; settings = m.settings; sdo = m.engine.pins.sdo; answer = o.answer } in
    o.after.enabled ≡ true →
    Step (terms_of (shape_of m.settings)) (terms_of (shape_of o.after.settings)) m.enabled (entry_of n x c) (port_of m.engine)
    (port_of o.after.engine)
    × (o.after.engine.place ≡ edges_after n x c % (2 * o.after.settings.frame))

module _ (m : Card) (n : ℕ) (h : Holds m) (tied : m.enabled ≡ true → m.engine.place ≡ n % (2 * m.settings.frame)) where
  -- Nothing was written down, and no sample moved.
  unchanged : m.enabled ≡ true →
      Step (terms_of (shape_of m.settings)) (terms_of (shape_of m.settings)) m.enabled (notes []) (port_of m.engine) (port_of m.engine)
  unchanged on = record { ports = refl; legal = tt; stays = λ f. (on, refl) }

  pub steps : (c : Call) → StepOf m c n (perform_of m c)
  unfolding set_protocol_of set_length_of enable_of disable_of write_of sample_of read_of edge_of clear_underrun_of clear_overflow_of
  steps (set_protocol p) =
      if_keeps (StepOf m (set_protocol p) n) m.enabled _ _ (λ e on. (unchanged on, tied on)) (λ off on. clash m.enabled on off)
  steps (set_length bits frame) =
      if_keeps (StepOf m (set_length bits frame) n) m.enabled _ _ (λ e on. (unchanged on, tied on))
      (λ off.
      if_keeps (StepOf m (set_length bits frame) n) (named bits frame) _ _ (λ e on. clash m.enabled on off)
      (λ e on. clash m.enabled on off))
  steps enable =
      if_three
      (λ (o : Outcome) (e : Entry) (k : ℕ).
      o.after.enabled ≡ true →
      Step (terms_of (shape_of m.settings)) (terms_of (shape_of o.after.settings)) m.enabled e (port_of m.engine)
      (port_of o.after.engine)
      × (o.after.engine.place ≡ k % (2 * o.after.settings.frame)))
      m.enabled _ _ _ _ _ _ (λ e on. (unchanged on, tied on))
      (λ e on. (record { ports = refl; legal = tt; stays = λ f. clash true refl f }, sym (zero-mod (2 * m.settings.frame))))
  steps disable = if_keeps (StepOf m disable n) m.enabled _ _ (λ e on. clash false on refl) (λ off on. clash m.enabled on off)
  steps (write v) =
      if_keeps (StepOf m (write v) n) (not m.enabled) _ _ (λ e on. (unchanged on, tied on))
      (λ e.
      if_keeps (StepOf m (write v) n) (is_full m.engine.waiting) _ _ (λ f on. (unchanged on, tied on))
      (λ f on. (
        record {
          ports = rw append_assoc;
          legal = (rw (← (same_figures m.settings).bits) (mod-lt v (pow_pos m.settings.bits)), tt);
          stays = λ g. (on, refl);
        },
        tied on,
      )))
  steps read =
      if_keeps (StepOf m read n) (not m.enabled) _ _ (λ e on. (unchanged on, tied on)) (λ e. go m.engine.unread refl)
    where
      go : (r : List ℕ) → m.engine.unread ≡ r → StepOf m read n (read_from m r)
      go [] e = λ on. (unchanged on, tied on)
      go (sample ∷ rest) e =
          λ on. (record { ports = rw e; legal = (record { first = rw e }, tt); stays = λ f. (on, refl) }, tied on)
  steps (edge sdi) =
      if_keeps (StepOf m (edge sdi) n) (not m.enabled) _ _ (λ e on. (unchanged on, tied on))
      (λ e on.
      let x : Settings = m.settings in
      let s : Shape = shape_of x in
      let same : starts_channel x n ≡ at_first_place s m.engine.place =
      (frame_is x h.names n).starts ∙ ap (at_first_place s) (sym (tied on)) in
      let g : EdgeStep s sdi (edge_ops (starts_channel x n) m.engine.pins.sdo sdi) m.engine =
      edge_step s (named_fits x h.names) sdi m.engine (starts_channel x n) same h.shows h.within in (
        record { ports = g.ports; legal = g.legal; stays = λ f. (on, refl) },
        rw (edged_place s sdi m.engine, ← (same_figures x).frame)
            (place_next x.frame n m.engine.place (some_frame x h.names) (tied on)),
      ))
  steps clear_underrun = λ on. (unchanged on, tied on)
  steps clear_overflow = λ on. (unchanged on, tied on)

-- What the card owes the law.
pub whole : (m : Card) → Holds m → Whole (terms_of (shape_of m.settings))
whole m h =
    let s : Shape = shape_of m.settings in
    let f : Fits s = named_fits m.settings h.names in
    let all : sampled_in (samples s) (last_edge s) ≡ last_edge s / 2 - s.lead = sampled_in_lem s (last_edge s) in
    record { all = omega arith; some = omega (arith, f.some); deep = omega arith }

abbrev pub owes : Machine watching
owes =
    record {
      Holds = Holds;
      Recalls = λ m n. m.engine.place ≡ n % (2 * m.settings.frame);
      keeps = keeps;
      whole = λ m h. rw (terms_same m.settings) (whole m h);
      steps = λ m c n under given h tied on.
          let r = steps m n h (λ e. (tied e).1) c on in
          (rw (terms_same m.settings, terms_same (perform m c).settings) r.0, λ later e. r.1);
    }

-- From power-up.
pub holds_at_power_up : Holds powered_up
unfolding powered_up named
holds_at_power_up = record { names = refl; shows = tt; within = tt; rests = λ off. refl }

off_at_power_up : TiedOn watching owes powered_up_card
unfolding powered_up
off_at_power_up = λ on. clash false on refl

pub card_tied : (cs : List Call) → Holds (life cs).now × TiedOn watching owes (life cs)
card_tied cs = calls_tied watching owes cs powered_up_card holds_at_power_up off_at_power_up

pub card_order_lem : (cs : List Call) → (life cs).now.enabled ≡ true → InOrder watching (life cs)
card_order_lem cs = in_order_lem watching owes cs powered_up_card holds_at_power_up off_at_power_up
