-- An edge of the card, by its words.
--     taken_port, clocked_port   a sample begins; an edge of it, or of an open clock
--     EdgeStep, edge_step        a whole edge: the words, what SDO shows, and what is received
--     edged_place                the edge of the frame that comes next
-- Assumes nothing.
use Rattle.std.specs.Prelude.{◌+◌, ◌*◌, ◌-◌, ◌/◌, ◌%◌, ◌<◌, ◌∷◌, ◌++◌, ◌≡◌}
use Rattle.laws.proofs.Common.{ℕ, Bool, true, false, or-false, List, [], refl}
use Rattle.laws.proofs.Common.{ap, subst, ◌∙◌, arith, eq-eqb, ltb-true, ltb, leb, eqb, length, drop, when◌then◌else◌, if_keeps}
use Rattle.laws.proofs.Common.{if_both, if_true, clash}
use Rattle.ring.specs.Ring.{next}
use Rattle.word_order.specs.Bits.{bit_of, sampled_in}
use Rattle.word_order.specs.Ledger.{Op, begins}
use Rattle.word_order.specs.Port.{Way, idle, sends, Port, played, played_all, Shows, ShowsOn, LegalAll, advanced, loses_at}
use Rattle.word_order.specs.Port as port
use Rattle.card_rules.specs.Settings.{Shape}
use Rattle.card_rules.specs.Card.{Engine, with_way, with_waiting}
use Rattle.card_rules.specs.Edge.{at_first_place, begun_from, begun, samples, last_edge, received_after, shifted, is_full, finished, opened, clocked_as, clocked, turned, edged}
use Rattle.card_rules.specs.Watch.{port_of, edge_ops}
use Rattle.card_order.specs.Invariant.{Fits, terms_of, Within, WithinOn}
use Rattle.card_order.proofs.Sampling.{samples_odd, sampling, sampled_in_lem, channel_bit_lem, Received, received_whole}

-- The port of an engine by its parts.
abbrev port_with : List ℕ → Way → List ℕ → Port
port_with owed way unread = record { owed = owed; way = way; unread = unread; marked = false }

-- A zero sample is owed no word, and any other is the first of those owed.
less_owed : (filler : Bool) (word : ℕ) (waiting : List ℕ) →
    (when filler then (when filler then [] else word ∷ []) ++ waiting else drop 1 ((when filler then [] else word ∷ []) ++ waiting)) ≡ waiting
unfolding when◌then◌else◌
less_owed true word waiting = refl
less_owed false word waiting = refl

-- The finish.
finish_port : (s : Shape) (filler : Bool) (word edges received : ℕ) (n : Engine) (way : Way) →
    port_of (finished received n)
    ≡ port.finished (terms_of s) (record { filler = filler; word = word; edges = edges; received = received })
    (port_with ((when filler then [] else word ∷ []) ++ n.waiting) way n.unread)
unfolding finished is_full port.finished loses_at when◌then◌else◌
finish_port s filler word edges received n way =
    if_keeps
    (λ (x : Engine).
    port_with x.waiting idle x.unread
    ≡ port.finished (terms_of s) (record { filler = filler; word = word; edges = edges; received = received })
    (port_with ((when filler then [] else word ∷ []) ++ n.waiting) way n.unread))
    (leb 8 (length n.unread)) _ _
    (λ e. rw (less_owed filler word n.waiting, or-false (leb 8 (length n.unread)), e))
    (λ e. rw (less_owed filler word n.waiting, or-false (leb 8 (length n.unread)), e))

-- An edge of what is under way.
clocked_port : (s : Shape) → Fits s → (sdi : Bool) (way : Way) (n : Engine) → n.way ≡ way → WithinOn s way →
    port_of (clocked_as s sdi way n) ≡ advanced (terms_of s) sdi way (port_of n)
unfolding advanced shifted opened port.progressed
clocked_port s f sdi idle n is w = refl
clocked_port s f sdi (sends u) n is w =
    let r : Received s sdi u = received_whole s f sdi u w in
    if_both (λ (x : Engine) (p : Port). port_of x ≡ p) (ltb (u.edges + 1) (last_edge s)) _ _ _ _ _ refl
    (λ e. rw (is, r.whole))
    (λ e. finish_port s u.filler u.word (u.edges + 1) (received_after s sdi u) n n.way ∙ rw (is, r.whole))

-- A sample begins. The engine is written with what is under way and waiting apart, so that both can be looked at.
abbrev pub having : Way → List ℕ → Engine → Engine
having way waiting n = with_way way (with_waiting waiting n)

pub taken_port : (s : Shape) (way : Way) (waiting : List ℕ) (n : Engine) →
    port_of (begun_from way (having way waiting n)) ≡ played (terms_of s) begins (port_of (having way waiting n))
unfolding when◌then◌else◌
taken_port s idle [] n = refl
taken_port s idle (word ∷ rest) n = refl
taken_port s (sends u) waiting n = refl

-- SDO and the place stay as a sample begins, and its first edge does not sample.
taken_stays : (way : Way) (waiting : List ℕ) (n : Engine) →
    ((begun_from way (having way waiting n)).pins ≡ n.pins) × ((begun_from way (having way waiting n)).place ≡ n.place)
taken_stays idle [] n = (refl, refl)
taken_stays idle (word ∷ rest) n = (refl, refl)
taken_stays (sends u) waiting n = (refl, refl)

fresh_shows : (s : Shape) (sdo filler : Bool) (word : ℕ) →
    Shows (terms_of s) sdo (record { filler = filler; word = word; edges = 0; received = 0 })
fresh_shows s sdo filler word = record { shows = λ e. clash (samples s 1) e (samples_odd s 1 refl) }

taken_shows : (s : Shape) (sdo : Bool) (way : Way) (waiting : List ℕ) (n : Engine) → ShowsOn (terms_of s) sdo way →
    ShowsOn (terms_of s) sdo (begun_from way (having way waiting n)).way
taken_shows s sdo idle [] n h = fresh_shows s sdo true 0
taken_shows s sdo idle (word ∷ rest) n h = fresh_shows s sdo false word
taken_shows s sdo (sends u) waiting n h = h

fresh_within : (s : Shape) → Fits s → (filler : Bool) (word : ℕ) →
    Within s (record { filler = filler; word = word; edges = 0; received = 0 })
fresh_within s f filler word =
    let none : 0 / 2 - s.lead ≡ 0 = omega arith in
    record { short = omega (arith, f.some); few = rw none (omega arith) }

taken_within : (s : Shape) → Fits s → (way : Way) (waiting : List ℕ) (n : Engine) → WithinOn s way →
    WithinOn s (begun_from way (having way waiting n)).way
taken_within s f idle [] n h = fresh_within s f true 0
taken_within s f idle (word ∷ rest) n h = fresh_within s f false word
taken_within s f (sends u) waiting n h = h

-- What an edge leaves on SDO for the next one that samples.
clocked_shows : (s : Shape) (sdi : Bool) (way : Way) (n : Engine) → ShowsOn (terms_of s) n.pins.sdo way → n.way ≡ way →
    ShowsOn (terms_of s) (clocked_as s sdi way n).pins.sdo (clocked_as s sdi way n).way
unfolding opened shifted finished
clocked_shows s sdi idle n h is = rw is tt
clocked_shows s sdi (sends u) n h is =
    if_keeps (λ (x : Engine). ShowsOn (terms_of s) x.pins.sdo x.way) (ltb (u.edges + 1) (last_edge s)) _ _
    (λ e.
    let e2 : ℕ = u.edges + 1 + 1 in
    let short : u.edges + 1 < last_edge s = ltb-true (u.edges + 1) (last_edge s) e in
    record {
      shows = λ takes.
          let t = sampling s e2 takes in
          let even : u.edges % 2 ≡ 0 = omega (arith, t.0) in
          let same : u.edges / 2 - s.lead ≡ sampled_in (samples s) (u.edges + 1) = omega (arith, sampled_in_lem s (u.edges + 1)) in
          if_true (eqb (u.edges % 2) 0) _ _ (eq-eqb (u.edges % 2) 0 even)
          ∙ channel_bit_lem s u.word (u.edges / 2) (omega (arith, t.1)) (omega arith)
          ∙ ap (λ (k : ℕ). bit_of u.word (s.bits - 1 - k)) same;
    })
    (λ e. tt)

-- A sample stays short of its last edge, and has received its bits so far.
clocked_within : (s : Shape) → Fits s → (sdi : Bool) (way : Way) (n : Engine) → WithinOn s way → n.way ≡ way →
    WithinOn s (clocked_as s sdi way n).way
unfolding opened shifted finished
clocked_within s f sdi idle n w is = rw is tt
clocked_within s f sdi (sends u) n w is =
    if_keeps (λ (x : Engine). WithinOn s x.way) (ltb (u.edges + 1) (last_edge s)) _ _
    (λ e. record { short = ltb-true (u.edges + 1) (last_edge s) e; few = (received_whole s f sdi u w).few })
    (λ e. tt)

-- What is clocked from an engine on, and the turn of the frame: a whole edge, once a sample may have begun.
pub record Clocked (s : Shape) (sdi : Bool) (n x : Engine) (os : List Op) : Type 0 where
  pub ports : port_of (turned s (clocked s sdi x)) ≡ played_all (terms_of s) os (port_of n)
  pub legal : LegalAll (terms_of s) os (port_of n)
  pub shows : ShowsOn (terms_of s) (turned s (clocked s sdi x)).pins.sdo (turned s (clocked s sdi x)).way
  pub within : WithinOn s (turned s (clocked s sdi x)).way

abbrev pub EdgeStep : Shape → Bool → List Op → Engine → Type 0
EdgeStep s sdi os n = Clocked s sdi n (begun s n) os

module _ (s : Shape) (f : Fits s) (sdi : Bool) where
  clock_step_lem : (n : Engine) → ShowsOn (terms_of s) n.pins.sdo n.way → WithinOn s n.way →
      (port_of (turned s (clocked s sdi n)) ≡ advanced (terms_of s) sdi n.way (port_of n))
      × ShowsOn (terms_of s) (turned s (clocked s sdi n)).pins.sdo (turned s (clocked s sdi n)).way
      × WithinOn s (turned s (clocked s sdi n)).way
  unfolding turned clocked
  clock_step_lem n h w =
      (clocked_port s f sdi n.way n refl w, clocked_shows s sdi n.way n h refl, clocked_within s f sdi n.way n w refl)

  pub edge_step : (n : Engine) (starts : Bool) → starts ≡ at_first_place s n.place →
      ShowsOn (terms_of s) n.pins.sdo n.way → WithinOn s n.way → EdgeStep s sdi (edge_ops starts n.pins.sdo sdi) n
  unfolding begun
  edge_step n starts e h w =
      if_both (Clocked s sdi n) (at_first_place s n.place) starts _ _ _ _ e
      (λ yes'.
      let x : Engine = begun_from n.way n in
      let b : port_of x ≡ played (terms_of s) begins (port_of n) = taken_port s n.way n.waiting n in
      let g : ShowsOn (terms_of s) n.pins.sdo x.way = taken_shows s n.pins.sdo n.way n.waiting n h in
      let k : WithinOn s x.way = taken_within s f n.way n.waiting n w in
      let c = clock_step_lem x (rw (ap (λ p. p.sdo) (taken_stays n.way n.waiting n).0) g) k in
      record {
        ports = c.0 ∙ ap (λ (p : Port). advanced (terms_of s) sdi p.way p) b;
        legal = (tt, (subst (λ (p : Port). ShowsOn (terms_of s) n.pins.sdo p.way) b g, tt));
        shows = c.1;
        within = c.2;
      })
      (λ no'. let c = clock_step_lem n h w in record { ports = c.0; legal = (h, tt); shows = c.1; within = c.2 })

-- What an edge before the turn leaves where it was: the place, SCK and LRCK.
pub clocked_place : (s : Shape) (sdi : Bool) (n : Engine) →
    ((clocked s sdi (begun s n)).place ≡ n.place) × ((clocked s sdi (begun s n)).pins.sck ≡ n.pins.sck)
unfolding clocked begun opened shifted finished
clocked_place s sdi n =
    let b : ((begun s n).place ≡ n.place) × ((begun s n).pins.sck ≡ n.pins.sck) =
    if_keeps (λ (x : Engine). (x.place ≡ n.place) × (x.pins.sck ≡ n.pins.sck)) (at_first_place s n.place) _ _
    (λ e. let t = taken_stays n.way n.waiting n in (t.1, ap (λ p. p.sck) t.0))
    (λ e. (refl, refl)) in
    let k = step (begun s n) (begun s n).way in
    (k.0 ∙ b.0, k.1 ∙ b.1)
  where
    step : (x : Engine) (way : Way) → ((clocked_as s sdi way x).place ≡ x.place) × ((clocked_as s sdi way x).pins.sck ≡ x.pins.sck)
    step x idle = (refl, refl)
    step x (sends u) =
        if_keeps (λ (y : Engine). (y.place ≡ x.place) × (y.pins.sck ≡ x.pins.sck)) (ltb (u.edges + 1) (last_edge s)) _ _
        (λ e. (refl, refl))
        (λ e.
        if_keeps (λ (y : Engine). (y.place ≡ x.place) × (y.pins.sck ≡ x.pins.sck)) (is_full x.unread) _ _ (λ g. (refl, refl)) (λ g. (refl, refl)))

pub edged_place : (s : Shape) (sdi : Bool) (n : Engine) → (edged s sdi n).place ≡ next (2 * s.frame) n.place
unfolding turned
edged_place s sdi n = ap (next (2 * s.frame)) (clocked_place s sdi n).0
