-- One wire from one end to the other: what departs at the one arrives at the other. Two ends on two wires are this twice.
--     Faces           terms of two ends that can be joined, and the room that the receiving one has
--     Arrives         the words on the wire at both ends, and those that passed it
--     turn_arrives    both ends are given an edge, before which both may begin a word
-- Assumes nothing.
use Rattle.std.specs.Prelude.{◌+◌, ◌||◌, ◌∷◌, ◌++◌, ◌≡◌}
use Rattle.laws.proofs.Common.{ℕ, Bool, true, false, not, List, [], append_assoc, refl, sym, ap}
use Rattle.laws.proofs.Common.{ap₂, subst₂, ◌∙◌, ltb, leb, length, length-append, when◌then◌else◌, if_both, clash}
use Rattle.word_order.specs.Bits.{spelled}
use Rattle.word_order.specs.Ledger.{words_of, Policy, drops_new, Terms, begins, OnWire, Wire, quiet, busy, Passed, Ledger, left_to_send, ends, loses, landed, fresh, first_on_wire, counted, closed, given, begun_on, noted, noted_all}
use Rattle.word_wire.specs.Wire.{arriving, turn_ops}
use Rattle.word_wire.proofs.Lists.{words_last, arriving_last, Room, loses_is}

-- The two ends give a word the same edges and sample it at the same ones, and the receiving one loses the new word if it has no room.
pub record Faces (t u : Terms) (before : List Passed) (room : ℕ) : Type 0 where
  pub last : t.last ≡ u.last
  pub alike : (edge : ℕ) → t.samples edge ≡ u.samples edge
  pub drops : u.policy ≡ drops_new (ends u.policy)
  pub fits : Room u before room

-- The word on the wire at both ends: none, or at the same edge, and one end has seen what the other has shown.
abbrev pub Hears : Wire → Wire → Type 0
Hears quiet quiet = Unit {0}
Hears quiet (busy w) = ⊥
Hears (busy v) quiet = ⊥
Hears (busy v) (busy w) = (v.edges ≡ w.edges) × (v.shown ≡ w.seen)

-- The words that passed: what arrived at the one end is what departed at the other, kept as far as there was room. Nothing was read,
-- and as many departed at both.
pub record Arrives (before : List Passed) (room : ℕ) (from at : Ledger) : Type 0 where
  pub wire : Hears from.wire at.wire
  pub words : at.arrivals ≡ before ++ arriving room (words_of from.departures)
  pub unread : at.read ≡ []
  pub equally : length from.departures ≡ length at.departures

-- The next edge of what is on the wire is one that samples.
abbrev pub next_samples : Terms → Wire → Bool
next_samples t quiet = false
next_samples t (busy w) = t.samples (w.edges + 1)

-- A port that begins something: it has a word left to send, or sends a filler.
abbrev pub Starts : Terms → Ledger → Type 0
Starts t l = (left_to_send l || not t.silent) ≡ true

starts_busy : (t : Terms) (l : Ledger) → Starts t l → first_on_wire t l ≡ busy (fresh (not (left_to_send l)))
unfolding first_on_wire when◌then◌else◌
starts_busy t l = go (left_to_send l) t.silent
  where
    go : (left silent : Bool) → (left || not silent) ≡ true →
        (when left then busy (fresh false) else when silent then quiet else busy (fresh true)) ≡ busy (fresh (not left))
    go true silent e = refl
    go false true e = clash false e refl
    go false false e = refl

-- One word more.
passes_on : (before : List Passed) (room : ℕ) (arrivals departures : List Passed) (seen shown : ℕ) (lost filler : Bool) →
    arrivals ≡ before ++ arriving room (words_of departures) → lost ≡ leb room (length (words_of departures)) → seen ≡ shown →
    arrivals ++ (record { word = seen; marked = lost } ∷ [])
    ≡ before ++ arriving room (words_of (departures ++ (record { word = shown; marked = filler } ∷ [])))
passes_on before room arrivals departures seen shown lost filler e drop same =
    cc (
      append_assoc before (arriving room (words_of departures)) (record { word = shown; marked = lost } ∷ []),
      words_last departures (record { word = shown; marked = filler }),
      arriving_last room (words_of departures) shown lost drop,
    )

module _ (t u : Terms) (before : List Passed) (room : ℕ) (faces : Faces t u before room) where
  -- Both ends begin a word or a filler.
  begun_hears : (a b : Wire) (l k : Ledger) → Hears a b → Starts t l → Starts u k → Hears (begun_on t l a) (begun_on u k b)
  begun_hears quiet quiet l k h e f = subst₂ Hears (sym (starts_busy t l e)) (sym (starts_busy u k f)) (refl, refl)
  begun_hears quiet (busy w) l k h e f = absurd h
  begun_hears (busy v) quiet l k h e f = absurd h
  begun_hears (busy v) (busy w) l k h e f = h

  begins-arrive : (l k : Ledger) → Starts t l → Starts u k → Arrives before room l k →
      Arrives before room (noted t begins l) (noted u begins k)
  begins-arrive l k e f h =
      record {
        wire = begun_hears l.wire k.wire l k h.wire e f;
        words = h.words;
        unread = h.unread;
        equally = h.equally;
      }

  module _ (sdo sdi sdo' sdi' : Bool) where
    -- An edge of the words that face each other.
    counted-hears : (v w : OnWire) → Hears (busy v) (busy w) → (t.samples (v.edges + 1) ≡ true → sdo ≡ sdi') →
        Hears (busy (counted t sdo sdi v)) (busy (counted u sdo' sdi' w))
    unfolding counted
    counted-hears v w h same =
        if_both (λ (a b : OnWire). Hears (busy a) (busy b)) (t.samples (v.edges + 1)) (u.samples (w.edges + 1)) _ _ _ _
        (ap (λ (e : ℕ). u.samples (e + 1)) (sym h.0) ∙ sym (faces.alike (v.edges + 1)))
        (λ e. (ap (λ (n : ℕ). n + 1) h.0, ap₂ (λ (q : List Bool) (b : Bool). q ++ (b ∷ [])) h.1 (same e)))
        (λ e. (ap (λ (n : ℕ). n + 1) h.0, h.1))

    given-arrives : (a b : Wire) (l k : Ledger) → Hears a b → Arrives before room l k → (next_samples t a ≡ true → sdo ≡ sdi') →
        Arrives before room (given t sdo sdi a l) (given u sdo' sdi' b k)
    unfolding given closed
    given-arrives quiet quiet l k h r same = r
    given-arrives quiet (busy w) l k h r same = absurd h
    given-arrives (busy v) quiet l k h r same = absurd h
    given-arrives (busy v) (busy w) l k h r same =
        let later : Hears (busy (counted t sdo sdi v)) (busy (counted u sdo' sdi' w)) = counted-hears v w h same in
        if_both (Arrives before room) (ltb (v.edges + 1) t.last) (ltb (w.edges + 1) u.last) _ _ _ _
        (ap₂ (λ (e n : ℕ). ltb (e + 1) n) (sym h.0) (sym faces.last))
        (λ short. record { wire = later; words = r.words; unread = r.unread; equally = r.equally })
        (λ ends.
        record {
          wire = tt;
          words =
              ap (λ (y : Policy). landed y (loses u k) (spelled 0 (counted u sdo' sdi' w).seen) k) faces.drops
              ∙ passes_on before room k.arrivals l.departures _ _ _ _ r.words
              (loses_is u k before room (words_of l.departures) faces.fits r.unread r.words)
              (ap (spelled 0) (sym later.1));
          unread = r.unread;
          equally =
              length-append l.departures _ ∙ ap (λ (n : ℕ). n + 1) r.equally ∙ sym (length-append k.departures _);
        })

    -- Both ends are given an edge, before which both may begin a word: where it samples, the one end's SDO is the other's SDI.
    pub turn_arrives : (may : Bool) (l k : Ledger) → (may ≡ true → Starts t l × Starts u k) →
        (next_samples t (when may then begun_on t l l.wire else l.wire) ≡ true → sdo ≡ sdi') → Arrives before room l k →
        Arrives before room (noted_all t (turn_ops may sdo sdi) l) (noted_all u (turn_ops may sdo' sdi') k)
    unfolding when◌then◌else◌
    turn_arrives true l k starts same r =
        let both = begins-arrive l k (starts refl).0 (starts refl).1 r in
        given-arrives _ _ (noted t begins l) (noted u begins k) both.wire both same
    turn_arrives false l k starts same r = given-arrives l.wire k.wire l k r.wire r same
