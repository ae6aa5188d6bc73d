-- What departs at one end while no word is accepted there.
--     Departs          the words owed in their order, then fillers of zeros; a silent port sends none
--     turn_departs     an edge, before which a word may begin, keeps it so
-- Assumes nothing.
use Rattle.std.specs.Prelude.{◌+◌, ◌≤◌, ◌<◌, ◌∷◌, ◌++◌, ◌≡◌}
use Rattle.laws.proofs.Common.{ℕ, suc, zero-le, Bool, true, false, not, List, [], refl, sym}
use Rattle.laws.proofs.Common.{ap, subst, ◌∙◌, arith, ltb-true, ltb-false, not-false, not-true, ltb, length, when◌then◌else◌}
use Rattle.laws.proofs.Common.{if_keeps, clash}
use Rattle.word_order.specs.Bits.{spelled, top_bits, sampled_in}
use Rattle.word_order.specs.Ledger.{Terms, begins, clocks, OnWire, Wire, quiet, busy, Passed, Ledger, unmarked, sent, left_to_send, first_on_wire, counted, closed, given, begun_on, noted, noted_all}
use Rattle.word_order.specs.Port.{Way, idle, sends, Port, progressed, ShowsOn, LegalAll, Whole}
use Rattle.word_order.proofs.WordBits.{spelled_top_bits}
use Rattle.word_order.proofs.Counts.{same_words}
use Rattle.word_order.proofs.Tied.{Carries, Tied, unmarked_last}
use Rattle.word_order.proofs.Operations.{counted_word, tied_op}
use Rattle.word_wire.specs.Wire.{departing, turn_ops}
use Rattle.word_wire.proofs.Lists.{departing_short, departing_next, departing_filler}

-- The wire carries a filler exactly if no word is left to send, and a silent port sends none.
abbrev pub Fills : Terms → Bool → Wire → Type 0
Fills t left quiet = Unit {0}
Fills t left (busy w) = (w.filler ≡ not left) × (t.silent ≡ true → w.filler ≡ false)

pub record Departs (t : Terms) (l : Ledger) : Type 0 where
  pub gone : l.departures ≡ departing (length l.departures) l.accepted
  pub fills : Fills t (left_to_send l) l.wire
  pub real : t.silent ≡ true → length l.departures ≤ length l.accepted

-- Nothing has departed yet.
pub none_departs : (t : Terms) (l : Ledger) → l.departures ≡ [] → l.wire ≡ quiet → Departs t l
none_departs t l none calm =
    record {
      gone = none ∙ sym (ap (λ (q : List Passed). departing (length q) l.accepted) none);
      fills = subst (Fills t (left_to_send l)) (sym calm) tt;
      real = λ q. subst (λ (d : List Passed). length d ≤ length l.accepted) (sym none) zero-le;
    }

-- A word or filler that begins is so too.
begun_fills : (t : Terms) (l : Ledger) (a : Wire) → Fills t (left_to_send l) a → Fills t (left_to_send l) (begun_on t l a)
unfolding first_on_wire
begun_fills t l (busy w) f = f
begun_fills t l quiet f =
    if_keeps (Fills t (left_to_send l)) (left_to_send l) _ _
    (λ left. (sym (ap not left), λ q. refl))
    (λ none.
    if_keeps (Fills t (left_to_send l)) t.silent _ _ (λ q. tt) (λ q. (sym (ap not none), λ r. clash t.silent r q)))

begins_departs : (t : Terms) (l : Ledger) → Departs t l → Departs t (noted t begins l)
unfolding left_to_send
begins_departs t l h = record { gone = h.gone; fills = begun_fills t l l.wire h.fills; real = h.real }

-- One departure more.
longer : {A : Type 0} (l : List A) (a : A) → length (l ++ (a ∷ [])) ≡ suc (length l)
longer [] a = refl
longer (x ∷ l) a = ap suc (longer l a)

module _ (l : Ledger) (v : ℕ) (rest : List ℕ) (gone : l.departures ≡ departing (length l.departures) l.accepted) where
  abbrev more : Bool → List Passed
  more filler = l.departures ++ (record { word = v; marked = filler } ∷ [])

  abbrev n : ℕ
  n = length l.departures

  one-gone : (filler : Bool) → filler ≡ not (left_to_send l) → (filler ≡ true → v ≡ 0) → l.accepted ≡ unmarked (more filler) ++ rest →
      (more filler ≡ departing (length (more filler)) l.accepted)
      × (filler ≡ false → length (more filler) ≤ length l.accepted)
  unfolding left_to_send when◌then◌else◌
  one-gone true fills zeros order =
      let none : length l.accepted ≤ length (sent l) = ltb-false (length (sent l)) (length l.accepted) (not-true _ (sym fills)) in
      let same : length (sent l) ≡ length (unmarked (departing n l.accepted)) =
      ap (λ (q : List Passed). length (unmarked q)) gone in (
        cc (
          zeros refl,
          departing_filler n l.accepted (omega (arith, same, none)),
          longer l.departures
              (record { word = v; marked = true }),
        ),
        λ e. clash true refl e,
      )
  one-gone false fills zeros order =
      let some : length (sent l) < length l.accepted = ltb-true (length (sent l)) (length l.accepted) (not-false _ (sym fills)) in
      let same : length (sent l) ≡ length (unmarked (departing n l.accepted)) =
      ap (λ (q : List Passed). length (unmarked q)) gone in
      let short : n < length l.accepted = departing_short n l.accepted (omega (arith, same, some)) in
      let long : length (more false) ≡ suc n = longer l.departures (record { word = v; marked = false }) in
      let ordered : l.accepted ≡ (unmarked (departing n l.accepted) ++ (v ∷ [])) ++ rest =
      cc (unmarked_last l.departures (record { word = v; marked = false })) in (
        cc (departing_next n l.accepted rest v short ordered),
        λ e. omega (arith, long, short),
      )

filler_kept : (t : Terms) (sdo sdi : Bool) (w : OnWire) → (counted t sdo sdi w).filler ≡ w.filler
unfolding counted
filler_kept t sdo sdi w =
    if_keeps (λ (v : OnWire). v.filler ≡ w.filler) (t.samples (w.edges + 1)) _ _ (λ e. refl) (λ e. refl)

-- A filler at its last edge has shown zeros only.
abbrev EndsZero : Terms → Bool → Bool → Wire → Type 0
EndsZero t sdo sdi quiet = Unit {0}
EndsZero t sdo sdi (busy w) =
    ltb (w.edges + 1) t.last ≡ false → w.filler ≡ true → spelled 0 (counted t sdo sdi w).shown ≡ 0

ends_zero : (t : Terms) → Whole t → (owed : List ℕ) (way : Way) (wire : Wire) (sdo sdi : Bool) → Carries t owed way wire →
    ShowsOn t sdo way → EndsZero t sdo sdi wire
unfolding progressed
ends_zero t whole owed idle quiet sdo sdi c s = tt
ends_zero t whole owed idle (busy w) sdo sdi c s = absurd c
ends_zero t whole owed (sends u) quiet sdo sdi c s = absurd c
ends_zero t whole owed (sends u) (busy w) sdo sdi c s = λ ends filler.
    let out : t.last ≤ w.edges + 1 = ltb-false (w.edges + 1) t.last ends in
    let last : u.edges + 1 ≡ t.last = omega (arith, c.short, c.edges, out) in
    ap (spelled 0) (counted_word t owed u w sdo sdi c s).shown
    ∙ ap (λ (k : ℕ). spelled 0 (top_bits t.width k u.word)) (ap (sampled_in t.samples) last ∙ whole.all)
    ∙ spelled_top_bits t.width u.word c.fits
    ∙ c.zeros (sym c.filler ∙ filler)

-- What is on the wire is given an edge.
given_departs : (t : Terms) (sdo sdi : Bool) (wire : Wire) (l : Ledger) (rest : List ℕ) → Fills t (left_to_send l) wire → Departs t l →
    EndsZero t sdo sdi wire → (given t sdo sdi wire l).accepted ≡ sent (given t sdo sdi wire l) ++ rest →
    Departs t (given t sdo sdi wire l)
unfolding given closed left_to_send
given_departs t sdo sdi quiet l rest f h zeros = λ order. h
given_departs t sdo sdi (busy w) l rest f h zeros =
    let same : (counted t sdo sdi w).filler ≡ w.filler = filler_kept t sdo sdi w in
    if_keeps (λ (k : Ledger). k.accepted ≡ sent k ++ rest → Departs t k) (ltb (w.edges + 1) t.last) _ _
    (λ short order. record { gone = h.gone; fills = (same ∙ f.0, λ q. same ∙ f.1 q); real = h.real })
    (λ ends order.
    let more =
    one-gone l (spelled 0 (counted t sdo sdi w).shown) rest h.gone (counted t sdo sdi w).filler (same ∙ f.0)
    (λ e. zeros ends (sym same ∙ e)) order in
    record { gone = more.0; fills = tt; real = λ q. more.1 (same ∙ f.1 q) })

clocks_departs : (t : Terms) → Whole t → (p : Port) (l : Ledger) (sdo sdi : Bool) → Tied t p l → ShowsOn t sdo p.way →
    Departs t l → Departs t (noted t (clocks sdo sdi) l)
clocks_departs t whole p l sdo sdi tied shows h =
    given_departs t sdo sdi l.wire l _ h.fills h
    (ends_zero t whole p.owed p.way l.wire sdo sdi tied.carries shows)
    (tied_op t whole (clocks sdo sdi) p l tied shows).sending

-- An edge, before which a word may begin.
pub turn_departs : (t : Terms) → Whole t → (p : Port) (l : Ledger) (may sdo sdi : Bool) → Tied t p l →
    LegalAll t (turn_ops may sdo sdi) p → Departs t l → Departs t (noted_all t (turn_ops may sdo sdi) l)
unfolding when◌then◌else◌
turn_departs t whole p l true sdo sdi tied legal h =
    clocks_departs t whole _ (noted t begins l) sdo sdi (tied_op t whole begins p l tied tt) legal.1.0 (begins_departs t l h)
turn_departs t whole p l false sdo sdi tied legal h = clocks_departs t whole p l sdo sdi tied legal.0 h

-- An edge accepts no word.
pub turn_accepts : (t : Terms) (may sdo sdi : Bool) (l : Ledger) → (noted_all t (turn_ops may sdo sdi) l).accepted ≡ l.accepted
unfolding when◌then◌else◌
turn_accepts t true sdo sdi l = (same_words t sdo sdi (noted t begins l) _).0
turn_accepts t false sdo sdi l = (same_words t sdo sdi l _).0
