-- What an edge that is heard does to the ledger: something begins, if it may, and the word on the wire is given the edge.
--     heard_ops     those two operations
--     Noted        the word on the wire and the words accepted and sent after them
--     edge_noted   after every such edge
-- Assumes nothing.
use Rattle.std.specs.Prelude.{◌+◌, ◌<◌, ◌≤◌, ◌&&◌, ◌||◌, ◌∷◌, ◌++◌, ◌≡◌}
use Rattle.laws.proofs.Common.{Bool, true, false, not, List, [], refl, sym, ap}
use Rattle.laws.proofs.Common.{subst, ◌∙◌, arith, lt-ltb, ltb-true, ltb-false, eq-eqb, ne_eqb, eqb, ltb, when◌then◌else◌}
use Rattle.laws.proofs.Common.{if_keeps, if_true, if_false, clash}
use Rattle.word_order.specs.Ledger.{Terms, Op, begins, clocks, OnWire, Wire, quiet, busy, is_quiet, edges_given, carries_filler, Ledger, with_wire, left_to_send, fresh, first_on_wire, counted, closed, given, noted_all}

abbrev pub heard_ops : Bool → Bool → Bool → List Op
heard_ops may sdo sdi = (when may then begins ∷ [] else []) ++ (clocks sdo sdi ∷ [])

-- The ledger `k` after such an edge of the ledger `l`.
pub record Noted (t : Terms) (may : Bool) (l k : Ledger) : Type 0 where
  pub ends : is_quiet l.wire ≡ false → is_quiet k.wire ≡ eqb (edges_given l.wire + 1) t.last
  pub goes : is_quiet l.wire ≡ false →
      edges_given k.wire ≡ (when eqb (edges_given l.wire + 1) t.last then 0 else edges_given l.wire + 1)
  pub begins : is_quiet l.wire ≡ true → is_quiet k.wire ≡ not (may && (left_to_send l || not t.silent))
  pub first : is_quiet l.wire ≡ true → is_quiet k.wire ≡ false →
      (edges_given k.wire ≡ 1) × (carries_filler k.wire ≡ not (left_to_send l))
  pub accepted : k.accepted ≡ l.accepted
  pub departures : (not (is_quiet l.wire) && is_quiet k.wire) ≡ false → k.departures ≡ l.departures

-- One more edge is counted, and a filler stays one.
counted_more : (t : Terms) (sdo sdi : Bool) (w : OnWire) →
    ((counted t sdo sdi w).edges ≡ w.edges + 1) × ((counted t sdo sdi w).filler ≡ w.filler)
unfolding counted
counted_more t sdo sdi w =
    if_keeps (λ (o : OnWire). (o.edges ≡ w.edges + 1) × (o.filler ≡ w.filler)) (t.samples (w.edges + 1)) _ _
    (λ e. (refl, refl))
    (λ e. (refl, refl))

module _ (t : Terms) (may sdo sdi : Bool) (l : Ledger) where
  -- A word under way.
  busy_noted : (w : OnWire) → w.edges < t.last →
      Noted t may (with_wire (busy w) l) (given t sdo sdi (busy w) (with_wire (busy w) l))
  unfolding given closed
  busy_noted w short =
      if_keeps (Noted t may (with_wire (busy w) l)) (ltb (w.edges + 1) t.last) _ _
      (λ more.
      let on : eqb (w.edges + 1) t.last ≡ false =
      ne_eqb (w.edges + 1) t.last (λ e. omega (arith, e, ltb-true (w.edges + 1) t.last more)) in
      record {
        ends = λ b. sym on;
        goes = λ b. (counted_more t sdo sdi w).0 ∙ sym (if_false (eqb (w.edges + 1) t.last) _ _ on);
        begins = λ b. clash false b refl;
        first = λ b. clash false b refl;
        accepted = refl;
        departures = λ b. refl;
      })
      (λ last.
      let off : eqb (w.edges + 1) t.last ≡ true =
      eq-eqb (w.edges + 1) t.last (omega (arith, short, ltb-false (w.edges + 1) t.last last)) in
      record {
        ends = λ b. sym off;
        goes = λ b. sym (if_true (eqb (w.edges + 1) t.last) _ _ off);
        begins = λ b. clash false b refl;
        first = λ b. clash false b refl;
        accepted = refl;
        departures = λ b. clash true refl b;
      })

  -- Nothing under way, and whether there is something to begin.
  abbrev still : Ledger
  still = with_wire quiet l

  abbrev some : Bool
  some = left_to_send still || not t.silent

  -- Nothing begins.
  none-noted : (may && some) ≡ false → Noted t may still still
  none-noted none =
      record {
        ends = λ b. clash true refl b;
        goes = λ b. clash true refl b;
        begins = λ b. sym (ap not none);
        first = λ b busy. clash true refl busy;
        accepted = refl;
        departures = λ b. refl;
      }

  -- A word or a filler begins.
  fresh-noted : (filler : Bool) → 2 ≤ t.last → filler ≡ not (left_to_send still) →
      (may && some) ≡ true →
      Noted t may still (given t sdo sdi (busy (fresh filler)) (with_wire (busy (fresh filler)) still))
  unfolding given
  fresh-noted filler long which starts =
      let more = counted_more t sdo sdi (fresh filler) in
      subst (Noted t may still) (sym (if_true (ltb (0 + 1) t.last) _ _ (lt-ltb (0 + 1) t.last (omega (arith, long)))))
      (record {
        ends = λ b. clash true refl b;
        goes = λ b. clash true refl b;
        begins = λ b. sym (ap not starts);
        first = λ b busy. (more.0, more.1 ∙ which);
        accepted = refl;
        departures = λ b. refl;
      })

  begun-noted : 2 ≤ t.last → may ≡ true → Noted t may still (noted_all t (begins ∷ clocks sdo sdi ∷ []) still)
  unfolding first_on_wire given
  begun-noted long can =
      let after : Wire → Ledger = λ w. given t sdo sdi w (with_wire w still) in
      let alone : (may && some) ≡ some = ap (λ (b : Bool). b && some) can in
      if_keeps (λ (w : Wire). Noted t may still (after w)) (left_to_send still) _ _
      (λ left. fresh-noted false long (sym (ap not left)) (alone ∙ ap (λ (b : Bool). b || not t.silent) left))
      (λ none.
      let fills : (may && some) ≡ not t.silent = alone ∙ ap (λ (b : Bool). b || not t.silent) none in
      if_keeps (λ (w : Wire). Noted t may still (after w)) t.silent _ _
      (λ silent. none-noted (fills ∙ ap not silent))
      (λ speaks. fresh-noted true long (sym (ap not none)) (fills ∙ ap not speaks)))

  -- Whatever is under way.
  wire-noted : 2 ≤ t.last → (w : Wire) → edges_given w < t.last →
      Noted t may (with_wire w l) (noted_all t (heard_ops may sdo sdi) (with_wire w l))
  unfolding given
  wire-noted long quiet short =
      if_keeps (λ (os : List Op). Noted t may still (noted_all t (os ++ (clocks sdo sdi ∷ [])) still)) may _ _
      (λ can. begun-noted long can)
      (λ cannot. none-noted (ap (λ (b : Bool). b && some) cannot))
  wire-noted long (busy w) short =
      if_keeps (λ (os : List Op). Noted t may (with_wire (busy w) l) (noted_all t (os ++ (clocks sdo sdi ∷ [])) (with_wire (busy w) l))) may _ _
      (λ can. busy_noted w short)
      (λ cannot. busy_noted w short)

  pub edge_noted : 2 ≤ t.last → edges_given l.wire < t.last → Noted t may l (noted_all t (heard_ops may sdo sdi) l)
  edge_noted long short = wire-noted long l.wire short
