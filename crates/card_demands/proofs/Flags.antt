-- What an edge does to the flags and to the samples waiting.
--     edge_flags       the underrun flag is set where a sample is taken and none waits; the first one waiting leaves there
--     edged_overflow   the overflow flag is set where a received sample is lost
-- Assumes nothing.
use Rattle.std.specs.Prelude.{◌+◌, ◌&&◌, ◌||◌, ◌∷◌, ◌≡◌}
use Rattle.laws.proofs.Common.{ℕ, Bool, true, false, not, or-false, or-true, List, [], refl, sym}
use Rattle.laws.proofs.Common.{ap, ◌∙◌, arith, ne_eqb, ltb, leb, eqb, length, drop, when◌then◌else◌, if_keeps, if_both}
use mir.Val.{bool_byte}
use Rattle.word_order.specs.Ledger.{Op}
use Rattle.word_order.specs.Port.{Way, idle, sends, loses_at, ends_at, losses_in}
use Rattle.card_rules.specs.Settings.{Shape}
use Rattle.card_rules.specs.Card.{Engine}
use Rattle.card_rules.specs.Edge.{at_first_place, taken, begun_from, begun, last_edge, received_after, shifted, is_full, finished, opened, clocked_as, clocked, turned, edged}
use Rattle.card_rules.specs.Watch.{port_of, edge_ops}
use Rattle.card_order.specs.Invariant.{terms_of}
use Rattle.card_order.proofs.EdgeWords.{having, taken_port}

-- A finish and its flag.
finished_flags : (received : ℕ) (n : Engine) →
    ((finished received n).flags.underrun ≡ n.flags.underrun)
    × ((finished received n).waiting ≡ n.waiting)
    × ((finished received n).flags.overflow ≡ (n.flags.overflow || leb 8 (length n.unread)))
unfolding finished is_full
finished_flags received n =
    if_keeps
    (λ (x : Engine).
    (x.flags.underrun ≡ n.flags.underrun)
    × (x.waiting ≡ n.waiting)
    × (x.flags.overflow ≡ (n.flags.overflow || leb 8 (length n.unread))))
    (leb 8 (length n.unread)) _ _
    (λ e. (refl, refl, rw e (sym (or-true n.flags.overflow))))
    (λ e. (refl, refl, rw e (sym (or-false n.flags.overflow))))

-- The edge of what is under way leaves the underrun flag and the samples waiting.
clocked_stays : (s : Shape) (sdi : Bool) (way : Way) (n : Engine) →
    ((clocked_as s sdi way n).flags.underrun ≡ n.flags.underrun) × ((clocked_as s sdi way n).waiting ≡ n.waiting)
unfolding opened shifted
clocked_stays s sdi idle n = (refl, refl)
clocked_stays s sdi (sends u) n =
    if_keeps (λ (x : Engine). (x.flags.underrun ≡ n.flags.underrun) × (x.waiting ≡ n.waiting)) (ltb (u.edges + 1) (last_edge s)) _ _
    (λ e. (refl, refl))
    (λ e. let f = finished_flags (received_after s sdi u) n in (f.0, f.1))

clocked_overflow : (s : Shape) (sdi : Bool) (way : Way) (n : Engine) →
    (clocked_as s sdi way n).flags.overflow ≡ (n.flags.overflow || (ends_at (terms_of s) way && loses_at (terms_of s) (port_of n)))
unfolding opened shifted loses_at
clocked_overflow s sdi idle n = sym (or-false n.flags.overflow)
clocked_overflow s sdi (sends u) n =
    let lost : Bool = loses_at (terms_of s) (port_of n) in
    if_keeps (λ (x : Engine). x.flags.overflow ≡ (n.flags.overflow || (not (ltb (u.edges + 1) (last_edge s)) && lost)))
    (ltb (u.edges + 1) (last_edge s)) _ _
    (λ e. rw e (sym (or-false n.flags.overflow)))
    (λ e. rw (e, or-false) (finished_flags (received_after s sdi u) n).2)

-- A sample is taken.
taken_flags : (waiting : List ℕ) (n : Engine) →
    ((taken waiting n).flags.underrun ≡ (n.flags.underrun || eqb (length waiting) 0))
    × ((taken waiting n).flags.overflow ≡ n.flags.overflow)
taken_flags [] n = (sym (or-true n.flags.underrun), refl)
taken_flags (sample ∷ rest) n =
    (rw (ne_eqb (length (sample ∷ rest)) 0 (λ e. omega arith)) (sym (or-false n.flags.underrun)), refl)

taken_waiting : (waiting : List ℕ) (n : Engine) → n.waiting ≡ waiting → (taken waiting n).waiting ≡ drop 1 waiting
taken_waiting [] n e = e
taken_waiting (sample ∷ rest) n e = refl

begun_overflow : (way : Way) (waiting : List ℕ) (n : Engine) →
    (begun_from way (having way waiting n)).flags.overflow ≡ n.flags.overflow
begun_overflow idle [] n = refl
begun_overflow idle (sample ∷ rest) n = refl
begun_overflow (sends u) waiting n = refl

-- A whole edge, nothing being under way at a first place.
pub record EdgeFlags (s : Shape) (sdi : Bool) (n : Engine) : Type 0 where
  pub underrun : (edged s sdi n).flags.underrun
      ≡ (n.flags.underrun || (at_first_place s n.place && eqb (length n.waiting) 0))
  pub waiting : (edged s sdi n).waiting ≡ (when at_first_place s n.place then drop 1 n.waiting else n.waiting)

pub edge_flags : (s : Shape) (sdi : Bool) (n : Engine) → (at_first_place s n.place ≡ true → n.way ≡ idle) → EdgeFlags s sdi n
unfolding turned clocked begun when◌then◌else◌
edge_flags s sdi n rests =
    let first : Bool = at_first_place s n.place in
    let r : ((edged s sdi n).flags.underrun ≡ (n.flags.underrun || (first && eqb (length n.waiting) 0)))
    × ((edged s sdi n).waiting ≡ (when first then drop 1 n.waiting else n.waiting)) =
    if_keeps
    (λ (x : Engine).
    ((clocked_as s sdi x.way x).flags.underrun ≡ (n.flags.underrun || (first && eqb (length n.waiting) 0)))
    × ((clocked_as s sdi x.way x).waiting ≡ (when first then drop 1 n.waiting else n.waiting)))
    first _ _
    (λ e.
    let x : Engine = begun_from n.way n in
    let is : x ≡ taken n.waiting n = ap (λ (w : Way). begun_from w n) (rests e) in
    let c = clocked_stays s sdi x.way x in (
      c.0 ∙ rw e ((λ i. (is i).flags.underrun) ∙ (taken_flags n.waiting n).0),
      c.1 ∙ rw e ((λ i. (is i).waiting) ∙ taken_waiting n.waiting n refl),
    ))
    (λ e.
    let c = clocked_stays s sdi n.way n in (
      c.0 ∙ rw e (sym (or-false n.flags.underrun)),
      c.1 ∙ rw e refl,
    )) in
    record { underrun = r.0; waiting = r.1 }

-- The overflow flag, by the losses of the edge's operations.
some_bit : (b : Bool) → ltb 0 (bool_byte b + 0) ≡ b
some_bit true = refl
some_bit false = refl

some_bit_later : (b : Bool) → ltb 0 (0 + (bool_byte b + 0)) ≡ b
some_bit_later true = refl
some_bit_later false = refl

pub edged_overflow : (s : Shape) (sdi : Bool) (n : Engine) (first : Bool) → first ≡ at_first_place s n.place →
    (edged s sdi n).flags.overflow
    ≡ (n.flags.overflow || ltb 0 (losses_in (terms_of s) (edge_ops first n.pins.sdo sdi) (port_of n)))
unfolding turned clocked begun
edged_overflow s sdi n first e =
    if_both
    (λ (x : Engine) (os : List Op).
    (clocked_as s sdi x.way x).flags.overflow ≡ (n.flags.overflow || ltb 0 (losses_in (terms_of s) os (port_of n))))
    (at_first_place s n.place) first _ _ _ _ e
    (λ yes'.
    let x : Engine = begun_from n.way n in
    let port : port_of x ≡ _ = taken_port s n.way n.waiting n in
    rw some_bit_later
    (clocked_overflow s sdi x.way x
    ∙ (λ i. begun_overflow n.way n.waiting n i || (ends_at (terms_of s) (port i).way && loses_at (terms_of s) (port i)))))
    (λ no'. rw some_bit (clocked_overflow s sdi n.way n))
