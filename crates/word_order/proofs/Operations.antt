-- Each legal operation keeps a port and its ledger tied.
--     counted_word    the word on the wire after an edge
--     finish_tied     the finish, whichever word is lost
--     lost-grows      one word more is lost exactly if the port says so
--     tied_op         one legal operation
--     tied_ops        a list of them
-- Assumes nothing.
use Rattle.std.specs.Prelude.{◌+◌, ◌*◌, ◌^◌, ◌≤◌, ◌<◌, ◌&&◌, ◌||◌, ◌∷◌, ◌++◌, ◌≡◌}
use Rattle.laws.proofs.Common.{ℕ, Bool, true, false, or-false, List, []}
use Rattle.laws.proofs.Common.{append_assoc, append-nil, refl, sym, ap, ap₂, ◌∙◌, arith, ltb-true, ltb-false, leb-true}
use Rattle.laws.proofs.Common.{lt-ltb, le-ltb, ltb, leb, length, drop, when◌then◌else◌, if_keeps, if_both}
use mir.Val.{bool_byte}
use Rattle.word_order.specs.Bits.{top_bits, spelled, sampled_in}
use Rattle.word_order.specs.Ledger.{Policy, drops_new, replaces_old, Terms, Op, accepts, reads, begins, clocks, forgets, OnWire, Wire, quiet, busy, Ledger, unmarked, sent, kept, marked_in, lost_of, ends, loses, spoiled, landed, counted, closed, given, noted, noted_all}
use Rattle.word_order.specs.Port.{Under, Way, idle, sends, Port, loses_at, landed_in, received_after, progressed, finished, advanced, played, played_all, Shows, ShowsOn, Legal, LegalAll, Whole}
use Rattle.word_order.proofs.WordBits.{spelled_last, spelled_top_bits, sampled_more, sampled_same}
use Rattle.word_order.proofs.Tied.{AllBelow, SameWord, Carries, Tied, unmarked_last, spoiled_one, marked_last, below_last, below_rest, loses_same, none_left_lem, some_left, carries_more, begun_carries}

-- The word on the wire after an edge.
pub record Counts (t : Terms) (u : Under) (w : OnWire) : Type 0 where
  pub filler : w.filler ≡ u.filler
  pub edges : w.edges ≡ u.edges
  pub shown : w.shown ≡ top_bits t.width (sampled_in t.samples u.edges) u.word
  pub seen : spelled 0 w.seen ≡ u.received

pub counted_word : (t : Terms) (owed : List ℕ) (u : Under) (w : OnWire) (sdo sdi : Bool) → SameWord t owed u w → Shows t sdo u →
    Counts t (progressed t sdi u) (counted t sdo sdi w)
unfolding counted progressed received_after
counted_word t owed u w sdo sdi c s =
    rw c.edges
    (if_both
    (λ (received : ℕ) (x : OnWire).
    Counts t (record { filler = u.filler; word = u.word; edges = u.edges + 1; received = received }) x)
    (t.samples (u.edges + 1)) (t.samples (u.edges + 1)) _ _ _ _ refl
    (λ e.
    record {
      filler = c.filler;
      edges = refl;
      shown =
          ap₂ (λ (q : List Bool) (b : Bool). q ++ (b ∷ [])) c.shown (s.shows e)
          ∙ ap (λ (n : ℕ). top_bits t.width n u.word) (sym (sampled_more t.samples u.edges e));
      seen = spelled_last w.seen 0 sdi ∙ ap (λ (n : ℕ). n * 2 + bool_byte sdi) c.seen;
    })
    (λ e.
    record {
      filler = c.filler;
      edges = refl;
      shown = c.shown ∙ ap (λ (n : ℕ). top_bits t.width n u.word) (sym (sampled_same t.samples u.edges e));
      seen = c.seen;
    }))

-- Where the old word is lost there is one.
marked_not : (y : Policy) → y ≡ replaces_old → ends y ≡ false
marked_not (drops_new ends) e = cc
marked_not replaces_old e = refl

full_some : (t : Terms) → Whole t → (p : Port) (l : Ledger) → Tied t p l → t.policy ≡ replaces_old → loses_at t p ≡ true →
    1 ≤ length p.unread
unfolding loses_at
full_some t w p l h by is =
    let unmarked : p.marked ≡ false =
    h.mark ∙ ap (λ (b : Bool). b && ltb 0 (lost_of l)) (marked_not t.policy by) in
    let full : leb t.depth (length p.unread) ≡ true =
    sym (or-false _) ∙ ap (λ (b : Bool). leb t.depth (length p.unread) || b) (sym unmarked) ∙ is in
    let enough : t.depth ≤ length p.unread = leb-true t.depth (length p.unread) full in
    omega (arith, w.deep)

-- It is then gone from the words kept.
old_spoiled : (t : Terms) → Whole t → (p : Port) (l : Ledger) → Tied t p l → t.policy ≡ replaces_old → loses_at t p ≡ true →
    (unmarked (spoiled l.arrivals (length l.read)) ≡ l.read ++ drop 1 p.unread)
    × (marked_in (spoiled l.arrivals (length l.read)) ≡ lost_of l + 1)
old_spoiled t w p l h by is = go p.unread refl
  where
    go : (q : List ℕ) → p.unread ≡ q →
        (unmarked (spoiled l.arrivals (length l.read)) ≡ l.read ++ drop 1 q)
        × (marked_in (spoiled l.arrivals (length l.read)) ≡ lost_of l + 1)
    go [] e = absurd (omega (arith, full_some t w p l h by is, ap length e))
    go (x ∷ rest) e = spoiled_one l.arrivals l.read rest x (h.receiving ∙ ap (λ (r : List ℕ). l.read ++ r) e)

-- Which words are kept once a word has come in.
landed_kept : (t : Terms) → Whole t → (p : Port) (l : Ledger) → Tied t p l → (word : ℕ) (lost : Bool) → loses_at t p ≡ lost →
    (y : Policy) → t.policy ≡ y →
    unmarked (landed y lost word l) ≡ l.read ++ landed_in y lost word p.unread
unfolding when◌then◌else◌ loses_at
landed_kept t w p l h word true is (drops_new ends) by =
    unmarked_last l.arrivals _ ∙ append-nil (kept l) ∙ h.receiving
landed_kept t w p l h word false is (drops_new ends) by =
    unmarked_last l.arrivals _ ∙ ap (λ (q : List ℕ). q ++ (word ∷ [])) h.receiving ∙ append_assoc l.read p.unread _
landed_kept t w p l h word false is replaces_old by =
    unmarked_last l.arrivals _ ∙ ap (λ (q : List ℕ). q ++ (word ∷ [])) h.receiving ∙ append_assoc l.read p.unread _
landed_kept t w p l h word true is replaces_old by =
    unmarked_last (spoiled l.arrivals (length l.read)) _
    ∙ ap (λ (q : List ℕ). q ++ (word ∷ [])) (old_spoiled t w p l h by is).0
    ∙ append_assoc l.read (drop 1 p.unread) _

-- One word more is lost exactly if the port says so.
pub landed_lost : (t : Terms) → Whole t → (p : Port) (l : Ledger) → Tied t p l → (word : ℕ) (lost : Bool) → loses_at t p ≡ lost →
    (y : Policy) → t.policy ≡ y → marked_in (landed y lost word l) ≡ lost_of l + bool_byte lost
unfolding when◌then◌else◌
landed_lost t w p l h word lost is (drops_new ends) by = marked_last l.arrivals _
landed_lost t w p l h word false is replaces_old by = marked_last l.arrivals _
landed_lost t w p l h word true is replaces_old by =
    let last : marked_in (landed replaces_old true word l) ≡ marked_in (spoiled l.arrivals (length l.read)) + 0 =
    marked_last (spoiled l.arrivals (length l.read)) _ in
    omega (arith, (old_spoiled t w p l h by is).1)

-- The mark.
some_lost : (k : ℕ) (b : Bool) → ltb 0 (k + bool_byte b) ≡ (ltb 0 k || b)
some_lost k b = go (ltb 0 k) b refl
  where
    go : (x b : Bool) → ltb 0 k ≡ x → ltb 0 (k + bool_byte b) ≡ (x || b)
    go true b e = let there : 0 < k = ltb-true 0 k e in lt-ltb 0 (k + bool_byte b) (omega arith)
    go false true e = lt-ltb 0 (k + 1) (omega arith)
    go false false e = let none : k ≤ 0 = ltb-false 0 k e in le-ltb 0 (k + 0) (omega arith)

mark_law : (m x b : Bool) → ((m && x) || (m && b)) ≡ (m && (x || b))
mark_law true x b = refl
mark_law false x b = refl

-- The sent word.
sent_law : (filler : Bool) (word : ℕ) (before owed : List ℕ) → (filler ≡ false → owed ≡ word ∷ drop 1 owed) →
    before ++ owed ≡ (before ++ (when filler then [] else word ∷ [])) ++ (when filler then owed else drop 1 owed)
unfolding when◌then◌else◌
sent_law true word before owed e = ap (λ (q : List ℕ). q ++ owed) (sym (append-nil before))
sent_law false word before owed e =
    ap (λ (q : List ℕ). before ++ q) (e refl) ∙ sym (append_assoc before (word ∷ []) (drop 1 owed))

-- The finish.
finish_tied : (t : Terms) → Whole t → (p : Port) (l : Ledger) → Tied t p l → (u : Under) (w : OnWire) → Counts t u w →
    u.edges ≡ t.last → u.word < 2 ^ t.width → (u.filler ≡ false → p.owed ≡ u.word ∷ drop 1 p.owed) →
    Tied t (finished t u p) (closed t w l)
unfolding finished closed
finish_tied t whole p l h u w c last fits first =
    let lost : loses t l ≡ loses_at t p = loses_same t p l h in
    let word : spelled 0 w.shown ≡ u.word =
    ap (spelled 0)
    (c.shown
    ∙ ap (λ (n : ℕ). top_bits t.width n u.word) (ap (sampled_in t.samples) last ∙ whole.all))
    ∙ spelled_top_bits t.width u.word fits in
    record {
      sending =
          cc (
            h.sending,
            sent_law u.filler u.word (sent l) p.owed first,
            c.filler,
            word,
            unmarked_last l.departures (record { word = spelled 0 w.shown; marked = w.filler }),
          );
      receiving =
          ap₂ (λ (b : Bool) (v : ℕ). unmarked (landed t.policy b v l)) lost c.seen
          ∙ landed_kept t whole p l h u.received (loses_at t p) refl t.policy refl;
      carries = tt;
      fit =
          if_keeps (AllBelow (2 ^ t.width)) u.filler _ _ (λ e. h.fit)
          (λ e. below_rest (2 ^ t.width) p.owed h.fit);
      mark =
          cc (
            h.mark,
            mark_law (ends t.policy) (ltb 0 (lost_of l)) (loses_at t p),
            lost,
            some_lost (lost_of l) (loses_at t p),
            landed_lost t whole p l h (spelled 0 w.seen) (loses_at t p) refl t.policy refl,
          );
    }

-- A word at an edge.
clock_tied : (t : Terms) → Whole t → (p : Port) (l : Ledger) → Tied t p l → (sdo sdi : Bool) → (way : Way) (wire : Wire) →
    p.way ≡ way → l.wire ≡ wire → Carries t p.owed way wire → ShowsOn t sdo way →
    Tied t (advanced t sdi way p) (given t sdo sdi wire l)
unfolding advanced given progressed
clock_tied t whole p l h sdo sdi idle quiet a b c s = h
clock_tied t whole p l h sdo sdi idle (busy w) a b c s = absurd c
clock_tied t whole p l h sdo sdi (sends u) quiet a b c s = absurd c
clock_tied t whole p l h sdo sdi (sends u) (busy w) a b c s =
    let k : Counts t (progressed t sdi u) (counted t sdo sdi w) = counted_word t p.owed u w sdo sdi c s in
    if_both (Tied t) (ltb (u.edges + 1) t.last) (ltb (w.edges + 1) t.last) _ _ _ _
    (ap (λ (e : ℕ). ltb (e + 1) t.last) c.edges)
    (λ e.
    record {
      sending = h.sending;
      receiving = h.receiving;
      carries =
          record {
            filler = k.filler;
            edges = k.edges;
            shown = k.shown;
            seen = k.seen;
            short = ltb-true (u.edges + 1) t.last e;
            fits = c.fits;
            first = c.first;
            zeros = c.zeros;
          };
      fit = h.fit;
      mark = h.mark;
    })
    (λ e.
    let no-sooner : t.last ≤ u.edges + 1 = ltb-false (u.edges + 1) t.last e in
    finish_tied t whole p l h (progressed t sdi u) (counted t sdo sdi w) k (omega (arith, c.short)) c.fits c.first)

-- One legal operation.
pub tied_op : (t : Terms) → Whole t → (o : Op) (p : Port) (l : Ledger) → Tied t p l → Legal t o p →
    Tied t (played t o p) (noted t o l)
tied_op t whole (accepts word) p l h legal =
    record {
      sending = ap (λ (q : List ℕ). q ++ (word ∷ [])) h.sending ∙ append_assoc (sent l) p.owed (word ∷ []);
      receiving = h.receiving;
      carries = carries_more t p.owed word p.way l.wire h.carries;
      fit = below_last (2 ^ t.width) p.owed word h.fit legal;
      mark = h.mark;
    }
tied_op t whole (reads word) p l h legal =
    record {
      sending = h.sending;
      receiving =
          h.receiving
          ∙ ap (λ (q : List ℕ). l.read ++ q) legal.first
          ∙ sym (append_assoc l.read (word ∷ []) (drop 1 p.unread));
      carries = h.carries;
      fit = h.fit;
      mark = h.mark;
    }
tied_op t whole begins p l h legal =
    record {
      sending = h.sending;
      receiving = h.receiving;
      carries =
          begun_carries t whole p.owed l h.fit (none_left_lem t p l h) (some_left t p l h) p.way l.wire h.carries;
      fit = h.fit;
      mark = h.mark;
    }
tied_op t whole (clocks sdo sdi) p l h legal =
    clock_tied t whole p l h sdo sdi p.way l.wire refl refl h.carries legal
tied_op t whole forgets p l h legal =
    record { sending = h.sending; receiving = h.receiving; carries = tt; fit = h.fit; mark = h.mark }

-- A list of them.
pub tied_ops : (t : Terms) → Whole t → (os : List Op) (p : Port) (l : Ledger) → Tied t p l → LegalAll t os p →
    Tied t (played_all t os p) (noted_all t os l)
tied_ops t whole [] p l h legal = h
tied_ops t whole (o ∷ os) p l h legal =
    tied_ops t whole os (played t o p) (noted t o l) (tied_op t whole o p l h legal.0) legal.1
