-- A port and its ledger hang together, and each operation keeps them so.
--     Tied       a port and a ledger
--     tied_op    one legal operation
--     tied_ops   a list of them
-- Assumes nothing.
use Rattle.std.specs.Prelude.{◌+◌, ◌^◌, ◌≤◌, ◌<◌, ◌&&◌, ◌||◌, ◌∷◌, ◌++◌, ◌≡◌}
use Rattle.laws.proofs.Common.{ℕ, suc, Bool, true, false, List, [], refl, sym}
use Rattle.laws.proofs.Common.{ap, ap₂, subst, ◌∙◌, arith, leb-true, leb-false, lt-ltb, le-ltb, le-leb, lt-leb, ltb, leb}
use Rattle.laws.proofs.Common.{length, drop, length-append, when◌then◌else◌, if_both, if_true, if_false, clash}
use mir.Val.{bool_byte}
use lib.Pow.{pow_pos}
use Rattle.word_order.specs.Bits.{top_bits, spelled, sampled_in}
use Rattle.word_order.specs.Ledger.{Terms, OnWire, Wire, quiet, busy, Passed, Ledger, unmarked, sent, kept, marked_in, lost_of, opened, left_to_send, ends, loses, spoiled_from, spoiled, fresh, first_on_wire, begun_on}
use Rattle.word_order.specs.Port.{Under, Way, idle, sends, Port, emptied, loses_at, first_way, begun_way, Whole}

-- Words that all lie below a number.
abbrev pub AllBelow : ℕ → List ℕ → Type 0
AllBelow k [] = Unit {0}
AllBelow k (word ∷ words) = (word < k) × AllBelow k words

-- The word under way and the word on the wire: as many edges, SDO showed its bits from the top, SDI spelled what was
-- received. Unless it is a filler it is the first of those owed; a filler is the word 0.
pub record SameWord (t : Terms) (owed : List ℕ) (u : Under) (w : OnWire) : Type 0 where
  pub filler : w.filler ≡ u.filler
  pub edges : w.edges ≡ u.edges
  pub shown : w.shown ≡ top_bits t.width (sampled_in t.samples u.edges) u.word
  pub seen : spelled 0 w.seen ≡ u.received
  pub short : u.edges < t.last
  pub fits : u.word < 2 ^ t.width
  pub first : u.filler ≡ false → owed ≡ u.word ∷ drop 1 owed
  pub zeros : u.filler ≡ true → u.word ≡ 0

abbrev pub Carries : Terms → List ℕ → Way → Wire → Type 0
Carries t owed idle quiet = Unit {0}
Carries t owed idle (busy w) = ⊥
Carries t owed (sends u) quiet = ⊥
Carries t owed (sends u) (busy w) = SameWord t owed u w

pub record Tied (t : Terms) (p : Port) (l : Ledger) : Type 0 where
  pub sending : l.accepted ≡ sent l ++ p.owed
  pub receiving : kept l ≡ l.read ++ p.unread
  pub carries : Carries t p.owed p.way l.wire
  pub fit : AllBelow (2 ^ t.width) p.owed
  pub mark : p.marked ≡ (ends t.policy && ltb 0 (lost_of l))

pub tied_opened : (t : Terms) → Tied t emptied opened
unfolding opened
tied_opened t =
    record { sending = refl; receiving = refl; carries = tt; fit = tt; mark = sym (none (ends t.policy)) }
  where
    none : (b : Bool) → (b && ltb 0 0) ≡ false
    none true = refl
    none false = refl

-- Lists of words.
pub below_last : (k : ℕ) (words : List ℕ) (word : ℕ) → AllBelow k words → word < k → AllBelow k (words ++ (word ∷ []))
below_last k [] word h f = (f, tt)
below_last k (x ∷ words) word h f = (h.0, below_last k words word h.1 f)

pub below_rest : (k : ℕ) (words : List ℕ) → AllBelow k words → AllBelow k (drop 1 words)
below_rest k [] h = tt
below_rest k (x ∷ words) h = h.1

first_stays : (word more : ℕ) (owed : List ℕ) → owed ≡ word ∷ drop 1 owed →
    (owed ++ (more ∷ [])) ≡ word ∷ drop 1 (owed ++ (more ∷ []))
first_stays word more [] e = cc
first_stays word more (x ∷ owed) e = ap (λ (v : ℕ). v ∷ (owed ++ (more ∷ []))) (head e)
  where
    head : (x ∷ owed) ≡ word ∷ owed → x ≡ word
    head f = cc

-- One more word that passed is among the unmarked ones unless it is marked.
pub unmarked_last : (l : List Passed) (a : Passed) →
    unmarked (l ++ (a ∷ [])) ≡ unmarked l ++ (when a.marked then [] else a.word ∷ [])
unfolding when◌then◌else◌
unmarked_last [] a = refl
unmarked_last (b ∷ l) a = go b.marked _ _ (unmarked_last l a)
  where
    go : (m : Bool) (all front : List ℕ) → all ≡ front ++ (when a.marked then [] else a.word ∷ []) →
        (when m then all else b.word ∷ all) ≡ (when m then front else b.word ∷ front) ++ (when a.marked then [] else a.word ∷ [])
    go true all front e = e
    go false all front e = ap (λ (q : List ℕ). b.word ∷ q) e

-- The word number k gets its mark: it is gone from the unmarked ones, and one word more has a mark.
pub spoiled_one : (l : List Passed) (before rest : List ℕ) (word : ℕ) → unmarked l ≡ before ++ (word ∷ rest) →
    (unmarked (spoiled l (length before)) ≡ before ++ rest) × (marked_in (spoiled l (length before)) ≡ marked_in l + 1)
unfolding when◌then◌else◌
spoiled_one [] [] rest word e = let z : ◌≡◌ {A = ℕ} 0 1 = cc in absurd (omega arith)
spoiled_one [] (x ∷ before) rest word e = let z : ◌≡◌ {A = ℕ} 0 1 = cc in absurd (omega arith)
spoiled_one (a ∷ l) before rest word e = go a.marked refl before e (λ b f. spoiled_one l b rest word f)
  where
    go : (m : Bool) → a.marked ≡ m → (b : List ℕ) → (when m then unmarked l else a.word ∷ unmarked l) ≡ b ++ (word ∷ rest) →
        ((c : List ℕ) → unmarked l ≡ c ++ (word ∷ rest) →
        (unmarked (spoiled l (length c)) ≡ c ++ rest) × (marked_in (spoiled l (length c)) ≡ marked_in l + 1)) →
        (unmarked (spoiled_from m (length b) a l (spoiled l)) ≡ b ++ rest)
        × (marked_in (spoiled_from m (length b) a l (spoiled l)) ≡ bool_byte a.marked + marked_in l + 1)
    go true is b f ih = (if_true a.marked _ _ is ∙ (ih b f).0, omega (arith, (ih b f).1))
    go false is [] f ih = let none : bool_byte a.marked ≡ 0 = ap bool_byte is in (cc, omega arith)
    go false is (x ∷ c) f ih =
        let first : a.word ≡ x = cc in
        let i = ih c cc in
        (if_false a.marked _ _ is ∙ ap₂ (λ (v : ℕ) (q : List ℕ). v ∷ q) first i.0, omega (arith, i.1))

-- A number added on both sides changes no comparison.
leb_added : (k a b : ℕ) → leb (k + a) (k + b) ≡ leb a b
leb_added k a b = go (leb a b) refl
  where
    go : (t : Bool) → leb a b ≡ t → leb (k + a) (k + b) ≡ t
    go true e = let within : a ≤ b = leb-true a b e in le-leb (k + a) (k + b) (omega arith)
    go false e = let beyond : b < a = leb-false a b e in lt-leb (k + a) (k + b) (omega arith)

module _ (t : Terms) (p : Port) (l : Ledger) (h : Tied t p l) where
  -- The ledger has a word lost exactly if the port has.
  pub loses_same : loses t l ≡ loses_at t p
  unfolding loses loses_at
  loses_same =
      ap₂ (λ (a b : Bool). a || b)
      (ap (leb (length l.read + t.depth)) (ap length h.receiving ∙ length-append l.read p.unread)
      ∙ leb_added (length l.read) t.depth (length p.unread))
      (sym h.mark)

  -- The accepted words are as many as those sent and those owed.
  accepted-count : length l.accepted ≡ length (sent l) + length p.owed
  accepted-count = ap length h.sending ∙ length-append (sent l) p.owed

  pub none_left_lem : p.owed ≡ [] → left_to_send l ≡ false
  unfolding left_to_send
  none_left_lem e =
      let n : length p.owed ≡ 0 = ap length e in
      le-ltb (length (sent l)) (length l.accepted) (omega (arith, accepted-count))

  pub some_left : (word : ℕ) (rest : List ℕ) → p.owed ≡ word ∷ rest → left_to_send l ≡ true
  unfolding left_to_send
  some_left word rest e =
      let n : length p.owed ≡ suc (length rest) = ap length e in
      lt-ltb (length (sent l)) (length l.accepted) (omega (arith, accepted-count))

-- What the wire carries does not change by a word more.
pub carries_more : (t : Terms) (owed : List ℕ) (more : ℕ) (way : Way) (wire : Wire) → Carries t owed way wire →
    Carries t (owed ++ (more ∷ [])) way wire
carries_more t owed more idle quiet c = tt
carries_more t owed more idle (busy w) c = c
carries_more t owed more (sends u) quiet c = c
carries_more t owed more (sends u) (busy w) c =
    record {
      filler = c.filler;
      edges = c.edges;
      shown = c.shown;
      seen = c.seen;
      short = c.short;
      fits = c.fits;
      first = λ f. first_stays u.word more owed (c.first f);
      zeros = c.zeros;
    }

-- A fresh word.
fresh_word_lem : (t : Terms) → Whole t → (owed : List ℕ) (filler : Bool) (word : ℕ) → word < 2 ^ t.width →
    (filler ≡ false → owed ≡ word ∷ drop 1 owed) → (filler ≡ true → word ≡ 0) →
    SameWord t owed (record { filler = filler; word = word; edges = 0; received = 0 }) (fresh filler)
fresh_word_lem t w owed filler word f first zeros =
    record {
      filler = refl;
      edges = refl;
      shown = refl;
      seen = refl;
      short = w.some;
      fits = f;
      first = first;
      zeros = zeros;
    }

-- What begins.
pub begun_carries : (t : Terms) → Whole t → (owed : List ℕ) (l : Ledger) → AllBelow (2 ^ t.width) owed →
    (owed ≡ [] → left_to_send l ≡ false) → ((word : ℕ) (rest : List ℕ) → owed ≡ word ∷ rest → left_to_send l ≡ true) →
    (way : Way) (wire : Wire) → Carries t owed way wire → Carries t owed (begun_way t.silent owed way) (begun_on t l wire)
unfolding first_on_wire
begun_carries t w [] l b none some idle quiet c =
    subst (Carries t [] (first_way t.silent [])) (sym (if_false (left_to_send l) _ _ (none refl)))
    (if_both (Carries t []) t.silent t.silent _ _ _ _ refl (λ e. tt)
    (λ e. fresh_word_lem t w [] true 0 (pow_pos t.width) (λ f. clash true refl f) (λ f. refl)))
begun_carries t w (word ∷ rest) l b none some idle quiet c =
    subst (Carries t (word ∷ rest) (first_way t.silent (word ∷ rest)))
    (sym (if_true (left_to_send l) _ _ (some word rest refl)))
    (fresh_word_lem t w (word ∷ rest) false word b.0 (λ f. refl) (λ f. clash false f refl))
begun_carries t w owed l b none some idle (busy x) c = absurd c
begun_carries t w owed l b none some (sends u) quiet c = absurd c
begun_carries t w owed l b none some (sends u) (busy x) c = c

-- How many ends there are.
pub marked_last : (l : List Passed) (a : Passed) → marked_in (l ++ (a ∷ [])) ≡ marked_in l + bool_byte a.marked
marked_last [] a = omega arith
marked_last (b ∷ l) a = let ih : marked_in (l ++ (a ∷ [])) ≡ marked_in l + bool_byte a.marked = marked_last l a in omega arith
