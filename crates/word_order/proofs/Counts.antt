-- What the ledger's lists have grown by is what the port did, under either policy.
--     lost_ops       the words lost
--     arrived_ops    the words that came in, and as many went out
--     accepted_ops, read_ops_lem   the words accepted and read
--     flag_grows     a flag that losses set, by the ledger
-- Assumes nothing.
use Rattle.std.specs.Prelude.{◌+◌, ◌&&◌, ◌||◌, ◌∷◌, ◌≡◌}
use Rattle.laws.proofs.Common.{ℕ, zero, suc, Bool, true, false, not, List, [], refl, sym, ap, ◌∙◌}
use Rattle.laws.proofs.Common.{arith, lt-ltb, le-ltb, ltb, length, length-append, when◌then◌else◌, if_keeps}
use mir.Val.{bool_byte}
use Rattle.word_order.specs.Bits.{spelled}
use Rattle.word_order.specs.Ledger.{Policy, drops_new, replaces_old, Terms, Op, accepts, reads, begins, clocks, forgets, OnWire, Wire, quiet, busy, Passed, Ledger, marked_in, lost_of, loses, spoiled_from, spoiled, landed, counted, closed, with_wire, given, noted, noted_all}
use Rattle.word_order.specs.Port.{Way, idle, sends, Port, loses_at, played, LegalAll, Whole, ends_at, finishes_op, loses_op, counted_in, finishes_in, losses_in, accepts_op, reads_op}
use Rattle.word_order.proofs.Tied.{Carries, Tied, loses_same}
use Rattle.word_order.proofs.Operations.{landed_lost, tied_op}

-- A number of the ledger grows by what is counted of a list of operations if it does of each.
abbrev Grows : (Ledger → ℕ) → (Op → Port → Bool) → Terms → Type 0
Grows of by t = (o : Op) (p : Port) (l : Ledger) → Tied t p l → of (noted t o l) ≡ of l + bool_byte (by o p)

grows_ops : (of : Ledger → ℕ) (by : Op → Port → Bool) (t : Terms) → Whole t → Grows of by t → (os : List Op) (p : Port) (l : Ledger) →
    Tied t p l → LegalAll t os p → of (noted_all t os l) ≡ of l + counted_in by t os p
grows_ops of by t w each [] p l h legal = omega arith
grows_ops of by t w each (o ∷ os) p l h legal =
    let first : of (noted t o l) ≡ of l + bool_byte (by o p) = each o p l h in
    let rest : of (noted_all t os (noted t o l)) ≡ of (noted t o l) + counted_in by t os (played t o p) =
    grows_ops of by t w each os (played t o p) (noted t o l) (tied_op t w o p l h legal.0) legal.1 in
    omega arith

-- An edge: the word on the wire goes on, or is finished.
clock_counts : (t : Terms) (p : Port) (l : Ledger) (of : Ledger → ℕ) (by : Bool) (sdo sdi : Bool) →
    ((w : Wire) → of (with_wire w l) ≡ of l) → ((w : OnWire) → of (closed t w l) ≡ of l + bool_byte by) →
    (way : Way) (wire : Wire) → Carries t p.owed way wire →
    of (given t sdo sdi wire l) ≡ of l + bool_byte (ends_at t way && by)
unfolding given
clock_counts t p l of by sdo sdi goes_on closes idle quiet c = omega arith
clock_counts t p l of by sdo sdi goes_on closes idle (busy w) c = absurd c
clock_counts t p l of by sdo sdi goes_on closes (sends u) quiet c = absurd c
clock_counts t p l of by sdo sdi goes_on closes (sends u) (busy w) c =
    let same : ltb (w.edges + 1) t.last ≡ ltb (u.edges + 1) t.last = ap (λ (k : ℕ). ltb (k + 1) t.last) c.edges in
    if_keeps (λ (k : Ledger). of k ≡ of l + bool_byte (not (ltb (u.edges + 1) t.last) && by)) (ltb (w.edges + 1) t.last) _ _
    (λ e.
    let none : bool_byte (not (ltb (u.edges + 1) t.last) && by) ≡ 0 = ap (λ (b : Bool). bool_byte (not b && by)) (sym same ∙ e) in
    let on : of (with_wire (busy (counted t sdo sdi w)) l) ≡ of l = goes_on _ in
    omega arith)
    (λ e. closes (counted t sdo sdi w) ∙ ap (λ (b : Bool). of l + bool_byte (not b && by)) (sym (sym same ∙ e)))

and_one : (b : Bool) → (b && true) ≡ b
and_one true = refl
and_one false = refl

-- The words lost.
lost_op : (t : Terms) → Whole t → Grows lost_of (loses_op t) t
unfolding closed
lost_op t w (accepts word) p l h = omega arith
lost_op t w (reads word) p l h = omega arith
lost_op t w begins p l h = omega arith
lost_op t w (clocks sdo sdi) p l h =
    clock_counts t p l lost_of (loses_at t p) sdo sdi (λ x. refl)
    (λ x.
    ap (λ (b : Bool). marked_in (landed t.policy b (spelled 0 x.seen) l)) (loses_same t p l h)
    ∙ landed_lost t w p l h (spelled 0 x.seen) (loses_at t p) refl t.policy refl)
    p.way l.wire h.carries
lost_op t w forgets p l h = omega arith

pub lost_ops : (t : Terms) → Whole t → (os : List Op) (p : Port) (l : Ledger) → Tied t p l → LegalAll t os p →
    lost_of (noted_all t os l) ≡ lost_of l + losses_in t os p
lost_ops t w os p l = grows_ops lost_of (loses_op t) t w (lost_op t w) os p l

-- The words that came in, lost or not.
abbrev arrived : Ledger → ℕ
arrived l = length l.arrivals

spoiled_length : (q : List Passed) (k : ℕ) → length (spoiled q k) ≡ length q
spoiled_length [] k = refl
spoiled_length (a ∷ rest) k = go a.marked k (spoiled_length rest)
  where
    go : (b : Bool) (k : ℕ) → ((j : ℕ) → length (spoiled rest j) ≡ length rest) →
        length (spoiled_from b k a rest (spoiled rest)) ≡ suc (length rest)
    go true k h = ap suc (h k)
    go false zero h = refl
    go false (suc k) h = ap suc (h k)

landed_length : (y : Policy) (lost : Bool) (word : ℕ) (l : Ledger) → length (landed y lost word l) ≡ arrived l + 1
landed_length (drops_new e) lost word l = length-append l.arrivals _
landed_length replaces_old lost word l =
    length-append (when lost then spoiled l.arrivals (length l.read) else l.arrivals) _
    ∙ ap (λ (n : ℕ). n + 1)
    (if_keeps (λ (q : List Passed). length q ≡ arrived l) lost _ _ (λ e. spoiled_length l.arrivals (length l.read)) (λ e. refl))

arrived_op : (t : Terms) → Grows arrived (finishes_op t) t
unfolding closed
arrived_op t (accepts word) p l h = omega arith
arrived_op t (reads word) p l h = omega arith
arrived_op t begins p l h = omega arith
arrived_op t (clocks sdo sdi) p l h =
    clock_counts t p l arrived true sdo sdi (λ x. refl) (λ x. landed_length t.policy (loses t l) (spelled 0 x.seen) l)
    p.way l.wire h.carries
    ∙ ap (λ (b : Bool). arrived l + bool_byte b) (and_one (ends_at t p.way))
arrived_op t forgets p l h = omega arith

pub arrived_ops : (t : Terms) → Whole t → (os : List Op) (p : Port) (l : Ledger) → Tied t p l → LegalAll t os p →
    length (noted_all t os l).arrivals ≡ length l.arrivals + finishes_in t os p
arrived_ops t w os p l = grows_ops arrived (finishes_op t) t w (arrived_op t) os p l

-- The words accepted, and those read.
module _ (t : Terms) (sdo sdi : Bool) (l : Ledger) where
  pub same_words : (w : Wire) → ((given t sdo sdi w l).accepted ≡ l.accepted) × ((given t sdo sdi w l).read ≡ l.read)
  unfolding given closed
  same_words quiet = (refl, refl)
  same_words (busy w) =
      if_keeps (λ (k : Ledger). (k.accepted ≡ l.accepted) × (k.read ≡ l.read)) (ltb (w.edges + 1) t.last) _ _
      (λ e. (refl, refl))
      (λ e. (refl, refl))

accepted_op : (t : Terms) → Grows (λ l. length l.accepted) accepts_op t
accepted_op t (accepts word) p l h = length-append l.accepted (word ∷ [])
accepted_op t (reads word) p l h = omega arith
accepted_op t begins p l h = omega arith
accepted_op t (clocks sdo sdi) p l h =
    let same : length (given t sdo sdi l.wire l).accepted ≡ length l.accepted = ap length (same_words t sdo sdi l l.wire).0 in
    omega arith
accepted_op t forgets p l h = omega arith

pub accepted_ops : (t : Terms) → Whole t → (os : List Op) (p : Port) (l : Ledger) → Tied t p l → LegalAll t os p →
    length (noted_all t os l).accepted ≡ length l.accepted + counted_in accepts_op t os p
accepted_ops t w os p l = grows_ops (λ l. length l.accepted) accepts_op t w (accepted_op t) os p l

read_op : (t : Terms) → Grows (λ l. length l.read) reads_op t
read_op t (accepts word) p l h = omega arith
read_op t (reads word) p l h = length-append l.read (word ∷ [])
read_op t begins p l h = omega arith
read_op t (clocks sdo sdi) p l h =
    let same : length (given t sdo sdi l.wire l).read ≡ length l.read = ap length (same_words t sdo sdi l l.wire).1 in
    omega arith
read_op t forgets p l h = omega arith

pub read_ops_lem : (t : Terms) → Whole t → (os : List Op) (p : Port) (l : Ledger) → Tied t p l → LegalAll t os p →
    length (noted_all t os l).read ≡ length l.read + counted_in reads_op t os p
read_ops_lem t w os p l = grows_ops (λ l. length l.read) reads_op t w (read_op t) os p l

-- A number that grew by k did so if k is not 0.
pub grew : (a k : ℕ) → ltb a (a + k) ≡ ltb 0 k
grew a zero = le-ltb a (a + 0) (omega arith)
grew a (suc k) = lt-ltb a (a + suc k) (omega arith) ∙ sym (lt-ltb 0 (suc k) (omega arith))

-- A flag that is set exactly by losses is set exactly if the number of lost words grew.
pub flag_grows : (t : Terms) → Whole t → (os : List Op) (p : Port) (l : Ledger) → Tied t p l → LegalAll t os p →
    (before after : Bool) → after ≡ (before || ltb 0 (losses_in t os p)) →
    after ≡ (before || ltb (lost_of l) (lost_of (noted_all t os l)))
flag_grows t w os p l h legal before after e =
    e ∙ ap (λ (b : Bool). before || b) (sym (ap (ltb (lost_of l)) (lost_ops t w os p l h legal) ∙ grew (lost_of l) _))
