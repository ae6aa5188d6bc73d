-- A received word that is new in the ledger is dropped exactly if the buffer is full or marked.
--     ops_cases, entry_cases   what the watcher notes of levels, and of a call
--     dropped   of an enabled module, after any call
--     goes_on   no call of an enabled module opens the ledger
-- Assumes nothing.
use Rattle.std.specs.Prelude.{◌+◌, ◌&&◌, ◌||◌, ◌∷◌, ◌++◌, ◌≡◌}
use Rattle.laws.proofs.Common.{not-true, ℕ, Bool, true, false, not, Bool·beq, List, [], refl}
use Rattle.laws.proofs.Common.{sym, ap, ◌∙◌, arith, eqb, ltb, leb, length, length-append, if_keeps, clash, and_left}
use Rattle.laws.proofs.Common.{and_right}
use Rattle.word_order.specs.Ledger.{Policy, drops_new, Terms, Op, begins, clocks, Wire, quiet, busy, Passed, Ledger, loses, landed, closed, counted, given, with_wire, begun_on, noted_all, is_quiet, edges_given, accepts, reads, forgets}
use Rattle.word_order.specs.Machine.{Entry, entered, is_opening, opens, notes}
use Rattle.word_order.specs.Port.{loses_at}
use Rattle.word_order.specs.Bits.{spelled}
use Rattle.word_order.proofs.Tied.{loses_same}
use Rattle.module_rules.proofs.Types.{Settings, Call, Read, Write, Tick, Pin, ClockStep, Clear}
use Rattle.module_rules.specs.InBits.{room}
use Rattle.module_rules.specs.Refusals.{is_done, is_value, is_edge}
use Rattle.module_rules.specs.Words.{unread_in}
use Rattle.module_rules.specs.Watch.{terms, port_in, Memory, Sight, sight_of, deaf, may_begin, level_ops, enabled_by, entry_of, Watched, watched_call, sck_of_step, ss_of_step, ss_of_tick}
use Rattle.module_order.proofs.Order.{Lives}

-- What holds of each thing that the watcher may note of levels holds of what he notes.
pub ops_cases : (v : Sight) (x : Memory) (sck sdi ss : Bool) (P : List Op → Type 0) → P (forgets ∷ []) → P [] →
    P (begins ∷ clocks v.sdo sdi ∷ []) → P (clocks v.sdo sdi ∷ []) → P (level_ops v x sck sdi ss)
ops_cases v x sck sdi ss P forgotten none first edge =
    if_keeps P (deaf v.settings ss) _ _ (λ d. forgotten)
    (λ d.
    if_keeps P (Bool·beq sck x.sck) _ _ (λ s. none)
    (λ s.
    if_keeps (λ (os : List Op). P (os ++ (clocks v.sdo sdi ∷ []))) (may_begin v.settings x v.shown sck) _ _
    (λ m. first) (λ m. edge)))

-- And of a call: nothing, a word read, a word accepted, that the ledger opens, or levels.
module _ (x : Memory) (v : Sight) (b : Bool) (k : ℕ) (P : Entry → Type 0) (none : P (notes []))
    (read : (w : ℕ) → P (notes (reads w ∷ [])))
    (accepted : (w : ℕ) → P (notes (accepts w ∷ []))) (opened : v.settings.spien ≡ false → P opens)
    (seen : (sck sdi ss : Bool) → P (notes (level_ops v x sck sdi ss))) where
  pub entry_cases : (c : Call) → P (entry_of x v b k c)
  entry_cases (Read register) = if_keeps P (is_value v.answer && eqb register 3) _ _ (λ e. read _) (λ e. none)
  entry_cases (Write register w) =
      if_keeps P (is_done v.answer && eqb register 3) _ _ (λ e. accepted _)
      (λ e.
      if_keeps P (enabled_by v register w) _ _
      (λ up.
      opened
      (not-true v.settings.spien
      (and_left (not v.settings.spien) _ (and_right (eqb register 0) _ (and_right (is_done v.answer) _ up)))))
      (λ e. none))
  entry_cases (Tick sdi ss) = if_keeps P (is_edge v.answer) _ _ (λ e. seen (not x.sck) sdi (ss_of_tick v x ss)) (λ e. none)
  entry_cases (Pin sck sdi ss) = if_keeps P (is_done v.answer) _ _ (λ e. seen sck sdi ss) (λ e. none)
  entry_cases (ClockStep sck sdi ss) =
      if_keeps P (is_done v.answer) _ _ (λ e. seen (sck_of_step v x sck) sdi (ss_of_step v x ss)) (λ e. none)
  entry_cases Clear = none

-- No list is one longer than itself, and what stands behind a list is known.
no_longer : {A B : Type 0} (l : List A) (a : A) → l ≡ l ++ (a ∷ []) → B
no_longer l a e = let z : ⊥ = omega (arith, ap length e, length-append l (a ∷ [])) in absurd z

last_same : {A : Type 0} (l : List A) (a b : A) → (l ++ (a ∷ [])) ≡ l ++ (b ∷ []) → a ≡ b
last_same [] a b e = cc
last_same (x ∷ l) a b e = last_same l a b (rest e)
  where
    rest : (x ∷ (l ++ (a ∷ []))) ≡ x ∷ (l ++ (b ∷ [])) → (l ++ (a ∷ [])) ≡ l ++ (b ∷ [])
    rest f = cc

-- The word that a ledger has more than another: its mark is that of a loss.
abbrev Brought : Terms → Ledger → Passed → Ledger → Type 0
Brought t l a k = k.arrivals ≡ l.arrivals ++ (a ∷ []) → a.marked ≡ loses t l

edge_brings : (t : Terms) (e : Bool) → t.policy ≡ drops_new e → (l : Ledger) (a : Passed) (sdo sdi : Bool) (wire : Wire) →
    Brought t l a (given t sdo sdi wire l)
unfolding given closed
edge_brings t e policy l a sdo sdi quiet = λ f. no_longer l.arrivals a f
edge_brings t e policy l a sdo sdi (busy w) =
    if_keeps (Brought t l a) (ltb (w.edges + 1) t.last) _ _ (λ more f. no_longer l.arrivals a f)
    (λ last f.
    ap (λ (b : Passed). b.marked)
    (sym
    (last_same l.arrivals (record { word = spelled 0 (counted t sdo sdi w).seen; marked = loses t l }) a
    (sym (ap (λ (y : Policy). landed y (loses t l) (spelled 0 (counted t sdo sdi w).seen) l) policy) ∙ f))))

module _ (t : Terms) (e : Bool) (policy : t.policy ≡ drops_new e) (l : Ledger) (a : Passed) where
  begun_brings : (sdo sdi : Bool) → Brought t l a (noted_all t (begins ∷ clocks sdo sdi ∷ []) l)
  unfolding loses
  begun_brings sdo sdi =
      let k : Ledger = with_wire (begun_on t l l.wire) l in
      edge_brings t e policy k a sdo sdi k.wire

  -- Only levels bring a word in.
  entry-brings : (x : Memory) (v : Sight) (b : Bool) (k : ℕ) (c : Call) → is_opening (entry_of x v b k c) ≡ false →
      Brought t l a (entered t (entry_of x v b k c) l)
  entry-brings x v b k =
      entry_cases x v b k (λ (q : Entry). is_opening q ≡ false → Brought t l a (entered t q l))
      (λ o f. no_longer l.arrivals a f)
      (λ w o f. no_longer l.arrivals a f)
      (λ w o f. no_longer l.arrivals a f)
      (λ off o. clash true refl o)
      (λ sck sdi ss o.
      ops_cases v x sck sdi ss (λ (os : List Op). Brought t l a (noted_all t os l)) (λ f. no_longer l.arrivals a f)
      (λ f. no_longer l.arrivals a f)
      (begun_brings v.sdo sdi)
      (edge_brings t e policy l a v.sdo sdi l.wire))

-- No call of an enabled module opens the ledger.
module _ (s : Settings) (on : s.spien ≡ true) (x : Memory) (v : Sight) (same : v.settings ≡ s) (busy : Bool) (k : ℕ) where
  pub goes_on : (c : Call) → is_opening (entry_of x v busy k c) ≡ false
  goes_on =
      entry_cases x v busy k (λ (e : Entry). is_opening e ≡ false) refl (λ w. refl) (λ w. refl)
      (λ off. clash v.settings.spien (ap (λ (z : Settings). z.spien) same ∙ on) off)
      (λ sck sdi ss. refl)

pub dropped : (x : Watched) → Lives x → x.now.settings.spien ≡ true → (c : Call) (a : Passed) →
    (watched_call x c).ledger.arrivals ≡ x.ledger.arrivals ++ (a ∷ []) →
    a.marked ≡ (leb (room x.now.settings) (length (unread_in x.now)) || x.now.engine.receive.marked)
unfolding loses_at
dropped x v on c a f =
    let s : Settings = x.now.settings in
    let b : Bool = not (is_quiet x.ledger.wire) in
    let k : ℕ = edges_given x.ledger.wire in
    entry-brings (terms s) s.con2.spiben refl x.ledger a x.memory (sight_of x.now c) b k c
    (goes_on s on x.memory (sight_of x.now c) refl b k c)
    f
    ∙ loses_same (terms s) (port_in x.now) x.ledger (v.tied on).words
