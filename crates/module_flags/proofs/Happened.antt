-- What a call is seen to do, by the law's operations instead of the ledger's lists.
--     ops_of            the operations of an entry
--     happened         what is seen, from the module's side
--     seen_happened    of an enabled module that stays enabled the two are the same
--     quiet_raises     where no word passes no condition is met
-- Assumes nothing.
use Rattle.std.specs.Prelude.{◌+◌, ◌&&◌, ◌∷◌, ◌≡◌}
use Rattle.laws.proofs.Common.{ℕ, Bool, true, false, not, List, [], refl, sym, ap, ap₂, ◌∙◌, le_refl}
use Rattle.laws.proofs.Common.{arith, le-ltb, ne_eqb, eqb, ltb, length, clash, and-false}
use mir.Val.{bool_byte}
use Rattle.word_order.specs.Ledger.{Terms, Op, Ledger, lost_of, left_to_send, is_quiet, edges_given}
use Rattle.word_order.specs.Port.{Port, Whole, counted_in, accepts_op, reads_op, finishes_in, losses_in}
use Rattle.word_order.specs.Machine.{Entry, opens, notes, entered, LegalEntry, is_opening}
use Rattle.word_order.proofs.Tied.{Tied, none_left_lem, some_left}
use Rattle.word_order.proofs.Counts.{lost_ops, arrived_ops, accepted_ops, read_ops_lem, grew}
use Rattle.word_order.proofs.Order.{call_steps}
use Rattle.module_rules.proofs.Types.{Module, Call}
use Rattle.module_rules.specs.Words.{waiting_in, unread_in, owed_words}
use Rattle.module_rules.specs.Calls.{perform_of}
use Rattle.module_rules.specs.Watch.{ours, terms, port_in, sight_of, entry_of, Watched, watched_call}
use Rattle.module_rules.specs.Flags.{Seen, seen, raised}
use Rattle.module_order.proofs.Ports.{whole_terms}
use Rattle.module_order.proofs.Order.{ours_owes, Lives, lives_on}
use Rattle.module_order.proofs.Dropped.{goes_on}
use Rattle.module_flags.proofs.Raised.{raised_none}

abbrev pub ops_of : Entry → List Op
ops_of opens = []
ops_of (notes os) = os

abbrev pub counted : (Op → Port → Bool) → Module → List Op → Bool
counted f m os = ltb 0 (counted_in f (terms m.settings) os (port_in m))

abbrev pub happened : Module → List Op → Module → Seen
happened m os after =
    record {
      accepted = counted accepts_op m os;
      read = counted reads_op m os;
      finished = ltb 0 (finishes_in (terms m.settings) os (port_in m));
      lost = ltb 0 (losses_in (terms m.settings) os (port_in m));
      added = ltb (length (unread_in m)) (length (unread_in after));
      left = after.settings.spien && ltb (length (waiting_in after)) (length (waiting_in m) + bool_byte (counted accepts_op m os));
      unread = length (unread_in after);
      waiting = length (waiting_in after);
      none = eqb (length (owed_words after)) 0;
    }

-- The lists have grown by what was counted.
record Grown (t : Terms) (e : Entry) (p : Port) (l : Ledger) : Type 0 where
  accepted : ltb (length l.accepted) (length (entered t e l).accepted) ≡ ltb 0 (counted_in accepts_op t (ops_of e) p)
  read : ltb (length l.read) (length (entered t e l).read) ≡ ltb 0 (counted_in reads_op t (ops_of e) p)
  arrived : ltb (length l.arrivals) (length (entered t e l).arrivals) ≡ ltb 0 (finishes_in t (ops_of e) p)
  lost : ltb (lost_of l) (lost_of (entered t e l)) ≡ ltb 0 (losses_in t (ops_of e) p)

grown : (t : Terms) → Whole t → (e : Entry) → is_opening e ≡ false → (p : Port) (l : Ledger) → Tied t p l → LegalEntry t e p → Grown t e p l
grown t w opens o p l h legal = clash true refl o
grown t w (notes os) o p l h legal =
    record {
      accepted = ap (ltb (length l.accepted)) (accepted_ops t w os p l h legal) ∙ grew (length l.accepted) _;
      read = ap (ltb (length l.read)) (read_ops_lem t w os p l h legal) ∙ grew (length l.read) _;
      arrived = ap (ltb (length l.arrivals)) (arrived_ops t w os p l h legal) ∙ grew (length l.arrivals) _;
      lost = ap (ltb (lost_of l)) (lost_ops t w os p l h legal) ∙ grew (lost_of l) _;
    }

-- None is left to send exactly if none is owed.
none_owed : (t : Terms) (p : Port) (l : Ledger) → Tied t p l → not (left_to_send l) ≡ eqb (length p.owed) 0
none_owed t p l h = go p.owed refl
  where
    go : (q : List ℕ) → p.owed ≡ q → not (left_to_send l) ≡ eqb (length q) 0
    go [] e = ap not (none_left_lem t p l h e)
    go (word ∷ rest) e = ap not (some_left t p l h word rest e) ∙ sym (ne_eqb (length (word ∷ rest)) 0 (omega arith))

-- A record of what is seen, part by part.
seen_is : {a a' r r' f f' k k' d d' l l' n n' : Bool} {u w : ℕ} → a ≡ a' → r ≡ r' → f ≡ f' → k ≡ k' → d ≡ d' → l ≡ l' → n ≡ n' →
    ◌≡◌ {A = Seen} (record { accepted = a; read = r; finished = f; lost = k; added = d; left = l; unread = u; waiting = w; none = n })
    (record { accepted = a'; read = r'; finished = f'; lost = k'; added = d'; left = l'; unread = u; waiting = w; none = n' })
seen_is {u = u} {w = w} a r f k d l n =
    λ i. record { accepted = a i; read = r i; finished = f i; lost = k i; added = d i; left = l i; unread = u; waiting = w; none = n i }

-- Of an enabled module that stays enabled.
pub seen_happened : (x : Watched) (c : Call) → Lives x → x.now.settings.spien ≡ true →
    (perform_of x.now c).after.settings.spien ≡ true →
    seen x (watched_call x c)
    ≡ happened x.now
    (ops_of (entry_of x.memory (sight_of x.now c) (not (is_quiet x.ledger.wire)) (edges_given x.ledger.wire) c))
    (watched_call x c).now
seen_happened x c v on on' =
    let t : Terms = terms x.now.settings in
    let busy : Bool = not (is_quiet x.ledger.wire) in
    let e : Entry = entry_of x.memory (sight_of x.now c) busy (edges_given x.ledger.wire) c in
    let step = (call_steps ours ours_owes x c v.holds v.tied on').0 in
    let g : Grown t e (port_in x.now) x.ledger =
    grown t (whole_terms x.now.settings) e
    (goes_on x.now.settings on x.memory (sight_of x.now c) refl busy (edges_given x.ledger.wire) c)
    (port_in x.now) x.ledger (v.tied on).words step.legal in
    seen_is g.accepted g.read g.arrived g.lost refl
    (ap
    (λ (b : Bool).
    (watched_call x c).now.settings.spien
    && ltb (length (waiting_in (watched_call x c).now)) (length (waiting_in x.now) + bool_byte b))
    g.accepted)
    (none_owed _ _ _ ((lives_on x c v).tied on').words)

-- Where no word passes no condition is met.
pub quiet_raises : (m : Module) (os : List Op) (after : Module) → counted_in accepts_op (terms m.settings) os (port_in m) ≡ 0 →
    counted_in reads_op (terms m.settings) os (port_in m) ≡ 0 → finishes_in (terms m.settings) os (port_in m) ≡ 0 →
    unread_in after ≡ unread_in m → waiting_in after ≡ waiting_in m → raised m.settings (happened m os after) ≡ false
quiet_raises m os after a r f u w =
    raised_none m.settings (happened m os after) (ap (ltb 0) r)
    (ap (λ (q : List ℕ). ltb (length (unread_in m)) (length q)) u ∙ le-ltb (length (unread_in m)) (length (unread_in m)) (le_refl (length (unread_in m))))
    (and-false after.settings.spien _
    (ap₂ (λ (q : List ℕ) (k : ℕ). ltb (length q) (length (waiting_in m) + bool_byte (ltb 0 k))) w a
    ∙ le-ltb (length (waiting_in m)) (length (waiting_in m) + 0) (omega arith)))
    (ap (ltb 0) f)
    (ap (ltb 0) a)
