-- Flags and levels by the ledger.
--     losses_seen, finishes_seen   what a call loses and finishes shows in the ledger
--     wire_is                      what the ledger has on its wire is the character that has begun
--     sdo_due                      the output shows the bit that is due
--     waits_seen, left_seen        what waits, and whether anything is to be sent
-- Assumes nothing.
use Rattle.std.specs.Prelude.{◌-◌, ◌≤◌, ◌&&◌, ◌||◌, ◌∷◌, ◌++◌, ◌≡◌, Option, Some, None}
use Rattle.laws.proofs.Common.{ℕ, suc, and-true, Bool, true, false, not, List, refl}
use Rattle.laws.proofs.Common.{sym, ap, ◌∙◌, arith, eqb-true, eqb-false, ne_eqb, lt-ltb, le-ltb, eqb, ltb, length, drop}
use Rattle.laws.proofs.Common.{when◌then◌else◌, and-false, or_rest_first, if_true, if_false, by_test}
use lib.Seq.{drop-append_seam}
use Rattle.word_order.specs.Bits.{bit_of}
use Rattle.word_order.specs.Ledger.{Terms, Wire, quiet, busy, Ledger, opened, sent, lost_of, is_quiet, edges_given, carries_filler}
use Rattle.word_order.specs.Port.{idle, sends, Port, Whole, losses_in, finishes_in}
use Rattle.word_order.specs.Machine.{Entry, opens, notes, entered, LegalEntry}
use Rattle.word_order.proofs.Tied.{Carries, Tied}
use Rattle.word_order.proofs.Counts.{lost_ops, arrived_ops, grew}
use Rattle.ti_rules.specs.declared.Settings.{Settings}
use Rattle.ti_rules.specs.declared.Character.{Character}
use Rattle.ti_rules.specs.declared.Engine.{Engine}
use Rattle.ti_rules.specs.Characters.{is_full, is_free, fresh}
use Rattle.ti_rules.specs.Edge.{under_way}
use Rattle.ti_rules.specs.Watch.{in_buffer, unsent, under_of, way_of, port_of, terms_of}
use Rattle.ti_rules.specs.Flags.{grew_lost, grew_finished, left_over, first_of, current, some_wait, shown_at}
use Rattle.ti_order.proofs.Invariant.{ShiftHolds, bit_zero}
use Rattle.ti_order.proofs.Machine.{ops_of}

-- An entry and the ledger.
module _ (t : Terms) (w : Whole t) (p : Port) (l : Ledger) (h : Tied t p l) where
  pub losses_seen : (e : Entry) → LegalEntry t e p → ltb 0 (losses_in t (ops_of e) p) ≡ grew_lost l (entered t e l)
  unfolding opened
  losses_seen opens legal = sym (le-ltb (lost_of l) 0 (omega arith))
  losses_seen (notes os) legal = sym (ap (ltb (lost_of l)) (lost_ops t w os p l h legal) ∙ grew (lost_of l) _)

  pub finishes_seen : (e : Entry) → LegalEntry t e p → ltb 0 (finishes_in t (ops_of e) p) ≡ grew_finished l (entered t e l)
  unfolding opened
  finishes_seen opens legal = sym (le-ltb (length l.arrivals) 0 (omega arith))
  finishes_seen (notes os) legal =
      sym (ap (ltb (length l.arrivals)) (arrived_ops t w os p l h legal) ∙ grew (length l.arrivals) _)

-- What was accepted and is not sent is what the port owes.
pub left_owed : (t : Terms) (p : Port) (l : Ledger) → Tied t p l → left_over l ≡ p.owed
left_owed t p l h = ap (drop (length (sent l))) h.sending ∙ drop-append_seam (sent l) p.owed

-- What is on the wire.
pub record WireIs (wire : Wire) (c : Character) : Type 0 where
  pub moving : not (is_quiet wire) ≡ ltb 0 c.edges
  pub given : edges_given wire ≡ c.edges
  pub filler : carries_filler wire ≡ (c.zeros && ltb 0 c.edges)

idle_wire : (t : Terms) (owed : List ℕ) (c : Character) → c.edges ≡ 0 → (wire : Wire) → Carries t owed idle wire → WireIs wire c
idle_wire t owed c e quiet k =
    let none : ltb 0 c.edges ≡ false = ap (ltb 0) e in
    record { moving = sym none; given = sym e; filler = rw none (sym (and-false c.zeros _ refl)) }
idle_wire t owed c e (busy x) k = absurd k

busy_wire : (t : Terms) (owed : List ℕ) (c : Character) → 1 ≤ c.edges → (wire : Wire) → Carries t owed (sends (under_of c)) wire → WireIs wire c
busy_wire t owed c e quiet k = absurd k
busy_wire t owed c e (busy x) k =
    let some : ltb 0 c.edges ≡ true = lt-ltb 0 c.edges e in
    record { moving = sym some; given = k.edges; filler = k.filler ∙ rw some (sym (and-true c.zeros)) }

pub wire_is : (t : Terms) (owed : List ℕ) (sh : Option Character) (wire : Wire) → Carries t owed (way_of sh) wire → WireIs wire (under_way sh)
unfolding way_of
wire_is t owed None wire k = idle_wire t owed (fresh true 0) refl wire k
wire_is t owed (Some c) wire k =
    by_test (eqb c.edges 0)
    (λ e. idle_wire t owed c (eqb-true c.edges 0 e) wire (rw (if_true (eqb c.edges 0) _ _ e) at k))
    (λ e.
    let some : c.edges ≡ 0 → ⊥ = eqb-false c.edges 0 e in
    busy_wire t owed c (omega arith) wire (rw (if_false (eqb c.edges 0) _ _ e) at k))

-- A module out of reset and its ledger.
module _ (s : Settings) (n : Engine) (l : Ledger) (h : ShiftHolds s n n.shift) (tied : Tied (terms_of s) (port_of n) l) where
  is : WireIs l.wire (under_way n.shift)
  is = wire_is (terms_of s) (port_of n).owed n.shift l.wire tied.carries

  left : left_over l ≡ unsent n.shift ++ in_buffer n.waiting
  left = left_owed (terms_of s) (port_of n) l tied

  -- What each shift register says of the wire and of what is left.
  abbrev Due : Option Character → Type 0
  Due sh =
      (s.phase || ltb 0 (under_way sh).edges) ≡ true →
      n.pins.sdo ≡ bit_of (current l) (s.length - 1 - shown_at s.phase (under_way sh).edges)

  due : (sh : Option Character) → ShiftHolds s n sh → carries_filler l.wire ≡ ((under_way sh).zeros && ltb 0 (under_way sh).edges) →
      left_over l ≡ unsent sh ++ in_buffer n.waiting → Due sh
  unfolding current when◌then◌else◌
  due None k filler left e =
      rw (filler, left ∙ ap in_buffer k.0) (k.1 (or_rest_first s.phase _ e refl) ∙ sym (bit_zero _))
  due (Some c) k filler left e =
      k.shows e ∙ ap (λ (x : ℕ). bit_of x (s.length - 1 - shown_at s.phase c.edges)) (sym (bits c.zeros refl))
    where
      bits : (z : Bool) → c.zeros ≡ z → (when carries_filler l.wire then 0 else first_of (left_over l)) ≡ c.bits
      bits true z = rw (filler, z, lt-ltb 0 c.edges (k.begun z)) (sym (k.nought z))
      bits false z = rw (filler, left, z)

  pub sdo_due : (s.phase || not (is_quiet l.wire)) ≡ true →
      n.pins.sdo ≡ bit_of (current l) (s.length - 1 - shown_at s.phase (edges_given l.wire))
  sdo_due e = rw is.given (due n.shift h is.filler left (rw is.moving at e))

  -- What waits, and whether anything is to be sent.
  waits : (sh : Option Character) (w : Option ℕ) → ShiftHolds s (record { waiting = w; shift = sh; unread = n.unread; pins = n.pins; overrun = n.overrun }) sh →
      carries_filler l.wire ≡ ((under_way sh).zeros && ltb 0 (under_way sh).edges) → left_over l ≡ unsent sh ++ in_buffer w →
      is_full w ≡ some_wait l
  unfolding some_wait when◌then◌else◌
  waits None None k filler left = rw (filler, left)
  waits None (Some x) k filler left =
      let z : ◌≡◌ {A = ℕ} 1 0 = ap (λ (b : Option ℕ). length (in_buffer b)) k.0 in absurd (omega arith)
  waits (Some c) w k filler left =
      by_test c.zeros (λ z. rw (filler, left, z, lt-ltb 0 c.edges (k.begun z)) (one w)) (λ z. rw (filler, left, z) (two w))
    where
      one : (b : Option ℕ) → is_full b ≡ ltb 0 (length (in_buffer b))
      one None = refl
      one (Some x) = refl

      two : (b : Option ℕ) → is_full b ≡ ltb 1 (length (c.bits ∷ in_buffer b))
      two None = refl
      two (Some x) = refl

  pub waits_seen : is_full n.waiting ≡ some_wait l
  waits_seen = waits n.shift n.waiting h is.filler left

  pub left_seen : s.master ≡ true → is_free n.shift ≡ eqb (length (left_over l)) 0
  left_seen own = go n.shift h left
    where
      go : (sh : Option Character) → ShiftHolds s n sh → left_over l ≡ unsent sh ++ in_buffer n.waiting → is_free sh ≡ eqb (length (left_over l)) 0
      go None k left = rw (left ∙ ap in_buffer k.0)
      go (Some c) k left =
          rw (left, if_false c.zeros _ _ (k.own own))
          (sym (ne_eqb (suc (length (in_buffer n.waiting))) 0 (λ z. omega arith)))
