-- What the ledger enters of a word call that begins its word (demand 3): one word goes out and one comes in, at the last edge, and none
-- is begun behind it; an edge to the idle level before it enters nothing.
--     word_begins_whole, word_begins_entered   what goes out is what the call tells, and what comes in is the bits that it brought
-- Assumes nothing.
use Rattle.std.specs.Prelude.{◌+◌, ◌*◌, ◌-◌, ◌%◌, ◌^◌, ◌<◌, ◌&&◌, ◌||◌, ◌∷◌, ◌++◌, ◌≡◌}
use Rattle.laws.proofs.Common.{ℕ, suc, Bool, true, false, not, Bool·beq, List, []}
use Rattle.laws.proofs.Common.{refl, sym, ap, ap₂, subst, subst₂, ◌∙◌, arith, not-true, not-false, ltb, lit<}
use Rattle.laws.proofs.Common.{when◌then◌else◌, if_keeps, if_both, if_true, if_false, by_test, clash, and_both, and_right}
use Rattle.laws.proofs.Common.{and_rest, and_first, like}
use Rattle.word_order.specs.Ledger.{Terms, begins, clocks, OnWire, Wire, quiet, busy, is_quiet, fresh, Ledger, with_wire, counted, given, noted_all, loses, left_to_send, first_on_wire}
use Rattle.word_order.specs.Port.{is_under}
use Rattle.word_order.proofs.Order.{tied_agrees}
use Rattle.module_rules.proofs.Types.{Settings, Engine, Module, Progress, Shift, Free, Loaded, Begun, Call, ClockStep}
use Rattle.module_rules.specs.Settings.{framed, silent, own_clock, ssen_client}
use Rattle.module_rules.specs.Registers.{is_free}
use Rattle.module_rules.specs.Buffers.{empty}
use Rattle.module_rules.specs.Loading.{is_begun}
use Rattle.module_rules.specs.Select.{deselected}
use Rattle.module_rules.specs.Edge.{word_edges, begun, awaits_pulse, under_way, shifted, advanced, advanced_if_begun, clocked}
use Rattle.module_rules.specs.Edge as edge
use Rattle.module_rules.specs.Calls.{perform_of, after_calls}
use Rattle.module_rules.specs.Watch.{terms, sight_of, may_begin, sck_of_step, way_of, Watched, watched_call, watched_calls}
use Rattle.module_invariant.proofs.CallsWhen.{not_unlike, unframed_begins}
use Rattle.module_invariant.proofs.FinishWords.{begun_under}
use Rattle.word_rules.specs.Word.{in_progress, current, has_word, idle_first, sdi_at, edges_from, levels_by, idled, edges_of, levels_of, whole_word, word_of}
use Rattle.word_rules.specs.declared.Worded.{Worded}
use Rattle.word_rules.proofs.WordHolds.{begun_pins, own_silent, remembered_once, other_level, Started, started, idle_edge, same_word}
use Rattle.word_rules.proofs.Closed.{behind, remembered}
use Rattle.module_rules.proofs.LivesReach.{watched_reaches}
use Rattle.word_page.proofs.Entered.{Entered}
use Rattle.word_rules.proofs.WordMade.{at, step_edge}
use Rattle.module_order.proofs.Order.{Lives, lives_on}
use Rattle.word_page.proofs.Noted.{closed_over, step_noted, taken_by, taken_behind, Closes, recalled, edge_short, closes, closes_entered}

-- ---- the ledger alone

-- What is on the wire does not count for what the word that is given an edge leaves.
given_over : (t : Terms) (sdo sdi : Bool) (w : OnWire) (q : Wire) (l : Ledger) → given t sdo sdi (busy w) (with_wire q l) ≡ given t sdo sdi (busy w) l
unfolding given
given_over t sdo sdi w q l =
    if_both (λ (a b : Ledger). a ≡ b) (ltb (w.edges + 1) t.last) (ltb (w.edges + 1) t.last) _ _ _ _ refl (λ e. refl)
    (λ e. closed_over t (counted t sdo sdi w) q l)

-- With nothing on the wire a word or filler begins, if any does, and is given the edge.
pub record BeginsAs (t : Terms) (sdo sdi : Bool) (l after : Ledger) : Type 0 where
  pub filler : Bool
  pub marks : filler ≡ not (left_to_send l)
  pub to_it : after ≡ given t sdo sdi (busy (fresh filler)) l

stays_quiet : (t : Terms) (sdo sdi : Bool) (l : Ledger) {A : Type 0} → is_quiet (given t sdo sdi quiet (with_wire quiet l)).wire ≡ false → A
unfolding given
stays_quiet t sdo sdi l h = clash true refl h

begins_so : (t : Terms) (sdo sdi : Bool) (l : Ledger) → is_quiet (given t sdo sdi (first_on_wire t l) (with_wire (first_on_wire t l) l)).wire ≡ false →
    BeginsAs t sdo sdi l (given t sdo sdi (first_on_wire t l) (with_wire (first_on_wire t l) l))
unfolding first_on_wire
begins_so t sdo sdi l =
    let so : Wire → Type 0 = λ q. is_quiet (given t sdo sdi q (with_wire q l)).wire ≡ false → BeginsAs t sdo sdi l (given t sdo sdi q (with_wire q l)) in
    let with-one : (filler : Bool) → filler ≡ not (left_to_send l) → so (busy (fresh filler)) =
    λ filler e h. record { filler = filler; marks = e; to_it = given_over t sdo sdi (fresh filler) _ l } in
    if_keeps so (left_to_send l) _ _ (λ e. with-one false (sym (ap not e)))
    (λ e. if_keeps so t.silent _ _ (λ _. stays_quiet t sdo sdi l) (λ _. with-one true (sym (ap not e))))

quiet_noted : (t : Terms) (b sdo sdi : Bool) (l : Ledger) → l.wire ≡ quiet → b ≡ true →
    noted_all t ((when b then begins ∷ [] else []) ++ (clocks sdo sdi ∷ [])) l ≡ given t sdo sdi (first_on_wire t l) (with_wire (first_on_wire t l) l)
unfolding when◌then◌else◌
quiet_noted t true sdo sdi l e is = rw e refl
quiet_noted t false sdo sdi l e is = clash false is refl

-- A whole word is entered: it goes out as a word that was left to send or as a filler, and what comes in is lost or not as the
-- ledger has it.
abbrev pub Whole : Terms → Ledger → Ledger → Ledger → ℕ → ℕ → Type 0
Whole t l almost after out into =
    Entered l almost after (record { word = out; marked = not (left_to_send l) }) (record { word = into; marked = loses t l })

whole_from : (t : Terms) {l m almost after : Ledger} {out into : ℕ} → l ≡ m → Whole t l almost after out into →
    Whole t m almost after out into
whole_from t e h = rw e at h

-- ---- the module

-- A module that does not rest and has no word under way begins one, or a filler.
record Fresh (s : Settings) (n : Engine) (sh : Shift) : Type 0 where
  filler : Bool
  word : ℕ
  is : begun s n sh ≡ Begun (edge.fresh filler word)

begins_fresh : (s : Settings) (n : Engine) (sh : Shift) → is_begun sh ≡ false → (silent s && is_free sh) ≡ false → Fresh s n sh
unfolding begun
begins_fresh s n Free none loud =
    by_test (ssen_client s && not (empty n.transmit.count))
    (λ e. record { filler = false; word = _; is = if_false (silent s) _ _ quiet_not ∙ if_true (ssen_client s && not (empty n.transmit.count)) _ _ e })
    (λ e. record { filler = true; word = 0; is = if_false (silent s) _ _ quiet_not ∙ if_false (ssen_client s && not (empty n.transmit.count)) _ _ e })
  where
    quiet_not : silent s ≡ false
    quiet_not = by_test (silent s) (λ e. clash (silent s && true) (ap (λ (b : Bool). b && true) e) loud) (λ e. e)
begins_fresh s n (Loaded word) none loud = record { filler = false; word = word; is = refl }
begins_fresh s n (Begun p) none loud = clash true refl none

is_quiet_lem : (q : Wire) → not (is_quiet q) ≡ false → q ≡ quiet
is_quiet_lem quiet e = refl
is_quiet_lem (busy w) e = clash true refl e

unframed_may : (framed-one pulse : Bool) → framed-one ≡ false → (not framed-one || pulse) ≡ true
unframed_may true pulse e = clash true refl e
unframed_may false pulse e = refl

not_quiet : (q : Wire) → not (is_quiet q) ≡ true → is_quiet q ≡ false
not_quiet q e = not-true (is_quiet q) e

abbrev filler_in : Shift → Bool
filler_in Free = false
filler_in (Loaded word) = false
filler_in (Begun p) = p.filler

-- A module with no word begun has none on the wire, and the watcher sees its clock go to the other level.
module _ (s : Settings) (on : s.spien ≡ true) (plain : framed s ≡ false) (ss : Bool) (chosen : deselected s ss ≡ false) (word : ℕ)
    (x : Watched) (n : Engine) (here : x.now ≡ at s n) (h : Lives x) (none : is_begun n.shift ≡ false) where
  no_wire : x.ledger.wire ≡ quiet
  no_wire =
      is_quiet_lem x.ledger.wire
      ((tied_agrees _ _ _ (h.tied (ap (λ (m : Module). m.settings.spien) here ∙ on)).words).under
      ∙ ap (λ (m : Module). is_under (way_of m.engine.shift)) here
      ∙ begun_under n.shift
      ∙ none)

  seen-level : {b : Bool} (c : Call) → Bool·beq (not n.pins.sck) s.con1.ckp ≡ b →
      Bool·beq (sck_of_step (sight_of (at s n) c) x.memory (not n.pins.sck)) s.con1.ckp ≡ b
  seen-level {b} c e =
      if_keeps (λ (a : Bool). Bool·beq a s.con1.ckp ≡ b) (own_clock s) _ _
      (λ own. ap (λ (a : Bool). Bool·beq (not a) s.con1.ckp) (recalled s on plain ss chosen word x n here h) ∙ e)
      (λ pin. e)

module _ (s : Settings) (on : s.spien ≡ true) (plain : framed s ≡ false) (ss : Bool) (chosen : deselected s ss ≡ false) (word : ℕ)
    (x : Watched) (n : Engine) (here : x.now ≡ at s n) (h : Lives x) (none : is_begun n.shift ≡ false)
    (loud : (silent s && is_free n.shift) ≡ false) (idle : n.pins.sck ≡ s.con1.ckp) where
  fresh_is : Fresh s n n.shift
  fresh_is = begins_fresh s n n.shift none loud

  abbrev p : Progress
  p = edge.fresh fresh_is.filler fresh_is.word

  next : (own_clock s && is_free n.shift) ≡ false
  next = own_silent s (is_free n.shift) plain loud

  turns : Bool·beq (not n.pins.sck) s.con1.ckp ≡ false
  turns = ap (Bool·beq (not n.pins.sck)) (sym idle) ∙ not_unlike n.pins.sck

  -- The edge is the word's first.
  advances : (sdi : Bool) →
      (perform_of (at s n) (ClockStep (not n.pins.sck) sdi ss)).after
      ≡ at s (advanced s sdi p (clocked (not n.pins.sck) (remembered s ss n)))
  unfolding under_way remembered advanced_if_begun clocked
  advances sdi =
      let r : Engine = remembered s ss n in
      step_edge s on plain ss chosen n sdi next
      ∙ ap (λ (a : Shift). at s (advanced_if_begun s sdi a (clocked (not n.pins.sck) r)))
      (if_false (Bool·beq (not n.pins.sck) s.con1.ckp) _ _ turns
      ∙ if_false (awaits_pulse s r) _ _ (unframed_begins s r plain)
      ∙ begun_pins s n n.pins.sck _ n.shift
      ∙ fresh_is.is)

  abbrev sdi : Bool
  sdi = sdi_at s 0 word

  abbrev c : Call
  c = ClockStep (not n.pins.sck) sdi ss

  abbrev y : Watched
  y = watched_call x c

  -- The watcher sees that a word may begin.
  may : may_begin s x.memory (sight_of (at s n) c).shown (sck_of_step (sight_of (at s n) c) x.memory (not n.pins.sck)) ≡ true
  may = and_both _ _ (ap not (seen-level s on plain ss chosen word x n here h none c turns)) (unframed_may _ _ plain)

  first : y.ledger ≡ given (terms s) n.pins.sdo sdi (first_on_wire (terms s) x.ledger) (with_wire (first_on_wire (terms s) x.ledger) x.ledger)
  first =
      step_noted s on plain ss chosen x n sdi here (recalled s on plain ss chosen word x n here h) next
      ∙ quiet_noted (terms s) _ n.pins.sdo sdi x.ledger (no_wire s on plain ss chosen word x n here h none) may

  -- Its first edge is not its last.
  abbrev later : Engine
  later = shifted s sdi p (clocked (not n.pins.sck) (remembered s ss n))

  more_edges : 1 < word_edges s
  more_edges = if_keeps (λ (w : ℕ). 1 < 2 * w) s.con1.mode16 _ _ (λ e. lit< tt) (λ e. lit< tt)

  all_edges : 0 + suc (word_edges s - 1) ≡ word_edges s
  all_edges = omega (arith, more_edges)

  two_edges : 0 + suc (suc (word_edges s - 2)) ≡ word_edges s
  two_edges = omega (arith, more_edges)

  there : y.now ≡ at s later
  unfolding remembered
  there =
      ap (λ (m : Module). (perform_of m c).after) here
      ∙ edge_short s on plain ss chosen word (word_edges s - 2) n (when own_clock s then n.pins.ss else ss) p (advances sdi) two_edges

  under-way : not (is_quiet y.ledger.wire) ≡ true
  unfolding shifted
  under-way =
      (tied_agrees _ _ _ ((lives_on x c h).tied (ap (λ (m : Module). m.settings.spien) there ∙ on)).words).under
      ∙ ap (λ (m : Module). is_under (way_of m.engine.shift)) there

  begins-it : BeginsAs (terms s) n.pins.sdo sdi x.ledger y.ledger
  begins-it =
      rw first (begins_so (terms s) n.pins.sdo sdi x.ledger (rw first at (not_quiet y.ledger.wire under-way)))

  closed-so : Closes (terms s) x.ledger (watched_calls x (edges_from s ss n.pins.sck 0 (word_edges s - 1) word)).ledger
      (watched_calls x (edges_from s ss n.pins.sck 0 (suc (word_edges s - 1)) word)).ledger (fresh begins-it.filler)
      (levels_by s ss n.pins.sck 0 (suc (word_edges s - 1)) word 0 (at s n))
      (taken_by s 0 (suc (word_edges s - 1)) word 0)
  unfolding remembered
  closed-so =
      closes s on plain ss chosen word (word_edges s - 1) x n (when own_clock s then n.pins.ss else ss) p (fresh begins-it.filler) here h begins-it.to_it refl
      (advances sdi)
      (remembered_once (own_clock s) n.pins.ss ss)
      all_edges

  current-is : current s n ≡ p
  unfolding current
  current-is = ap in_progress fresh_is.is

  -- What the ledger enters of it.
  fresh_entered : Whole (terms s) x.ledger (watched_calls x (edges_from s ss n.pins.sck 0 (word_edges s - 1) word)).ledger
      (watched_calls x (edges_from s ss n.pins.sck 0 (suc (word_edges s - 1)) word)).ledger
      (levels_by s ss n.pins.sck 0 (suc (word_edges s - 1)) word 0 (at s n)) (behind s word 0 0)
  fresh_entered =
      rw (begins-it.marks, taken_behind s (suc (word_edges s - 1)) 0 word 0 all_edges) at
      (closes_entered s x.ledger _ _ (fresh begins-it.filler) _ _ closed-so)

  -- The same by the calls and the levels of the word call.
  none_given : (current s n).edges ≡ 0
  none_given = ap (λ (a : Progress). a.edges) current-is

  all_left : word_edges s - (current s n).edges ≡ suc (word_edges s - 1)
  all_left = omega (arith, more_edges, none_given)

  pub fresh_edges : edges_of (at s n) ss word ≡ edges_from s ss n.pins.sck 0 (suc (word_edges s - 1)) word
  fresh_edges = ap₂ (λ (k j : ℕ). edges_from s ss n.pins.sck k j word) none_given all_left

  levels-are : levels_of (at s n) ss word ≡ levels_by s ss n.pins.sck 0 (suc (word_edges s - 1)) word 0 (at s n)
  levels-are = ap₂ (λ (k j : ℕ). levels_by s ss n.pins.sck k j word 0 (at s n)) none_given all_left

  pub fresh_word_lem : Whole (terms s) x.ledger (watched_calls x (edges_from s ss n.pins.sck 0 (word_edges s - 1) word)).ledger
      (watched_calls x (edges_of (at s n) ss word)).ledger (levels_of (at s n) ss word) (behind s word (current s n).edges 0)
  fresh_word_lem = rw (fresh_edges, levels-are, none_given) fresh_entered

-- An edge to the idle level with nothing begun: the module's clock moves, and the ledger enters nothing.
idle_noted : (t : Terms) (b sdo sdi : Bool) (l : Ledger) → l.wire ≡ quiet → b ≡ false →
    noted_all t ((when b then begins ∷ [] else []) ++ (clocks sdo sdi ∷ [])) l ≡ l
unfolding when◌then◌else◌ given
idle_noted t true sdo sdi l e is = clash true refl is
idle_noted t false sdo sdi l e is = ap (λ (q : Wire). given t sdo sdi q l) e

module _ (s : Settings) (on : s.spien ≡ true) (plain : framed s ≡ false) (ss : Bool) (chosen : deselected s ss ≡ false) (word : ℕ)
    (x : Watched) (n : Engine) (here : x.now ≡ at s n) (h : Lives x) (none : is_begun n.shift ≡ false)
    (loud : (silent s && is_free n.shift) ≡ false) (turned : Bool·beq (not n.pins.sck) s.con1.ckp ≡ true) where
  abbrev idler : Call
  idler = ClockStep (not n.pins.sck) (sdi_at s 0 word) ss

  abbrev r : Engine
  r = clocked (not n.pins.sck) (remembered s ss n)

  pub moved : (perform_of (at s n) idler).after ≡ at s r
  moved = idle_edge s n ss on plain chosen loud none turned _

  enters_none : (watched_call x idler).ledger ≡ x.ledger
  enters_none =
      step_noted s on plain ss chosen x n (sdi_at s 0 word) here (recalled s on plain ss chosen word x n here h) (own_silent s (is_free n.shift) plain loud)
      ∙ idle_noted (terms s) _ n.pins.sdo (sdi_at s 0 word) x.ledger (no_wire s on plain ss chosen word x n here h none)
      (and_first _ _ (ap not (seen-level s on plain ss chosen word x n here h none idler turned)))

  pub idle_edges : edges_of (at s r) ss word ≡ edges_from s ss r.pins.sck 0 (suc (word_edges s - 1)) word
  unfolding clocked remembered
  idle_edges =
      fresh_edges s on plain ss chosen word (watched_call x idler) r (ap (λ (m : Module). (perform_of m idler).after) here ∙ moved) (lives_on x idler h) none loud
      (like _ _ turned)

  pub idle_word : Whole (terms s) x.ledger
      (watched_calls (watched_call x idler) (edges_from s ss r.pins.sck 0 (word_edges s - 1) word)).ledger
      (watched_calls (watched_call x idler) (edges_of (at s r) ss word)).ledger (levels_of (at s r) ss word)
      (behind s word (current s r).edges 0)
  unfolding clocked remembered
  idle_word =
      whole_from (terms s) enters_none
      (fresh_word_lem s on plain ss chosen word (watched_call x idler) r (ap (λ (m : Module). (perform_of m idler).after) here ∙ moved) (lives_on x idler h) none loud
      (like _ _ turned))

-- ---- the word call

is_unbegun : (sh : Shift) (q : Wire) → q ≡ quiet → not (is_quiet q) ≡ is_under (way_of sh) → is_begun sh ≡ false
is_unbegun sh q e a = sym (begun_under sh) ∙ sym a ∙ ap (λ (p : Wire). not (is_quiet p)) e

module _ (x : Watched) (ss : Bool) (word : ℕ) (h : Lives x) (has : has_word x.now ss ≡ true) (wire : x.ledger.wire ≡ quiet) where
  abbrev s : Settings
  s = x.now.settings

  abbrev n : Engine
  n = x.now.engine

  start : Started x.now ss
  start = started x.now ss has

  unbegun : is_begun n.shift ≡ false
  unbegun = is_unbegun n.shift x.ledger.wire wire (tied_agrees _ _ _ (h.tied start.on).words).under

  pub whole : word_of x.now ss word ≡ whole_word x.now ss word
  unfolding word_of
  whole = if_true (has_word x.now ss) _ _ has

  -- The edges of the word but the last, from a module that has SCK at the idle level.
  abbrev pub almost_from : Module → List Call
  almost_from m = edges_from s ss m.engine.pins.sck 0 (word_edges s - 1) word

  -- What the ledger enters of the steps, by the module that they find.
  abbrev Enters : Watched → Module → ℕ → Type 0
  Enters z m k =
      (edges_of m ss word ≡ edges_from s ss m.engine.pins.sck 0 (suc (word_edges s - 1)) word)
      × Whole (terms s) x.ledger (watched_calls z (almost_from m)).ledger (watched_calls z (edges_of m ss word)).ledger
      (levels_of m ss word) (behind s word k 0)

  abbrev EntersAfter : List Call → Type 0
  EntersAfter cs = Enters (watched_calls x cs) (after_calls x.now cs) (current s n).edges

  idle_then : Bool·beq (not n.pins.sck) s.con1.ckp ≡ true →
      EntersAfter (ClockStep (not n.pins.sck) (sdi_at s 0 word) ss ∷ [])
  unfolding current
  idle_then turned =
      let one : Call = ClockStep (not n.pins.sck) (sdi_at s 0 word) ss in
      subst₂ (λ (m : Module) (q : Progress). Enters (watched_call x one) m q.edges)
      (sym (moved s start.on start.plain ss start.chosen word x n refl h unbegun start.loud turned))
      (same_word s n (not n.pins.sck) ss) (
        idle_edges s start.on start.plain ss start.chosen word x n refl h unbegun start.loud turned,
        idle_word s start.on start.plain ss start.chosen word x n refl h unbegun start.loud turned,
      )

  enters-all : EntersAfter (idled x.now ss word)
  unfolding idle_first
  enters-all =
      by_test (idle_first s n)
      (λ e.
      let turned : Bool·beq (not n.pins.sck) s.con1.ckp ≡ true =
      other_level n.pins.sck s.con1.ckp (not-true _ (and_right (not (is_begun n.shift)) _ e)) in
      subst EntersAfter (sym (if_true (idle_first s n) _ _ e)) (idle_then turned))
      (λ e.
      let idle : n.pins.sck ≡ s.con1.ckp =
      like _ _ (not-false (Bool·beq n.pins.sck s.con1.ckp) (and_rest (not (is_begun n.shift)) _ e (ap not unbegun))) in
      subst EntersAfter (sym (if_false (idle_first s n) _ _ e)) (
        fresh_edges s start.on start.plain ss start.chosen word x n refl h unbegun start.loud idle,
        fresh_word_lem s start.on start.plain ss start.chosen word x n refl h unbegun start.loud idle,
      ))

  -- Its edges, from where SCK is idle.
  pub edges_now : edges_of (after_calls x.now (idled x.now ss word)) ss word
      ≡ edges_from s ss (after_calls x.now (idled x.now ss word)).engine.pins.sck 0 (suc (word_edges s - 1)) word
  edges_now = enters-all.0

  -- What goes out is what the call tells, and what comes in is what it brought.
  pub word_begins_whole :
      let first = idled x.now ss word in let there = after_calls x.now first in
      Whole (terms s) x.ledger (watched_calls (watched_calls x first) (almost_from there)).ledger
      (watched_calls (watched_calls x first) (edges_of there ss word)).ledger (word_of x.now ss word).levels
      (word % 2 ^ (word_of x.now ss word).count)
  unfolding whole_word behind
  word_begins_whole =
      let only : (k : ℕ) → 0 * 2 ^ k + word % 2 ^ k ≡ word % 2 ^ k = λ k. omega arith in
      subst₂ (Whole (terms s) x.ledger _ _) (sym (ap (λ (r : Worded). r.levels) whole))
      (only _ ∙ ap (λ (r : Worded). word % 2 ^ r.count) (sym whole))
      enters-all.1

  -- The same, by the ledger's entries.
  abbrev pub ready : Watched
  ready = watched_calls x (idled x.now ss word)

  pub word_begins_entered : Entered x.ledger (watched_calls ready (almost_from (after_calls x.now (idled x.now ss word)))).ledger
      (watched_calls ready (edges_of ready.now ss word)).ledger
      (record { word = (word_of x.now ss word).levels; marked = not (left_to_send x.ledger) })
      (record { word = word % 2 ^ (word_of x.now ss word).count; marked = loses (terms s) x.ledger })
  word_begins_entered =
      subst
      (λ (m : Module). Entered x.ledger (watched_calls ready (almost_from (after_calls x.now (idled x.now ss word)))).ledger
      (watched_calls ready (edges_of m ss word)).ledger
      (record { word = (word_of x.now ss word).levels; marked = not (left_to_send x.ledger) })
      (record { word = word % 2 ^ (word_of x.now ss word).count; marked = loses (terms s) x.ledger }))
      (sym (watched_reaches (idled x.now ss word) x))
      word_begins_whole
