-- What the ledger enters of the edges of a word that are made at once (demand 3): one word goes out and one comes in, at the last
-- edge, and none is begun behind it.
--     closes         the edges that a word still takes, from the first that is given to it, close it at the last
--     word_entered   a word call on a module with a word under way is those edges; what goes out ends in the levels that it tells, and
--                    what comes in ends in the bits that it brought
-- Assumes nothing.
use Rattle.std.specs.Prelude.{◌+◌, ◌*◌, ◌-◌, ◌%◌, ◌^◌, ◌<◌, ◌&&◌, ◌||◌, ◌∷◌, ◌++◌, ◌≡◌}
use Rattle.laws.proofs.Common.{ℕ, zero, suc, Bool, true, false, not, Bool·beq, List}
use Rattle.laws.proofs.Common.{[], refl, sym, ap, ap₂, subst, subst₂, ◌∙◌, pow-succ', arith, lt-ltb, le-ltb}
use Rattle.laws.proofs.Common.{ltb, when◌then◌else◌, so_lt, if_keeps, if_true, if_false, if_ap, by_test, and_left, and_both}
use Rattle.laws.proofs.Common.{and_first, and-false}
use mir.Val.{bool_byte}
use Rattle.word_order.specs.Bits.{spelled}
use Rattle.word_order.specs.Ledger.{Terms, Policy, drops_new, replaces_old, Passed, with_passed, landed, Op, begins, clocks, OnWire, Wire, quiet, busy, Ledger, with_wire, counted, closed, given, noted_all, loses}
use Rattle.word_order.specs.Machine.{Entry, entered}
use Rattle.word_order.proofs.WordBits.{spelled_last}
use Rattle.word_order.proofs.Tied.{SameWord, Carries}
use Rattle.module_rules.proofs.Types.{Settings, Engine, Module, Progress, Shift, Free, Loaded, Begun, Outcome, Call, ClockStep}
use Rattle.module_rules.specs.Changes.{with_ss}
use Rattle.module_rules.specs.Settings.{width_of, framed, silent, own_clock, clock_stops, cke_of}
use Rattle.module_rules.specs.Registers.{is_free}
use Rattle.module_rules.specs.Refusals.{is_done}
use Rattle.module_rules.specs.Loading.{is_begun}
use Rattle.module_rules.specs.Select.{deselected}
use Rattle.module_rules.specs.Bits.{samples, progressed}
use Rattle.module_rules.specs.Edge.{word_edges, begun, awaits_pulse, under_way, shifted, advanced, advanced_if_begun, clocked}
use Rattle.module_rules.specs.Calls.{answering, perform_of, after_calls}
use Rattle.module_rules.specs.Watch.{terms, Sight, sight_of, Memory, deaf, may_begin, edge_ops, level_ops, sck_of_step, ss_of_tick, ss_of_step, way_of, port_in, Watched, watched_call, watched_calls}
use Rattle.module_rules.proofs.LivesReach.{watched_reaches}
use Rattle.module_rules.proofs.ClockSteps.{step_own, step_pin}
use Rattle.module_invariant.proofs.Sampling.{sampled_all}
use Rattle.module_invariant.proofs.CallsWhen.{not_unlike}
use Rattle.word_page.proofs.Entered.{Entered}
use Rattle.word_rules.specs.declared.Worded.{Worded}
use Rattle.word_rules.specs.Word.{in_progress, current, resting, has_word, idle_first, bits_left, sdi_at, edges_from, level_on, levels_by, idled, edges_of, levels_of, whole_word, word_of}
use Rattle.word_rules.proofs.Closed.{behind, remembered}
use Rattle.word_rules.proofs.Values.{left_is, fewer, as_many, none_behind, levels_on}
use Rattle.word_rules.proofs.WordHolds.{remembered_once}
use Rattle.word_rules.proofs.WordMade.{at, step_edge}
use Rattle.module_order.proofs.Order.{Lives, lives_on}

-- ---- the ledger alone

-- With a word on the wire nothing else begins.
under_noted : (t : Terms) (b sdo sdi : Bool) (w : OnWire) (l : Ledger) → l.wire ≡ busy w →
    noted_all t ((when b then begins ∷ [] else []) ++ (clocks sdo sdi ∷ [])) l ≡ given t sdo sdi (busy w) l
unfolding when◌then◌else◌ given closed loses
under_noted t true sdo sdi w l e = rw e refl
under_noted t false sdo sdi w l e = ap (λ (q : Wire). given t sdo sdi q l) e

-- An edge short of the last, and the last.
pub edge_on : (t : Terms) (sdo sdi : Bool) (w : OnWire) (l : Ledger) → w.edges + 1 < t.last →
    given t sdo sdi (busy w) l ≡ with_wire (busy (counted t sdo sdi w)) l
unfolding given
edge_on t sdo sdi w l h = if_true (ltb (w.edges + 1) t.last) _ _ (lt-ltb _ _ h)

edge_last : (t : Terms) (sdo sdi : Bool) (w : OnWire) (l : Ledger) → w.edges + 1 ≡ t.last →
    given t sdo sdi (busy w) l ≡ closed t (counted t sdo sdi w) l
unfolding given
edge_last t sdo sdi w l e = if_false (ltb (w.edges + 1) t.last) _ _ (le-ltb (w.edges + 1) t.last (omega arith))

-- What is on the wire when it closes does not count for what is entered.
landed_over : (o : Policy) (lost : Bool) (word : ℕ) (q : Wire) (l : Ledger) → landed o lost word (with_wire q l) ≡ landed o lost word l
landed_over (drops_new e) lost word q l = refl
landed_over replaces_old lost word q l = refl

pub closed_over : (t : Terms) (u : OnWire) (q : Wire) (l : Ledger) → closed t u (with_wire q l) ≡ closed t u l
unfolding closed loses
closed_over t u q l =
    ap (λ (into : List Passed). with_wire quiet (with_passed (l.departures ++ (record { word = spelled 0 u.shown; marked = u.filler } ∷ [])) into l))
    (landed_over t.policy (loses t l) (spelled 0 u.seen) q l)

-- The number that the levels so far spell grows as a word call's does.
spelled_on : (b : Bool) (bits : List Bool) (level : Bool) →
    spelled 0 (when b then bits ++ (level ∷ []) else bits) ≡ (when b then spelled 0 bits * 2 + bool_byte level else spelled 0 bits)
unfolding when◌then◌else◌
spelled_on true bits level = spelled_last bits 0 level
spelled_on false bits level = refl

module _ (s : Settings) (sdo sdi : Bool) (w : OnWire) where
  abbrev next : OnWire
  next = counted (terms s) sdo sdi w

  counted-edges : next.edges ≡ w.edges + 1
  unfolding counted
  counted-edges = if_keeps (λ (u : OnWire). u.edges ≡ w.edges + 1) (samples (cke_of s) (w.edges + 1)) _ _ (λ e. refl) (λ e. refl)

  pub counted_filler : next.filler ≡ w.filler
  unfolding counted
  counted_filler = if_keeps (λ (u : OnWire). u.filler ≡ w.filler) (samples (cke_of s) (w.edges + 1)) _ _ (λ e. refl) (λ e. refl)

  counted-shown : spelled 0 next.shown ≡ level_on s w.edges sdo (spelled 0 w.shown)
  unfolding counted level_on
  counted-shown = ap (spelled 0) (if_ap (λ (u : OnWire). u.shown) (samples (cke_of s) (w.edges + 1)) _ _) ∙ spelled_on _ w.shown sdo

  counted-seen : spelled 0 next.seen ≡ level_on s w.edges sdi (spelled 0 w.seen)
  unfolding counted level_on
  counted-seen = ap (spelled 0) (if_ap (λ (u : OnWire). u.seen) (samples (cke_of s) (w.edges + 1)) _ _) ∙ spelled_on _ w.seen sdi

-- ---- an edge, watched

module _ (s : Settings) (on : s.spien ≡ true) (plain : framed s ≡ false) (ss : Bool) (chosen : deselected s ss ≡ false) where
  -- A module that has a next edge makes it.
  step_done : (n : Engine) (sdi : Bool) → (own_clock s && is_free n.shift) ≡ false →
      is_done (perform_of (at s n) (ClockStep (not n.pins.sck) sdi ss)).answer ≡ true
  unfolding perform_of answering
  step_done n sdi moves =
      by_test (own_clock s)
      (λ own.
      let busy-one : is_free n.shift ≡ false = sym (ap (λ (b : Bool). b && is_free n.shift) own) ∙ moves in
      ap (λ (o : Outcome). is_done o.answer) (step_own (at s n) (not n.pins.sck) sdi ss on own (and-false (clock_stops s) _ busy-one)))
      (λ pin. ap (λ (o : Outcome). is_done o.answer) (step_pin (at s n) (not n.pins.sck) sdi ss on pin))

  -- Its select does not deafen it.
  hears : (level : Bool) → deaf s (when own_clock s then level else ss) ≡ false
  hears level =
      by_test (own_clock s)
      (λ own. and_first _ _ (and_first _ _ (ap not (and_left s.con1.msten _ own))))
      (λ pin. ap (deaf s) (if_false (own_clock s) _ _ pin) ∙ chosen)

  -- The watcher sees an edge.
  sees-edge : (v : Sight) (x : Memory) (sck sdi : Bool) → deaf v.settings (ss_of_step v x ss) ≡ false → x.sck ≡ sck →
      level_ops v x (sck_of_step v x (not sck)) sdi (ss_of_step v x ss) ≡ edge_ops v x (sck_of_step v x (not sck)) sdi
  sees-edge v x sck sdi heard same =
      if_false (deaf v.settings (ss_of_step v x ss)) _ _ heard
      ∙ if_false (Bool·beq (sck_of_step v x (not sck)) x.sck) _ _
      (if_keeps (λ (a : Bool). Bool·beq a x.sck ≡ false) (own_clock v.settings) _ _ (λ e. not_unlike x.sck)
      (λ e. ap (λ (a : Bool). Bool·beq (not a) x.sck) (sym same) ∙ not_unlike x.sck))

  -- What the ledger enters of it, and with a word on the wire: that word is given the edge.
  pub step_noted : (x : Watched) (n : Engine) (sdi : Bool) → x.now ≡ at s n → x.memory.sck ≡ n.pins.sck →
      (own_clock s && is_free n.shift) ≡ false →
      let c : Call = ClockStep (not n.pins.sck) sdi ss in
      let v : Sight = sight_of (at s n) c in
      (watched_call x c).ledger ≡ noted_all (terms s) (edge_ops v x.memory (sck_of_step v x.memory (not n.pins.sck)) sdi) x.ledger
  step_noted x n sdi e same moves =
      let c : Call = ClockStep (not n.pins.sck) sdi ss in
      let l : Ledger = x.ledger in
      let v : Sight = sight_of (at s n) c in
      ap (λ (m : Module). (watched_call (record { now = m; memory = x.memory; ledger = l }) c).ledger) e
      ∙ ap (λ (q : Entry). entered (terms s) q l) (if_true (is_done v.answer) _ _ (step_done n sdi moves))
      ∙ ap (λ (os : List Op). noted_all (terms s) os l) (sees-edge v x.memory n.pins.sck sdi (hears (ss_of_tick v x.memory ss)) same)

  step-ledger : (x : Watched) (n : Engine) (w : OnWire) (sdi : Bool) → x.now ≡ at s n → x.memory.sck ≡ n.pins.sck → x.ledger.wire ≡ busy w →
      (own_clock s && is_free n.shift) ≡ false →
      (watched_call x (ClockStep (not n.pins.sck) sdi ss)).ledger ≡ given (terms s) n.pins.sdo sdi (busy w) x.ledger
  step-ledger x n w sdi e same wire moves =
      let v : Sight = sight_of (at s n) (ClockStep (not n.pins.sck) sdi ss) in
      step_noted x n sdi e same moves
      ∙ under_noted (terms s) (may_begin s x.memory v.shown (sck_of_step v x.memory (not n.pins.sck))) n.pins.sdo sdi w x.ledger wire

-- ---- all edges of a word

-- The bits of the caller's word at the edges that sample, behind a number.
unfoldable pub taken_by : Settings → ℕ → ℕ → ℕ → ℕ → ℕ
taken_by s k zero word x = x
taken_by s k (suc i) word x = taken_by s (k + 1) i word (level_on s k (sdi_at s k word) x)

-- One word is entered, as the last edge leaves it, and none before that edge.
pub record Closes (t : Terms) (l almost after : Ledger) (w : OnWire) (levels taken : ℕ) : Type 0 where
  pub still : (almost.departures ≡ l.departures) × (almost.arrivals ≡ l.arrivals)
  pub last : OnWire
  pub ledger : after ≡ closed t last l
  pub filler : last.filler ≡ w.filler
  pub shown : spelled 0 last.shown ≡ levels
  pub seen : spelled 0 last.seen ≡ taken

module _ (s : Settings) (on : s.spien ≡ true) (plain : framed s ≡ false) (ss : Bool) (chosen : deselected s ss ≡ false) (word : ℕ) where
  -- The watcher remembers the clock.
  pub recalled : (x : Watched) (n : Engine) → x.now ≡ at s n → Lives x → x.memory.sck ≡ n.pins.sck
  recalled x n e h =
      (h.tied (ap (λ (m : Module). m.settings.spien) e ∙ on)).recalls.sck ∙ ap (λ (m : Module). m.engine.pins.sck) e

  -- The first of these edges is given to that word, by the ledger and by the module, which remembers the select level that it is told.
  abbrev pub GivenTo : Watched → Engine → ℕ → OnWire → Type 0
  GivenTo x n k w =
      (watched_call x (ClockStep (not n.pins.sck) (sdi_at s k word) ss)).ledger
      ≡ given (terms s) n.pins.sdo (sdi_at s k word) (busy w) x.ledger

  abbrev pub Advances : Engine → Bool → Progress → Type 0
  Advances n level p =
      (perform_of (at s n) (ClockStep (not n.pins.sck) (sdi_at s p.edges word) ss)).after
      ≡ at s (advanced s (sdi_at s p.edges word) p (clocked (not n.pins.sck) (with_ss level n)))

  -- An edge short of the last leaves the word begun, and so the next edge is its own.
  pub edge_short : (i : ℕ) (n : Engine) (level : Bool) (p : Progress) → Advances n level p → p.edges + suc (suc i) ≡ word_edges s →
      (perform_of (at s n) (ClockStep (not n.pins.sck) (sdi_at s p.edges word) ss)).after
      ≡ at s (shifted s (sdi_at s p.edges word) p (clocked (not n.pins.sck) (with_ss level n)))
  unfolding advanced
  edge_short i n level p first h = first ∙ ap (at s) (sym (so_lt (p.edges + 1) (word_edges s) _ _ (omega arith) refl))

  pub goes_on : (n : Engine) (p : Progress) (sdi : Bool) → n.shift ≡ Begun p →
      (perform_of (at s n) (ClockStep (not n.pins.sck) sdi ss)).after
      ≡ at s (advanced s sdi p (clocked (not n.pins.sck) (remembered s ss n)))
  unfolding under_way begun remembered advanced_if_begun
  goes_on n p sdi e =
      let r : Engine = remembered s ss n in
      step_edge s on plain ss chosen n sdi (and-false (own_clock s) _ (ap is_free e))
      ∙ ap (λ (x : Shift). at s (advanced_if_begun s sdi x (clocked (not n.pins.sck) r)))
      (if_keeps (λ (x : Shift). x ≡ Begun p) (Bool·beq (not n.pins.sck) s.con1.ckp) _ _ (λ i. e)
      (λ a. if_keeps (λ (x : Shift). x ≡ Begun p) (awaits_pulse s r) _ _ (λ w. e) (λ w. ap (begun s r) e)))

  pub closes : (i : ℕ) (x : Watched) (n : Engine) (level : Bool) (p : Progress) (w : OnWire) → x.now ≡ at s n → Lives x →
      GivenTo x n p.edges w → w.edges ≡ p.edges → Advances n level p → (when own_clock s then level else ss) ≡ level →
      p.edges + suc i ≡ word_edges s →
      Closes (terms s) x.ledger (watched_calls x (edges_from s ss n.pins.sck p.edges i word)).ledger
      (watched_calls x (edges_from s ss n.pins.sck p.edges (suc i) word)).ledger w
      (levels_by s ss n.pins.sck p.edges (suc i) word (spelled 0 w.shown) (at s n))
      (taken_by s p.edges (suc i) word (spelled 0 w.seen))
  unfolding shifted progressed clocked taken_by remembered
  closes zero x n level p w e h to_it k first heard short =
      let sdi : Bool = sdi_at s p.edges word in
      record {
        still = (refl, refl);
        last = counted (terms s) n.pins.sdo sdi w;
        ledger = to_it ∙ edge_last (terms s) n.pins.sdo sdi w x.ledger (omega arith);
        filler = counted_filler s n.pins.sdo sdi w;
        shown = counted-shown s n.pins.sdo sdi w ∙ ap (λ (j : ℕ). level_on s j n.pins.sdo (spelled 0 w.shown)) k;
        seen = counted-seen s n.pins.sdo sdi w ∙ ap (λ (j : ℕ). level_on s j sdi (spelled 0 w.seen)) k;
      }
  closes (suc i) x n level p w e h to_it k first heard short =
      let sdi : Bool = sdi_at s p.edges word in
      let c : Call = ClockStep (not n.pins.sck) sdi ss in
      let t : Terms = terms s in
      let y : Watched = watched_call x c in
      let u : OnWire = counted t n.pins.sdo sdi w in
      let later : Engine = shifted s sdi p (clocked (not n.pins.sck) (with_ss level n)) in
      let q : Progress = progressed s sdi p in
      let made : (perform_of (at s n) c).after ≡ at s later = edge_short i n level p first short in
      let entered_so : y.ledger ≡ with_wire (busy u) x.ledger = to_it ∙ edge_on t n.pins.sdo sdi w x.ledger (omega arith) in
      let there = ap (λ (m : Module). (perform_of m c).after) e ∙ made in
      let free : (own_clock s && is_free later.shift) ≡ false = and-false (own_clock s) _ refl in
      let rest =
      closes i y later level q u there (lives_on x c h)
      (step-ledger s on plain ss chosen y later u _ there (recalled y later there (lives_on x c h)) (ap (λ (a : Ledger). a.wire) entered_so) free)
      (counted-edges s n.pins.sdo sdi w ∙ ap (λ (j : ℕ). j + 1) k)
      (goes_on later q _ refl ∙ ap (λ (b : Bool). at s (advanced s (sdi_at s q.edges word) q (clocked (not later.pins.sck) (with_ss b later)))) heard)
      heard
      (omega arith) in
      record {
        still =
            (rest.still.0 ∙ ap (λ (a : Ledger). a.departures) entered_so, rest.still.1 ∙ ap (λ (a : Ledger). a.arrivals) entered_so);
        last = rest.last;
        ledger = rest.ledger ∙ ap (closed t rest.last) entered_so ∙ closed_over t rest.last (busy u) x.ledger;
        filler = rest.filler ∙ counted_filler s n.pins.sdo sdi w;
        shown =
            rest.shown
            ∙ ap (λ (a : ℕ). levels_by s ss (not n.pins.sck) (p.edges + 1) (suc i) word a (at s later))
            (counted-shown s n.pins.sdo sdi w ∙ ap (λ (j : ℕ). level_on s j n.pins.sdo (spelled 0 w.shown)) k)
            ∙ ap (levels_by s ss (not n.pins.sck) (p.edges + 1) (suc i) word _) (sym made);
        seen =
            rest.seen
            ∙ ap (taken_by s (p.edges + 1) (suc i) word)
            (counted-seen s n.pins.sdo sdi w ∙ ap (λ (j : ℕ). level_on s j sdi (spelled 0 w.seen)) k);
      }

-- ---- in closed form

-- All that is taken.
pub taken_behind : (s : Settings) (i k word x : ℕ) → k + i ≡ word_edges s → taken_by s k i word x ≡ behind s word k x
unfolding taken_by sdi_at
taken_behind s zero k word x e = sym (none_behind s word k x (omega arith))
taken_behind s (suc i) k word x e =
    taken_behind s i (k + 1) word _ (omega arith) ∙ levels_on s k (omega arith) word x _ (λ _. refl)

-- The levels behind a number are the number's and then theirs.
pub levels_behind : (s : Settings) (ss : Bool) (word i : ℕ) (sck : Bool) (k x : ℕ) (m : Module) → k + i ≡ word_edges s →
    levels_by s ss sck k i word x m ≡ x * 2 ^ bits_left s k + levels_by s ss sck k i word 0 m
unfolding level_on when◌then◌else◌
levels_behind s ss word zero sck k x m e =
    let all = sampled_all (cke_of s) k (width_of s) (omega arith) in
    let none : bits_left s k ≡ 0 = omega (arith, left_is s k) in
    rw none (omega arith)
levels_behind s ss word (suc i) sck k x m e =
    let later = (perform_of m (ClockStep (not sck) (sdi_at s k word) ss)).after in
    let b : ℕ = bool_byte m.engine.pins.sdo in
    let short : k + 1 + i ≡ word_edges s = omega arith in
    let below : k < word_edges s = omega arith in
    let from : ℕ → ℕ = λ y. levels_by s ss (not sck) (k + 1) i word y later in
    let each : (y : ℕ) → from y ≡ y * 2 ^ bits_left s (k + 1) + from 0 = λ y. levels_behind s ss word i (not sck) (k + 1) y later short in
    by_test (samples (cke_of s) (k + 1))
    (λ samples-it.
    rw (samples-it, fewer s k below samples-it, pow-succ' 2 (bits_left s (k + 1)))
    (omega (arith, each (x * 2 + b), each (0 * 2 + b))))
    (λ changes-it. rw (changes-it, ← as_many s k below changes-it) (each x))

-- ---- the word call

-- What a ledger enters that so closes.
pub closes_entered : (s : Settings) (l almost after : Ledger) (w : OnWire) (levels taken : ℕ) → Closes (terms s) l almost after w levels taken →
    Entered l almost after (record { word = levels; marked = w.filler }) (record { word = taken; marked = loses (terms s) l })
unfolding closed
closes_entered s l almost after w levels taken c =
    record {
      still = c.still;
      departures = ap (λ (a : Ledger). a.departures) c.ledger ∙ cc (c.shown, c.filler);
      arrivals = ap (λ (a : Ledger). a.arrivals) c.ledger ∙ cc c.seen;
      accepted = ap (λ (a : Ledger). a.accepted) c.ledger;
      read = ap (λ (a : Ledger). a.read) c.ledger;
      wire = ap (λ (a : Ledger). a.wire) c.ledger;
    }

-- The word on the wire is the module's.
pub record Carried (t : Terms) (owed : List ℕ) (sh : Shift) (w : OnWire) : Type 0 where
  pub p : Progress
  pub is : sh ≡ Begun p
  pub same : SameWord t owed (record { filler = p.filler; word = p.word; edges = p.edges; received = p.received }) w

pub carried : (t : Terms) (owed : List ℕ) (sh : Shift) (w : OnWire) → Carries t owed (way_of sh) (busy w) → Carried t owed sh w
carried t owed Free w c = absurd c
carried t owed (Loaded word) w c = absurd c
carried t owed (Begun p) w c = record { p = p; is = refl; same = c }

-- Of a word under way: the word call is its list of edges; what goes out is what was shown of it before and then the levels that the call tells; what comes in is what
-- was seen before and then the low bits of the caller's word, lost or not as the ledger has it.
module _ (x : Watched) (ss : Bool) (word : ℕ) (w : OnWire) (h : Lives x) (on : x.now.settings.spien ≡ true) (plain : framed x.now.settings ≡ false)
    (chosen : deselected x.now.settings ss ≡ false) (wire : x.ledger.wire ≡ busy w) where
  abbrev s : Settings
  s = x.now.settings

  abbrev n : Engine
  n = x.now.engine

  pub under : Carried (terms s) (port_in x.now).owed n.shift w
  under =
      carried (terms s) (port_in x.now).owed n.shift w
      (subst (Carries (terms s) (port_in x.now).owed (way_of n.shift)) wire (h.tied on).words.carries)

  abbrev pub p : Progress
  p = under.p

  current-is : current s n ≡ p
  unfolding current begun
  current-is = ap (λ (a : Shift). in_progress (begun s n a)) under.is

  short : p.edges < word_edges s
  short = under.same.short

  left : word_edges s - p.edges ≡ suc (word_edges s - p.edges - 1)
  left = omega (arith, short)

  all_edges : p.edges + suc (word_edges s - p.edges - 1) ≡ word_edges s
  all_edges = omega (arith, short)

  pub has : has_word x.now ss ≡ true
  unfolding has_word resting
  has =
      and_both _ _ (and_both _ _ on (ap not plain))
      (and_both _ _
      (ap not
      (ap (λ (b : Bool). b || (silent s && is_free n.shift)) chosen ∙ and-false (silent s) _ (ap is_free under.is)))
      (lt-ltb (current s n).edges _ (rw current-is short)))

  pub none_idle : idled x.now ss word ≡ []
  unfolding idle_first
  none_idle = if_false (idle_first s n) _ _ (and_first _ _ (ap (λ (a : Shift). not (is_begun a)) under.is))

  whole : word_of x.now ss word ≡ whole_word x.now ss word
  unfolding word_of
  whole = if_true (has_word x.now ss) _ _ has

  pub edges_are : edges_of x.now ss word ≡ edges_from s ss n.pins.sck p.edges (suc (word_edges s - p.edges - 1)) word
  edges_are = cc (current-is, left)

  abbrev pub almost : List Call
  almost = edges_from s ss n.pins.sck p.edges (word_edges s - p.edges - 1) word

  closed-so : Closes (terms s) x.ledger (watched_calls x almost).ledger
      (watched_calls x (edges_from s ss n.pins.sck p.edges (suc (word_edges s - p.edges - 1)) word)).ledger w
      (levels_by s ss n.pins.sck p.edges (suc (word_edges s - p.edges - 1)) word (spelled 0 w.shown) x.now)
      (taken_by s p.edges (suc (word_edges s - p.edges - 1)) word (spelled 0 w.seen))
  unfolding remembered
  closed-so =
      closes s on plain ss chosen word (word_edges s - p.edges - 1) x n (when own_clock s then n.pins.ss else ss) p w refl h
      (step-ledger s on plain ss chosen x n w _ refl (recalled s on plain ss chosen word x n refl h) wire (and-false (own_clock s) _ (ap is_free under.is)))
      under.same.edges
      (goes_on s on plain ss chosen word n p _ under.is)
      (remembered_once (own_clock s) n.pins.ss ss)
      all_edges

  abbrev pub count : ℕ
  count = (word_of x.now ss word).count

  count_is : count ≡ bits_left s p.edges
  unfolding whole_word
  count_is = ap (λ (r : Worded). r.count) whole ∙ ap (λ (q : Progress). bits_left s q.edges) current-is

  levels-are : (word_of x.now ss word).levels ≡ levels_by s ss n.pins.sck p.edges (suc (word_edges s - p.edges - 1)) word 0 x.now
  unfolding whole_word
  levels-are =
      ap (λ (r : Worded). r.levels) whole
      ∙ ap (λ (cs : List Call). levels_of (after_calls x.now cs) ss word) none_idle
      ∙ cc (current-is, left)

  goes-out : levels_by s ss n.pins.sck p.edges (suc (word_edges s - p.edges - 1)) word (spelled 0 w.shown) x.now
      ≡ spelled 0 w.shown * 2 ^ count + (word_of x.now ss word).levels
  goes-out =
      levels_behind s ss word (suc (word_edges s - p.edges - 1)) n.pins.sck p.edges (spelled 0 w.shown) x.now all_edges
      ∙ ap₂ (λ (j y : ℕ). spelled 0 w.shown * 2 ^ j + y) (sym count_is) (sym levels-are)

  comes-in : taken_by s p.edges (suc (word_edges s - p.edges - 1)) word (spelled 0 w.seen) ≡ spelled 0 w.seen * 2 ^ count + word % 2 ^ count
  unfolding behind
  comes-in =
      taken_behind s (suc (word_edges s - p.edges - 1)) p.edges word (spelled 0 w.seen) all_edges
      ∙ ap (λ (j : ℕ). spelled 0 w.seen * 2 ^ j + word % 2 ^ j) (sym count_is)

  pub word_entered : ((watched_calls x (edges_of x.now ss word)).now ≡ (word_of x.now ss word).after)
      × Entered x.ledger (watched_calls x almost).ledger (watched_calls x (edges_of x.now ss word)).ledger
      (record { word = spelled 0 w.shown * 2 ^ count + (word_of x.now ss word).levels; marked = w.filler })
      (record { word = spelled 0 w.seen * 2 ^ count + word % 2 ^ count; marked = loses (terms s) x.ledger })
  unfolding whole_word
  word_entered = (
    watched_reaches (edges_of x.now ss word) x
        ∙ sym
        (ap (λ (r : Worded). r.after) whole
        ∙ ap (λ (cs : List Call). after_calls (after_calls x.now cs) (edges_of (after_calls x.now cs) ss word)) none_idle),
    closes_entered s x.ledger _ _ w _ _
        (rw edges_are (subst₂ (Closes (terms s) x.ledger _ _ w) goes-out comes-in closed-so)),
  )
