-- The demands on a word at a time hold.
--     made_under, made_first   a word that is under way, and one that begins with the call
--     made                     every word that the page asks for
--     word_calls_hold          the page, whole
-- Assumes nothing.
use Rattle.std.specs.Prelude.{◌+◌, ◌*◌, ◌-◌, ◌%◌, ◌^◌, ◌<◌, ◌&&◌, ◌||◌, ◌∷◌, ◌++◌, ◌≡◌}
use Rattle.laws.proofs.Common.{ℕ, zero, suc, Bool, true, false, not, List, []}
use Rattle.laws.proofs.Common.{append_assoc, refl, sym, ap, subst, subst₂, ◌∙◌, arith, lt-ltb, le-ltb, lit<}
use Rattle.laws.proofs.Common.{length, length-append, when◌then◌else◌, if_keeps, if_true, if_false, by_test, clash, and_both}
use Rattle.laws.proofs.Common.{and-false, and_first}
use Rattle.word_order.specs.Ledger.{OnWire, Wire, quiet, busy, is_quiet, carries_filler, Passed, Ledger, left_to_send, loses, sent}
use Rattle.module_rules.proofs.Types.{Settings, Engine, Module, Outcome, Shift, Free, Loaded, Begun, Done, Call, ClockStep}
use Rattle.module_rules.specs.Settings.{framed, silent, ssen_client}
use Rattle.module_rules.specs.Registers.{is_free}
use Rattle.module_rules.specs.Refusals.{said_of}
use Rattle.module_rules.specs.Select.{deselected}
use Rattle.module_rules.specs.Edge.{word_edges, begun}
use Rattle.module_rules.specs.InBits.{room, heeds_select}
use Rattle.module_rules.specs.Words.{unfinished, left_buffer, waiting_in, owed_words}
use Rattle.module_rules.specs.Invariant.{ShiftHolds}
use Rattle.module_rules.specs.Buffers.{empty}
use Rattle.module_rules.specs.Calls.{refuse, clock_step_of, perform_of, after_calls}
use Rattle.module_rules.specs.Watch.{terms, Watched, watched_call, watched_calls}
use Rattle.module_rules.specs.Lives.{life}
use Rattle.module_rules.proofs.LivesReach.{watched_reaches, reaches_append}
use Rattle.module_rules.proofs.BuffersOrder.{waiting_length}
use Rattle.module_rules.proofs.ClockSteps.{clock_steps_lem}
use Rattle.module_order.proofs.Order.{Lives, life_holds}
use Rattle.word_rules.specs.declared.Worded.{Worded}
use Rattle.word_rules.specs.Word.{in_progress, current, resting, has_word, idle_first, sdi_at, edges_from, idled, edges_of, whole_word, one_step, word_of, steps_of}
use Rattle.word_rules.specs.WordDemands.{AllSteps, shown_so, seen_so, WordMade, WordCalls}
use Rattle.word_rules.proofs.WordHolds.{started, single_step, steps_leave}
use Rattle.word_page.proofs.Entered.{Entered}
use Rattle.word_page.proofs.Noted as noted
use Rattle.word_page.proofs.Begins as begins
use Rattle.word_page.proofs.EdgesOwed.{edges_owed_lem}

-- ---- lists of steps

watched_append : (cs ds : List Call) (x : Watched) → watched_calls x (cs ++ ds) ≡ watched_calls (watched_calls x cs) ds
watched_append [] ds x = refl
watched_append (c ∷ cs) ds x = watched_append cs ds (watched_call x c)

-- Edges are those before the last and the last.
record Ended (short all : List Call) : Type 0 where
  last : Call
  is : all ≡ short ++ (last ∷ [])

edges_end : (s : Settings) (ss sck : Bool) (k i word : ℕ) → Ended (edges_from s ss sck k i word) (edges_from s ss sck k (suc i) word)
edges_end s ss sck k zero word = record { last = ClockStep (not sck) (sdi_at s k word) ss; is = refl }
edges_end s ss sck k (suc i) word =
    let rest = edges_end s ss (not sck) (k + 1) i word in
    record { last = rest.last; is = ap (λ (l : List Call). ClockStep (not sck) (sdi_at s k word) ss ∷ l) rest.is }

edges_steps : (s : Settings) (ss sck : Bool) (k i word : ℕ) → AllSteps ss (edges_from s ss sck k i word)
edges_steps s ss sck k zero word = tt
edges_steps s ss sck k (suc i) word = (refl, edges_steps s ss (not sck) (k + 1) i word)

both_steps : (ss : Bool) (cs ds : List Call) → AllSteps ss cs → AllSteps ss ds → AllSteps ss (cs ++ ds)
both_steps ss [] ds a b = b
both_steps ss (c ∷ cs) ds a b = (a.0, both_steps ss cs ds a.1 b)

-- ---- a word made

-- What the ledger enters of the steps of a word, before the last of them and with it.
module _ (x : Watched) (ss : Bool) (word : ℕ) (has : has_word x.now ss ≡ true) where
  abbrev r : Worded
  r = word_of x.now ss word

  -- What goes out and what comes in, with a word on the wire that has had these levels.
  abbrev out : ℕ → Bool → Passed
  out shown filler = record { word = shown * 2 ^ r.count + r.levels; marked = filler }

  abbrev into : ℕ → Passed
  into seen = record { word = seen * 2 ^ r.count + word % 2 ^ r.count; marked = loses (terms x.now.settings) x.ledger }

  whole : r ≡ whole_word x.now ss word
  unfolding word_of
  whole = if_true (has_word x.now ss) _ _ has

  done : r.answer ≡ Done
  unfolding whole_word
  done = ap (λ (o : Worded). o.answer) whole

  -- What the ledger enters, by what is on the wire before.
  abbrev EnteredBy : Ledger → Ledger → Wire → Type 0
  EnteredBy almost after q =
      Entered x.ledger almost after (out (shown_so q) (when is_quiet q then not (left_to_send x.ledger) else carries_filler q))
      (into (seen_so q))

  made_of : (steps all : List Call) → Ended steps all → AllSteps ss all → r.after ≡ (watched_calls x all).now → (q : Wire) →
      x.ledger.wire ≡ q →
      EnteredBy (watched_calls x steps).ledger (watched_calls x all).ledger q → WordMade x ss word
  made_of steps all e each leaves q wire entered =
      let is = e.is in
      let l = subst (EnteredBy _ _) (sym wire) entered in
      record {
        steps = steps;
        last = e.last;
        all = subst (AllSteps ss) is each;
        done = done;
        leaves = leaves ∙ ap (λ (cs : List Call). (watched_calls x cs).now) is;
        none_yet = l.still;
        departs = sym (ap (λ (cs : List Call). (watched_calls x cs).ledger.departures) is) ∙ l.departures;
        arrives = sym (ap (λ (cs : List Call). (watched_calls x cs).ledger.arrivals) is) ∙ l.arrivals;
        accepted = sym (ap (λ (cs : List Call). (watched_calls x cs).ledger.accepted) is) ∙ l.accepted;
        read = sym (ap (λ (cs : List Call). (watched_calls x cs).ledger.read) is) ∙ l.read;
        none_begun = ap is_quiet (sym (ap (λ (cs : List Call). (watched_calls x cs).ledger.wire) is) ∙ l.wire);
      }

-- A word under way.
made_under : (x : Watched) (ss : Bool) (word : ℕ) (w : OnWire) → Lives x → x.now.settings.spien ≡ true → framed x.now.settings ≡ false →
    deselected x.now.settings ss ≡ false → x.ledger.wire ≡ busy w → WordMade x ss word
unfolding when◌then◌else◌
made_under x ss word w h on plain chosen wire =
    let s = x.now.settings in
    let sck = x.now.engine.pins.sck in
    let under = noted.under x ss word w h on plain chosen wire in
    let k = under.p.edges in
    let i = word_edges s - k - 1 in
    let end = edges_end s ss sck k i word in
    let entered = noted.word_entered x ss word w h on plain chosen wire in
    let are = noted.edges_are x ss word w h on plain chosen wire in
    made_of x ss word (noted.has x ss word w h on plain chosen wire) (edges_from s ss sck k i word) (edges_of x.now ss word)
    (record { last = end.last; is = are ∙ end.is })
    (subst (AllSteps ss) (sym are) (edges_steps s ss sck k (suc i) word))
    (sym entered.0) (busy w) wire entered.1

-- A word that begins with the call.
idled_steps : (m : Module) (ss : Bool) (word : ℕ) → AllSteps ss (idled m ss word)
idled_steps m ss word = if_keeps (AllSteps ss) (idle_first m.settings m.engine) _ _ (λ e. (refl, tt)) (λ e. tt)

-- The same with the steps as one list, behind no levels.
behind_none : (k v : ℕ) → v ≡ 0 * 2 ^ k + v
behind_none k v = omega arith

first_entered : (x : Watched) (ss : Bool) (word : ℕ) (h : Lives x) (has : has_word x.now ss ≡ true) → x.ledger.wire ≡ quiet →
    let first = idled x.now ss word in
    let there : Module = after_calls x.now first in
    let short = edges_from x.now.settings ss there.engine.pins.sck 0 (word_edges x.now.settings - 1) word in
    let k = (word_of x.now ss word).count in
    begins.Whole (terms x.now.settings) x.ledger (watched_calls x (first ++ short)).ledger
    (watched_calls x (first ++ edges_of there ss word)).ledger
    (0 * 2 ^ k + (word_of x.now ss word).levels) (0 * 2 ^ k + word % 2 ^ k)
first_entered x ss word h has wire =
    let first = idled x.now ss word in
    let k = (word_of x.now ss word).count in
    let after : (cs : List Call) → (watched_calls (watched_calls x first) cs).ledger ≡ (watched_calls x (first ++ cs)).ledger =
    λ cs. sym (ap (λ (y : Watched). y.ledger) (watched_append first cs x)) in
    subst₂
    (λ (a b : Ledger). begins.Whole (terms x.now.settings) x.ledger a b (0 * 2 ^ k + (word_of x.now ss word).levels)
    (0 * 2 ^ k + word % 2 ^ k))
    (after _) (after _)
    (subst₂ (begins.Whole (terms x.now.settings) x.ledger _ _) (behind_none k (word_of x.now ss word).levels)
    (behind_none k (word % 2 ^ k))
    (begins.word_begins_whole x ss word h has wire))

made_first : (x : Watched) (ss : Bool) (word : ℕ) → Lives x → has_word x.now ss ≡ true → x.ledger.wire ≡ quiet → WordMade x ss word
unfolding whole_word when◌then◌else◌
made_first x ss word h has wire =
    let s = x.now.settings in
    let first = idled x.now ss word in
    let there : Module = after_calls x.now first in
    let i = word_edges s - 1 in
    let short = edges_from s ss there.engine.pins.sck 0 i word in
    let end = edges_end s ss there.engine.pins.sck 0 i word in
    let are = begins.edges_now x ss word h has wire in
    made_of x ss word has (first ++ short) (first ++ edges_of there ss word)
    (record {
      last = end.last;
      is = ap (λ (cs : List Call). first ++ cs) (are ∙ end.is) ∙ sym (append_assoc first short (end.last ∷ []));
    })
    (both_steps ss first (edges_of there ss word) (idled_steps x.now ss word)
    (subst (AllSteps ss) (sym are) (edges_steps s ss there.engine.pins.sck 0 (suc i) word)))
    (ap (λ (o : Worded). o.after) (whole x ss word has)
    ∙ sym
    (watched_reaches (first ++ edges_of there ss word) x ∙ reaches_append first (edges_of there ss word) x.now))
    quiet wire (first_entered x ss word h has wire)

-- ---- which modules make one

-- A module with a free shift register that heeds no select has no word to send.
none_owed : (s : Settings) (n : Engine) (sh : Shift) → ShiftHolds s n sh → heeds_select s ≡ false → is_free sh ≡ true →
    (length (unfinished s sh) ≡ 0) × (n.transmit.count ≡ 0)
none_owed s n Free holds deaf free = (refl, holds.0 deaf)
none_owed s n (Loaded word) holds deaf free = clash false free refl
none_owed s n (Begun p) holds deaf free = clash false free refl

none_to_send : (x : Watched) → Lives x → x.now.settings.spien ≡ true → heeds_select x.now.settings ≡ false → is_free x.now.engine.shift ≡ true →
    left_to_send x.ledger ≡ false
unfolding left_to_send
none_to_send x h on deaf free =
    let none = none_owed x.now.settings x.now.engine x.now.engine.shift h.holds.holds.shift deaf free in
    let all = ap length (h.tied on).words.sending ∙ length-append (sent x.ledger) (owed_words x.now) in
    let parts = length-append (left_buffer x.now) (waiting_in x.now) in
    let waits = waiting_length (room x.now.settings) x.now.engine.transmit in
    le-ltb (length (sent x.ledger)) (length x.ledger.accepted) (omega (arith, all, parts, waits, none.0, none.1))

-- Its word, if one is under way, is within its edges.
some_edges : (s : Settings) → 0 < word_edges s
some_edges s = if_keeps (λ (w : ℕ). 0 < 2 * w) s.con1.mode16 _ _ (λ e. lit< tt) (λ e. lit< tt)

within : (s : Settings) (n : Engine) (sh : Shift) → ShiftHolds s n sh → (in_progress (begun s n sh)).edges < word_edges s
unfolding begun
within s n Free holds =
    let short : Shift → Type 0 = λ y. (in_progress y).edges < word_edges s in
    if_keeps short (silent s) _ _ (λ _. some_edges s)
    (λ _. if_keeps short (ssen_client s && not (empty n.transmit.count)) _ _ (λ _. some_edges s) (λ _. some_edges s))
within s n (Loaded word) holds = some_edges s
within s n (Begun p) holds = holds.short

-- A module that the page asks for has a word to make.
module _ (x : Watched) (ss : Bool) (word : ℕ) (h : Lives x) (on : x.now.settings.spien ≡ true) (plain : x.now.settings.con2.frmen ≡ false)
    (chosen : (heeds_select x.now.settings && ss) ≡ false)
    (some : x.now.settings.con1.msten ≡ true → left_to_send x.ledger ≡ true) where
  abbrev s : Settings
  s = x.now.settings

  abbrev n : Engine
  n = x.now.engine

  loud : (silent s && is_free n.shift) ≡ false
  loud =
      by_test s.con1.msten
      (λ host.
      by_test (is_free n.shift)
      (λ free.
      clash (left_to_send x.ledger) (some host)
      (none_to_send x h on (ap (λ (b : Bool). not b && (not s.con2.frmen && s.con1.ssen)) host) free))
      (λ taken. and-false (silent s) _ taken))
      (λ client. and_first _ _ (if_false s.con2.frmen _ _ plain ∙ client))

  has : has_word x.now ss ≡ true
  unfolding has_word resting current
  has =
      and_both _ _ (and_both _ _ on (ap not plain))
      (and_both _ _ (ap not (ap (λ (b : Bool). b || (silent s && is_free n.shift)) chosen ∙ loud))
      (lt-ltb _ _ (within s n n.shift h.holds.holds.shift)))

  by-wire : (q : Wire) → x.ledger.wire ≡ q → WordMade x ss word
  by-wire quiet e = made_first x ss word h has e
  by-wire (busy w) e = made_under x ss word w h on plain chosen e

  made : WordMade x ss word
  made = by-wire x.ledger.wire refl

-- ---- refusals

refused_so : (m : Module) (ss : Bool) (word : ℕ) → (said_of (word_of m ss word).answer).number ≡ (when m.settings.spien then 0 else 2)
unfolding one_step whole_word word_of
refused_so m ss word =
    by_test (has_word m ss)
    (λ has.
    ap (λ (o : Worded). (said_of o.answer).number) (if_true (has_word m ss) _ _ has) ∙ sym (if_true m.settings.spien _ _ (started m ss has).on))
    (λ none. ap (λ (o : Worded). (said_of o.answer).number) (if_false (has_word m ss) _ _ none) ∙ (clock_steps_lem m).refused _ _ _)

unchanged_so : (m : Module) (ss : Bool) (word : ℕ) → m.settings.spien ≡ false → (word_of m ss word).after ≡ m
unfolding one_step has_word perform_of clock_step_of refuse
unchanged_so m ss word off =
    ap (λ (o : Worded). o.after) (single_step m ss word (and_first _ _ (and_first _ _ off)))
    ∙ ap (λ (o : Outcome). o.after) (if_true (not m.settings.spien) _ _ (ap not off))

-- ---- the call is its clock steps

steps_so : (m : Module) (ss : Bool) (word : ℕ) → AllSteps ss (steps_of m ss word)
unfolding steps_of
steps_so m ss word =
    let first = idled m ss word in
    let there : Module = after_calls m first in
    let k = (current there.settings there.engine).edges in
    if_keeps (AllSteps ss) (has_word m ss) _ _
    (λ has.
    both_steps ss first (edges_of there ss word) (idled_steps m ss word)
    (edges_steps there.settings ss there.engine.pins.sck k (word_edges there.settings - k) word))
    (λ none. (refl, tt))

pub word_calls_hold : WordCalls
word_calls_hold =
    record {
      refused_exactly = refused_so;
      refused_unchanged = unchanged_so;
      stands = λ m ss word. (steps_so m ss word, steps_leave m ss word);
      made = λ b cs ss word on plain chosen some. made (life b cs) ss word (life_holds b cs) on plain chosen some;
      owes = λ b cs on own. edges_owed_lem (life b cs) (life_holds b cs) on own;
    }
