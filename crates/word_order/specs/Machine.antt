-- A machine whose words a port stands for, somebody who watches its calls, and what it owes the law of word order.
use Rattle.std.specs.Prelude.{ℕ, Bool, true, false, not, List, [], ◌∷◌, ◌++◌, ◌≡◌}
use Rattle.word_order.specs.Ledger.{Terms, Op, Ledger, opened, noted_all, is_quiet, edges_given, sent, kept}
use Rattle.word_order.specs.Port.{Port, emptied, played_all, LegalAll, Whole, is_under, edges_under}

-- What the watcher writes down for a call: a new ledger, or the operations that were seen.
pub data Entry : Type 0 where
  opens : Entry
  notes : List Op → Entry

abbrev pub entered : Terms → Entry → Ledger → Ledger
entered t opens l = opened
entered t (notes os) l = noted_all t os l

-- A machine and its watcher, by definitions alone.
pub record Watching : Type 1 where
  pub State : Type 0
  pub Call : Type 0
  pub step : State → Call → State
  -- open: its word order is counted
  pub on : State → Bool
  pub terms : State → Terms
  -- its words
  pub port : State → Port
  -- what shows as a call is made: settings, the answer, levels of pins
  pub Sight : Type 0
  pub sight : State → Call → Sight
  -- what the watcher keeps beside the lists, as levels seen or edges counted; it is brought up to date after the entry, when the
  -- ledger says whether a word is on the wire
  pub Memory : Type 0
  pub remembers : Memory → Sight → Bool → Call → Memory
  -- the entry, by that and by what the ledger says of the wire: whether a word is on it, and the edges given to it
  pub entry : Memory → Sight → Bool → ℕ → Call → Entry

pub record Watched (m : Watching) : Type 0 where
  pub now : m.State
  pub memory : m.Memory
  pub ledger : Ledger

abbrev pub ledger_after : (m : Watching) → Watched m → m.Call → Ledger
ledger_after m x c =
    entered (m.terms x.now)
    (m.entry x.memory (m.sight x.now c) (not (is_quiet x.ledger.wire)) (edges_given x.ledger.wire) c)
    x.ledger

abbrev pub watched_call : (m : Watching) → Watched m → m.Call → Watched m
watched_call m x c =
    record {
      now = m.step x.now c;
      memory = m.remembers x.memory (m.sight x.now c) (not (is_quiet (ledger_after m x c).wire)) c;
      ledger = ledger_after m x c;
    }

abbrev pub watched_calls : (m : Watching) → Watched m → List m.Call → Watched m
watched_calls m x [] = x
watched_calls m x (c ∷ cs) = watched_calls m (watched_call m x c) cs

-- Demand 3: the accepted words are those fully sent, then those that the machine still owes; the received words less those lost are
-- those read, then those unread.
pub record InOrder (m : Watching) (x : Watched m) : Type 0 where
  pub sending : x.ledger.accepted ≡ sent x.ledger ++ (m.port x.now).owed
  pub receiving : kept x.ledger ≡ x.ledger.read ++ (m.port x.now).unread

-- A call of a machine that leaves it open: the entry opens the ledger and the machine has no words; or the machine was open, under the
-- same terms, the entry is legal, and the machine's words are those that its operations leave.
abbrev pub follows : Terms → Entry → Port → Port
follows t opens p = emptied
follows t (notes os) p = played_all t os p

abbrev pub LegalEntry : Terms → Entry → Port → Type 0
LegalEntry t opens p = Unit {0}
LegalEntry t (notes os) p = LegalAll t os p

abbrev pub is_opening : Entry → Bool
is_opening opens = true
is_opening (notes os) = false

pub record Step (t later : Terms) (was : Bool) (e : Entry) (p after : Port) : Type 0 where
  pub ports : after ≡ follows t e p
  pub legal : LegalEntry t e p
  pub stays : is_opening e ≡ false → (was ≡ true) × (later ≡ t)

-- What the ledger knows of its wire is what the port knows of its word under way.
pub record Agrees (p : Port) (busy : Bool) (edges : ℕ) : Type 0 where
  pub under : busy ≡ is_under p.way
  pub given : edges ≡ edges_under p.way

-- What a machine owes the law: an invariant that calls keep, words that pass whole, and one obligation a call.
pub record Machine (m : Watching) : Type 1 where
  pub Holds : m.State → Type 0
  -- how the watcher's memory hangs together with the machine
  pub Recalls : m.State → m.Memory → Type 0
  pub keeps : (s : m.State) (c : m.Call) → Holds s → Holds (m.step s c)
  pub whole : (s : m.State) → Holds s → Whole (m.terms s)
  pub steps : (s : m.State) (c : m.Call) (x : m.Memory) (under : Bool) (edges : ℕ) → Holds s →
      (m.on s ≡ true → Agrees (m.port s) under edges × Recalls s x) → m.on (m.step s c) ≡ true →
      Step (m.terms s) (m.terms (m.step s c)) (m.on s) (m.entry x (m.sight s c) under edges c) (m.port s) (m.port (m.step s c))
      × ((later : Bool) → later ≡ is_under (m.port (m.step s c)).way →
      Recalls (m.step s c) (m.remembers x (m.sight s c) later c))
