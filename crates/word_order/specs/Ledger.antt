-- The history of one port since it was opened, kept in plain lists by somebody who watches what passes and never looks into the
-- port's buffers or its shift register. What must be known of a port is the record Terms. What happens to its words is a list of
-- operations, which the watcher makes of calls, answers and levels. Nothing here knows registers, polarities, select or frames: an
-- edge that a port does not count is no operation, and one that carries no bit is an edge that is not sampled.
use Rattle.std.specs.Prelude.{ℕ, zero, suc, ◌+◌, ◌-◌, Bool, true, false, ◌&&◌, ◌||◌, List, [], ◌∷◌, ◌++◌, ltb, leb, length}
use mir.Val.{bool_byte}
use Rattle.laws.specs.Choice.{when◌then◌else◌}
use Rattle.word_order.specs.Bits.{spelled}

-- Which word is lost when a received one finds the buffer full: the new one, after which, if so said, nothing more is received; or
-- the first unread one, which makes room for the new one.
pub data Policy : Type 0 where
  drops_new : Bool → Policy
  replaces_old : Policy

pub record Terms : Type 0 where
  -- the bits of a word
  pub width : ℕ
  -- the words that the receive buffer holds
  pub depth : ℕ
  -- which word is lost
  pub policy : Policy
  -- the edges of a word, counted from 1, at which SDO and SDI are sampled
  pub samples : ℕ → Bool
  -- the edge that finishes a word
  pub last : ℕ
  -- whether nothing begins if no word is left to send; else a filler does
  pub silent : Bool

-- What happens to words.
pub data Op : Type 0 where
  -- a word was accepted
  accepts : ℕ → Op
  -- a word was read
  reads : ℕ → Op
  -- a word or filler may begin, unless one is on the wire
  begins : Op
  -- the word on the wire, if any, is given an edge, with the levels SDO and SDI
  clocks : Bool → Bool → Op
  -- the word on the wire, if any, is taken off and is still to be sent
  forgets : Op

-- A word on the wire: a filler or not, the edges it was given, and the levels of SDO and SDI at its sampled edges so far, first bit
-- first.
pub record OnWire : Type 0 where
  pub filler : Bool
  pub edges : ℕ
  pub shown : List Bool
  pub seen : List Bool

pub data Wire : Type 0 where
  quiet : Wire
  busy : OnWire → Wire

abbrev pub is_quiet : Wire → Bool
is_quiet quiet = true
is_quiet (busy w) = false

abbrev pub edges_given : Wire → ℕ
edges_given quiet = 0
edges_given (busy w) = w.edges

abbrev pub carries_filler : Wire → Bool
carries_filler quiet = false
carries_filler (busy w) = w.filler

-- A word that passed the pins whole, and its mark: of one that went out, that it was a filler; of one that came in, that it is lost.
pub record Passed : Type 0 where
  pub word : ℕ
  pub marked : Bool

-- The lists, oldest first.
pub record Ledger : Type 0 where
  pub accepted : List ℕ
  pub departures : List Passed
  pub arrivals : List Passed
  pub read : List ℕ
  pub wire : Wire

-- The port was opened: nothing has happened.
unfoldable pub opened : Ledger
opened = record { accepted = []; departures = []; arrivals = []; read = []; wire = quiet }

-- Changes, by the field.
abbrev pub with_accepted : List ℕ → Ledger → Ledger
with_accepted x l = record { accepted = x; departures = l.departures; arrivals = l.arrivals; read = l.read; wire = l.wire }

abbrev pub with_passed : List Passed → List Passed → Ledger → Ledger
with_passed out into l = record { accepted = l.accepted; departures = out; arrivals = into; read = l.read; wire = l.wire }

abbrev pub with_read : List ℕ → Ledger → Ledger
with_read x l = record { accepted = l.accepted; departures = l.departures; arrivals = l.arrivals; read = x; wire = l.wire }

abbrev pub with_wire : Wire → Ledger → Ledger
with_wire x l = record { accepted = l.accepted; departures = l.departures; arrivals = l.arrivals; read = l.read; wire = x }

-- The words that passed, marked or not.
abbrev pub words_of : List Passed → List ℕ
words_of [] = []
words_of (a ∷ rest) = a.word ∷ words_of rest

-- The words without a mark: those fully sent, and those received and not lost.
abbrev pub unmarked : List Passed → List ℕ
unmarked [] = []
unmarked (a ∷ rest) = when a.marked then unmarked rest else a.word ∷ unmarked rest

abbrev pub sent : Ledger → List ℕ
sent l = unmarked l.departures

abbrev pub kept : Ledger → List ℕ
kept l = unmarked l.arrivals

-- How many words were lost.
abbrev pub marked_in : List Passed → ℕ
marked_in [] = 0
marked_in (a ∷ rest) = bool_byte a.marked + marked_in rest

abbrev pub lost_of : Ledger → ℕ
lost_of l = marked_in l.arrivals

-- The words accepted and not sent.
abbrev pub unsent : Ledger → ℕ
unsent l = length l.accepted - length (sent l)

-- A word is left to send: more were accepted than sent.
unfoldable pub left_to_send : Ledger → Bool
left_to_send l = ltb (length (sent l)) (length l.accepted)

-- Whether nothing more is received once a word was lost.
abbrev pub ends : Policy → Bool
ends (drops_new e) = e
ends replaces_old = false

-- A word is lost as another comes in: the words kept and not read are as many as the buffer holds, or one was lost where nothing
-- more is received then.
unfoldable pub loses : Terms → Ledger → Bool
loses t l = leb (length l.read + t.depth) (length (kept l)) || (ends t.policy && ltb 0 (lost_of l))

-- The unmarked word number `k`, from 0, gets its mark.
abbrev pub spoiled_from : Bool → ℕ → Passed → List Passed → (ℕ → List Passed) → List Passed
spoiled_from true k a rest others = a ∷ others k
spoiled_from false zero a rest others = record { word = a.word; marked = true } ∷ rest
spoiled_from false (suc k) a rest others = a ∷ others k

abbrev pub spoiled : List Passed → ℕ → List Passed
spoiled [] k = []
spoiled (a ∷ rest) k = spoiled_from a.marked k a rest (spoiled rest)

-- The arrivals once `word` has come in, a word being lost or not.
abbrev pub landed : Policy → Bool → ℕ → Ledger → List Passed
landed (drops_new e) lost word l = l.arrivals ++ (record { word = word; marked = lost } ∷ [])
landed replaces_old lost word l =
    (when lost then spoiled l.arrivals (length l.read) else l.arrivals) ++ (record { word = word; marked = false } ∷ [])

-- A word that begins: the next accepted word, or a filler if none is left and the port is not silent then.
abbrev pub fresh : Bool → OnWire
fresh filler = record { filler = filler; edges = 0; shown = []; seen = [] }

unfoldable pub first_on_wire : Terms → Ledger → Wire
first_on_wire t l = when left_to_send l then busy (fresh false) else when t.silent then quiet else busy (fresh true)

abbrev pub begun_on : Terms → Ledger → Wire → Wire
begun_on t l quiet = first_on_wire t l
begun_on t l (busy w) = busy w

-- The word at its next edge: one more is counted, and a sampled edge adds the levels of SDO and SDI.
unfoldable pub counted : Terms → Bool → Bool → OnWire → OnWire
counted t sdo sdi w =
    when t.samples (w.edges + 1)
    then record { filler = w.filler; edges = w.edges + 1; shown = w.shown ++ (sdo ∷ []); seen = w.seen ++ (sdi ∷ []) }
    else record { filler = w.filler; edges = w.edges + 1; shown = w.shown; seen = w.seen }

-- A word at its last edge: it has gone out whole, a filler or not, and the other end's word has come in.
unfoldable pub closed : Terms → OnWire → Ledger → Ledger
closed t w l =
    with_wire quiet
    (with_passed (l.departures ++ (record { word = spelled 0 w.shown; marked = w.filler } ∷ []))
    (landed t.policy (loses t l) (spelled 0 w.seen) l)
    l)

-- The word on the wire is given an edge: it counts at its last edge and no sooner.
unfoldable pub given : Terms → Bool → Bool → Wire → Ledger → Ledger
given t sdo sdi quiet l = l
given t sdo sdi (busy w) l =
    when ltb (w.edges + 1) t.last then with_wire (busy (counted t sdo sdi w)) l else closed t (counted t sdo sdi w) l

-- What each operation enters.
abbrev pub noted : Terms → Op → Ledger → Ledger
noted t (accepts word) l = with_accepted (l.accepted ++ (word ∷ [])) l
noted t (reads word) l = with_read (l.read ++ (word ∷ [])) l
noted t begins l = with_wire (begun_on t l l.wire) l
noted t (clocks sdo sdi) l = given t sdo sdi l.wire l
noted t forgets l = with_wire quiet l

abbrev pub noted_all : Terms → List Op → Ledger → Ledger
noted_all t [] l = l
noted_all t (o ∷ os) l = noted_all t os (noted t o l)
