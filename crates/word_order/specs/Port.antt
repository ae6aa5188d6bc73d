-- A port by its words alone: those that it still owes, the one under way, those received and not read. Where a machine keeps a word,
-- in a ring, loaded, begun or still in its buffer, does not show here.
use Rattle.std.specs.Prelude.{ℕ, ◌+◌, ◌*◌, ◌-◌, ◌^◌, ◌<◌, ◌≤◌, Bool, true, false, not, ◌&&◌, ◌||◌, List, [], ◌∷◌, ◌++◌, ◌≡◌, ltb, leb, length, drop}
use mir.Val.{bool_byte}
use Rattle.laws.specs.Choice.{when◌then◌else◌}
use Rattle.word_order.specs.Bits.{bit_of, top_bits, sampled_in}
use Rattle.word_order.specs.Ledger.{Policy, drops_new, replaces_old, Terms, Op, accepts, reads, begins, clocks, forgets, ends, Wire, quiet, busy, Passed, Ledger}

-- A word under way: a filler or the first of the words owed, the edges it was given, and what was received so far.
pub record Under : Type 0 where
  pub filler : Bool
  pub word : ℕ
  pub edges : ℕ
  pub received : ℕ

pub data Way : Type 0 where
  idle : Way
  sends : Under → Way

-- A marked port receives no more.
pub record Port : Type 0 where
  pub owed : List ℕ
  pub way : Way
  pub unread : List ℕ
  pub marked : Bool

abbrev pub emptied : Port
emptied = record { owed = []; way = idle; unread = []; marked = false }

abbrev pub with_way : Way → Port → Port
with_way w p = record { owed = p.owed; way = w; unread = p.unread; marked = p.marked }

-- A word is lost as another comes in.
unfoldable pub loses_at : Terms → Port → Bool
loses_at t p = leb t.depth (length p.unread) || p.marked

-- The unread words once another has come in, a word being lost or not.
abbrev pub landed_in : Policy → Bool → ℕ → List ℕ → List ℕ
landed_in (drops_new e) lost word unread = when lost then unread else unread ++ (word ∷ [])
landed_in replaces_old lost word unread = (when lost then drop 1 unread else unread) ++ (word ∷ [])

-- What begins: the first word owed, else a filler, or nothing if the port is silent then.
abbrev pub fresh_word : Bool → ℕ → Under
fresh_word filler word = record { filler = filler; word = word; edges = 0; received = 0 }

abbrev pub first_way : Bool → List ℕ → Way
first_way silent (word ∷ rest) = sends (fresh_word false word)
first_way silent [] = when silent then idle else sends (fresh_word true 0)

abbrev pub begun_way : Bool → List ℕ → Way → Way
begun_way silent owed idle = first_way silent owed
begun_way silent owed (sends u) = sends u

-- An edge of the word under way: one more is counted, and a sampled one brings a bit in behind the others.
unfoldable pub received_after : Terms → Bool → Under → ℕ
received_after t sdi u = when t.samples (u.edges + 1) then u.received * 2 + bool_byte sdi else u.received

unfoldable pub progressed : Terms → Bool → Under → Under
progressed t sdi u = record { filler = u.filler; word = u.word; edges = u.edges + 1; received = received_after t sdi u }

-- The finish: the sent word is owed no more, unless it was a filler, and the received word lands.
unfoldable pub finished : Terms → Under → Port → Port
finished t u p =
    record {
      owed = when u.filler then p.owed else drop 1 p.owed;
      way = idle;
      unread = landed_in t.policy (loses_at t p) u.received p.unread;
      marked = p.marked || (ends t.policy && loses_at t p);
    }

unfoldable pub advanced : Terms → Bool → Way → Port → Port
advanced t sdi idle p = p
advanced t sdi (sends u) p =
    when ltb (u.edges + 1) t.last then with_way (sends (progressed t sdi u)) p else finished t (progressed t sdi u) p

-- What each operation does to the port.
abbrev pub played : Terms → Op → Port → Port
played t (accepts word) p = record { owed = p.owed ++ (word ∷ []); way = p.way; unread = p.unread; marked = p.marked }
played t (reads word) p = record { owed = p.owed; way = p.way; unread = drop 1 p.unread; marked = p.marked }
played t begins p = with_way (begun_way t.silent p.owed p.way) p
played t (clocks sdo sdi) p = advanced t sdi p.way p
played t forgets p = with_way idle p

abbrev pub played_all : Terms → List Op → Port → Port
played_all t [] p = p
played_all t (o ∷ os) p = played_all t os (played t o p)

-- What a machine owes the law at each operation: accepted words fit, a read gives the first unread word, and at a sampled edge SDO
-- shows the bit of the word under way that is next, highest first.
pub record Reads (word : ℕ) (unread : List ℕ) : Type 0 where
  pub first : unread ≡ word ∷ drop 1 unread

pub record Shows (t : Terms) (sdo : Bool) (u : Under) : Type 0 where
  pub shows : t.samples (u.edges + 1) ≡ true → sdo ≡ bit_of u.word (t.width - 1 - sampled_in t.samples u.edges)

abbrev pub ShowsOn : Terms → Bool → Way → Type 0
ShowsOn t sdo idle = Unit {0}
ShowsOn t sdo (sends u) = Shows t sdo u

abbrev pub Legal : Terms → Op → Port → Type 0
Legal t (accepts word) p = word < 2 ^ t.width
Legal t (reads word) p = Reads word p.unread
Legal t begins p = Unit {0}
Legal t (clocks sdo sdi) p = ShowsOn t sdo p.way
Legal t forgets p = Unit {0}

abbrev pub LegalAll : Terms → List Op → Port → Type 0
LegalAll t [] p = Unit {0}
LegalAll t (o ∷ os) p = Legal t o p × LegalAll t os (played t o p)

-- Terms under which a word passes whole: up to the last edge as many are sampled as a word has bits; and the buffer holds a word.
pub record Whole (t : Terms) : Type 0 where
  pub all : sampled_in t.samples t.last ≡ t.width
  pub some : 1 ≤ t.last
  pub deep : 1 ≤ t.depth

-- What is seen of the word under way between calls.
abbrev pub is_under : Way → Bool
is_under idle = false
is_under (sends u) = true

abbrev pub edges_under : Way → ℕ
edges_under idle = 0
edges_under (sends u) = u.edges

-- What an operation finishes and loses: a word at its last edge is finished, and one is lost if it finds no room, under either policy.
abbrev pub ends_at : Terms → Way → Bool
ends_at t idle = false
ends_at t (sends u) = not (ltb (u.edges + 1) t.last)

abbrev pub finishes_op : Terms → Op → Port → Bool
finishes_op t (accepts word) p = false
finishes_op t (reads word) p = false
finishes_op t begins p = false
finishes_op t (clocks sdo sdi) p = ends_at t p.way
finishes_op t forgets p = false

abbrev pub loses_op : Terms → Op → Port → Bool
loses_op t o p = finishes_op t o p && loses_at t p

-- How often, in a list of operations.
abbrev pub counted_in : (Op → Port → Bool) → Terms → List Op → Port → ℕ
counted_in f t [] p = 0
counted_in f t (o ∷ os) p = bool_byte (f o p) + counted_in f t os (played t o p)

abbrev pub finishes_in : Terms → List Op → Port → ℕ
finishes_in t os p = counted_in (finishes_op t) t os p

abbrev pub losses_in : Terms → List Op → Port → ℕ
losses_in t os p = counted_in (loses_op t) t os p

abbrev pub accepts_op : Op → Port → Bool
accepts_op (accepts word) p = true
accepts_op (reads word) p = false
accepts_op begins p = false
accepts_op (clocks sdo sdi) p = false
accepts_op forgets p = false

abbrev pub reads_op : Op → Port → Bool
reads_op (accepts word) p = false
reads_op (reads word) p = true
reads_op begins p = false
reads_op (clocks sdo sdi) p = false
reads_op forgets p = false

-- A history that opens in the middle of a port's life, with what the port holds. A marked port has lost a word, whichever it was.
abbrev pub wire_from : Terms → Way → Wire
wire_from t idle = quiet
wire_from t (sends u) =
    let bits : ℕ = sampled_in t.samples u.edges in
    busy
    (record { filler = u.filler; edges = u.edges; shown = top_bits t.width bits u.word; seen = top_bits bits bits u.received })

abbrev pub all_unmarked : List ℕ → List Passed
all_unmarked [] = []
all_unmarked (word ∷ words) = record { word = word; marked = false } ∷ all_unmarked words

abbrev pub resumed : Terms → Port → Ledger
resumed t p =
    record {
      accepted = p.owed;
      departures = [];
      arrivals = all_unmarked p.unread ++ (when p.marked then record { word = 0; marked = true } ∷ [] else []);
      read = [];
      wire = wire_from t p.way;
    }
