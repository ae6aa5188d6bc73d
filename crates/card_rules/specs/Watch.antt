-- Somebody who watches a card's calls, answers and pins, and counts its edges since enabling; and the card as a machine of the law of word
-- order.
use Rattle.std.specs.Prelude.{ℕ, ◌+◌, ◌^◌, ◌%◌, Bool, false, List, [], ◌∷◌, ◌++◌}
use Rattle.laws.specs.Choice.{when◌then◌else◌}
use Rattle.word_order.specs.Ledger.{Op, accepts, reads, begins, clocks, opened}
use Rattle.word_order.specs.Port.{Way, idle, sends, Port}
use Rattle.word_order.specs.Machine.{Entry, opens, notes, Watching, Watched, watched_calls}
use Rattle.card_rules.specs.Settings.{Settings}
use Rattle.card_rules.specs.Card.{Engine, Card, powered_up}
use Rattle.card_rules.specs.Calls.{Call, set_protocol, set_length, enable, disable, write, read, edge, clear_underrun, clear_overflow, Answer, refused, done, value, perform, perform_of}
use Rattle.card_rules.specs.Figures.{starts_channel, card_terms}

-- The card's words: the sample under way, unless it is zeros, is still owed, and then come those waiting.
abbrev pub unfinished : Way → List ℕ
unfinished idle = []
unfinished (sends u) = when u.filler then [] else u.word ∷ []

abbrev pub port_of : Engine → Port
port_of n = record { owed = unfinished n.way ++ n.waiting; way = n.way; unread = n.unread; marked = false }

-- What shows as a call is made: whether the card was enabled, its settings, the level of SDO, and the answer.
pub record Sight : Type 0 where
  pub enabled : Bool
  pub settings : Settings
  pub sdo : Bool
  pub answer : Answer

abbrev pub sight_of : Card → Call → Sight
sight_of m c =
    record { enabled = m.enabled; settings = m.settings; sdo = m.engine.pins.sdo; answer = (perform_of m c).answer }

abbrev pub if_done : {A : Type 0} → Answer → A → A → A
if_done (refused why) x y = y
if_done done x y = x
if_done (value v) x y = y

-- The edges since enabling.
abbrev pub edges_after : ℕ → Sight → Call → ℕ
edges_after n x (set_protocol p) = n
edges_after n x (set_length bits frame) = n
edges_after n x enable = when x.enabled then n else 0
edges_after n x disable = n
edges_after n x (write v) = n
edges_after n x read = n
edges_after n x (edge sdi) = if_done x.answer (n + 1) n
edges_after n x clear_underrun = n
edges_after n x clear_overflow = n

-- What is written down: a new ledger at enabling; the low bits of a sample that was accepted; a sample that was read; and at an edge that a
-- sample may begin, if a channel starts there, and the levels of SDO and SDI.
abbrev pub read_ops : Answer → List Op
read_ops (refused why) = []
read_ops done = []
read_ops (value v) = reads v ∷ []

abbrev pub edge_ops : Bool → Bool → Bool → List Op
edge_ops starts sdo sdi = when starts then begins ∷ clocks sdo sdi ∷ [] else clocks sdo sdi ∷ []

abbrev pub entry_of : ℕ → Sight → Call → Entry
entry_of n x (set_protocol p) = notes []
entry_of n x (set_length bits frame) = notes []
entry_of n x enable = when x.enabled then notes [] else opens
entry_of n x disable = notes []
entry_of n x (write v) = notes (if_done x.answer (accepts (v % 2 ^ x.settings.bits) ∷ []) [])
entry_of n x read = notes (read_ops x.answer)
entry_of n x (edge sdi) = notes (if_done x.answer (edge_ops (starts_channel x.settings n) x.sdo sdi) [])
entry_of n x clear_underrun = notes []
entry_of n x clear_overflow = notes []

abbrev pub watching : Watching
watching =
    record {
      State = Card;
      Call = Call;
      step = perform;
      on = λ m. m.enabled;
      terms = λ m. card_terms m.settings;
      port = λ m. port_of m.engine;
      Sight = Sight;
      sight = sight_of;
      Memory = ℕ;
      remembers = λ n x later c. edges_after n x c;
      entry = λ n x busy given c. entry_of n x c;
    }

-- A card's life from power-up.
abbrev pub powered_up_card : Watched watching
powered_up_card = record { now = powered_up; memory = 0; ledger = opened }

abbrev pub life : List Call → Watched watching
life cs = watched_calls watching powered_up_card cs
