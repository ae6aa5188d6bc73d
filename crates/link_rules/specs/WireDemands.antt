-- Document 02, Thirteen: the wire delivers. A linked run's own lists of calls (specs/LinkDemands.antt) are watched at both ends, each
-- from where its module stands as the run begins, and the page says what the two ledgers (crates/word_order, specs/Ledger.antt) have
-- in the end. The mark of a departure says that it was a filler, the mark of an arrival that the word was dropped. The record
-- WireDelivers holds every statement; crates/link_delivers proves it, and proofs/WirePageHolds.antt runs it.
use Rattle.std.specs.Prelude.{ℕ, ◌+◌, ◌*◌, ◌-◌, ◌≤◌, true, false, List, [], ◌∷◌, ◌++◌, ◌≡◌, length, take, drop, replicate}
use Rattle.word_order.specs.Ledger.{Passed, Ledger, words_of, edges_given}
use Rattle.word_order.specs.Port.{idle, all_unmarked}
use Rattle.module_types.specs.declared.Module.{Module}
use Rattle.module_rules.specs.InBits.{word_bits, room}
use Rattle.module_rules.specs.Words.{unread_in, owed_words}
use Rattle.module_rules.specs.Invariant.{Reached}
use Rattle.module_rules.specs.Watch.{port_in, watched_calls}
use Rattle.module_rules.specs.Lives.{resumed_at}
use Rattle.module_rules.specs.Demands.{IsIdle}
use Rattle.link_rules.specs.Link.{linked_of}
use Rattle.link_rules.specs.LinkDemands.{run_host_calls, run_client_calls, refusal_of, edges_used}

-- An end that is ready: a module that calls reach, at a word boundary, with DISSDO 0.
pub record Ready (m : Module) : Type 0 where
  pub reached : Reached m
  pub between : (port_in m).way ≡ idle
  pub driven : m.settings.con1.dissdo ≡ false

-- A run of which the page speaks: it is not refused, so that both ends are enabled and unframed, and both are ready. Nothing is asked of
-- marks: a marked buffer is full, so that it has no room. Nor of the levels that the client remembers: the run's first call brings
-- them, and if that is an edge, it goes to the idle level and begins nothing.
pub record Accepted (host client : Module) (limit : ℕ) : Type 0 where
  pub host_ready : Ready host
  pub client_ready : Ready client
  pub unrefused : refusal_of host client limit ≡ 0

-- The ledgers of both ends after a run.
abbrev pub host_ledger : Module → Module → ℕ → Ledger
host_ledger host client limit = (watched_calls (resumed_at host) (run_host_calls host client limit)).ledger

abbrev pub client_ledger : Module → Module → ℕ → Ledger
client_ledger host client limit = (watched_calls (resumed_at client) (run_client_calls host client limit)).ledger

-- What had arrived before the run: the words unread and, if the buffer is marked, a loss.
abbrev pub before : Module → List Passed
before m = (resumed_at m).ledger.arrivals

-- The words for which a receive buffer has room.
abbrev pub room_in : Module → ℕ
room_in m = room m.settings - length (unread_in m)

abbrev pub all_marked : List ℕ → List Passed
all_marked [] = []
all_marked (word ∷ words) = record { word = word; marked = true } ∷ all_marked words

-- Words that arrive where there is room for so many: the first are kept, all later ones dropped.
abbrev pub received : ℕ → List ℕ → List Passed
received room words = all_unmarked (take room words) ++ all_marked (drop room words)

-- So many departures of a client that owes these words: the words in order, and a filler of zeros for each that is wanting.
abbrev pub fillers : ℕ → List ℕ → ℕ
fillers n words = n - length words

abbrev pub sent_of : ℕ → List ℕ → List Passed
sent_of n words = all_unmarked (take n words) ++ all_marked (replicate (fillers n words) 0)

-- The same as words, each filler standing as one zero word.
abbrev pub first_of : ℕ → List ℕ → List ℕ
first_of n words = take n words ++ replicate (fillers n words) 0

-- What a run delivers, by the two modules as it begins and by both ledgers and the edges used as it ends. The words that arrived at each
-- end are those that departed at the other, in their order; the receive buffer fixes which were dropped. Both ends finished equally
-- many. What departed are the words that each end owed, in their order, and fillers of zeros at a client that owes no more. The edges
-- are 2w for each word that departed, and those given to the word on the wire.
pub record Delivers (host client : Module) (h c : Ledger) (used : ℕ) : Type 0 where
  pub to_client : c.arrivals ≡ before client ++ received (room_in client) (words_of h.departures)
  pub to_host : h.arrivals ≡ before host ++ received (room_in host) (words_of c.departures)
  pub equally : length h.departures ≡ length c.departures
  pub host_sent : h.departures ≡ all_unmarked (take (length h.departures) (owed_words host))
  pub client_sent : c.departures ≡ sent_of (length c.departures) (owed_words client)
  pub edges : used ≡ 2 * word_bits host.settings * length h.departures + edges_given h.wire

-- The edges that a host at a word boundary owes: 2w for each of its words.
abbrev pub whole_words : Module → ℕ
whole_words host = 2 * word_bits host.settings * length (owed_words host)

-- What a run comes to that ends with the host idle, said of the modules alone, as it begins and as it ends, and of the edges used. The
-- client has received all that the host owed, n words, and the host the first n of the client's and then zeros, each as far as there was
-- room. The host owes nothing more, the client its words behind the first n, and the client is at a word boundary again.
pub record Exchanges (host client host' client' : Module) (used : ℕ) : Type 0 where
  pub client_unread : unread_in client' ≡ unread_in client ++ take (room_in client) (owed_words host)
  pub host_unread : unread_in host' ≡ unread_in host ++ take (room_in host) (first_of (length (owed_words host)) (owed_words client))
  pub host_owes : owed_words host' ≡ []
  pub client_owes : owed_words client' ≡ drop (length (owed_words host)) (owed_words client)
  pub between : (port_in client').way ≡ idle
  pub edges : used ≡ whole_words host

-- The most edges that a run may be asked for.
abbrev pub largest_limit : ℕ
largest_limit = 544

-- Document 02, Thirteen. Every run delivers, whatever its limit, also where that cuts a word. If it ends with the host idle, all is
-- exchanged. It does so if the limit covers the host's words. The largest limit always does, so that there nothing is asked.
pub record WireDelivers : Type 0 where
  pub delivers : (host client : Module) (limit : ℕ) → Accepted host client limit →
      Delivers host client (host_ledger host client limit) (client_ledger host client limit) (edges_used host client limit)
  pub exchanges : (host client : Module) (limit : ℕ) → Accepted host client limit → IsIdle (linked_of host client limit).host →
      Exchanges host client (linked_of host client limit).host (linked_of host client limit).client (edges_used host client limit)
  pub ends_idle : (host client : Module) (limit : ℕ) → Accepted host client limit → whole_words host ≤ limit →
      IsIdle (linked_of host client limit).host
  pub whole : (host client : Module) → Accepted host client largest_limit →
      Exchanges host client (linked_of host client largest_limit).host (linked_of host client largest_limit).client
      (edges_used host client largest_limit)
