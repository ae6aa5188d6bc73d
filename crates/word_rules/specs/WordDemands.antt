-- The demands on a word at a time: what the call refuses, and what it comes to by the history of words (demand 3), for every module that
-- calls reach. It is judged by what a watcher sees of the clock steps that it stands for.
use Rattle.std.specs.Prelude.{ℕ, ◌+◌, ◌*◌, ◌%◌, ◌^◌, Bool, true, false, not, ◌&&◌, List, [], ◌∷◌, ◌++◌, ◌≡◌}
use Rattle.laws.specs.Choice.{when◌then◌else◌}
use Rattle.word_order.specs.Bits.{spelled}
use Rattle.word_order.specs.Ledger.{Wire, quiet, busy, is_quiet, carries_filler, Ledger, left_to_send, loses}
use Rattle.module_types.specs.declared.Module.{Module}
use Rattle.module_types.specs.declared.Answer.TheVariants.{Done}
use Rattle.module_types.specs.declared.Call.{Call}
use Rattle.module_types.specs.declared.Call.TheVariants.{Read, Write, Tick, Pin, ClockStep, Clear}
use Rattle.module_rules.specs.Refusals.{said_of}
use Rattle.module_rules.specs.InBits.{stops_between_words, heeds_select}
use Rattle.module_rules.specs.Calls.{after_calls}
use Rattle.module_rules.specs.Watch.{terms, Watched, watched_calls}
use Rattle.module_rules.specs.Lives.{Beginning, life}
use Rattle.module_rules.specs.Demands.{edges_still_owed}
use Rattle.word_rules.specs.Word.{word_of, steps_of, edges_owed}

-- A list of clock steps, all with one level of SS.
abbrev pub IsStep : Bool → Call → Type 0
IsStep ss (Read register) = ⊥
IsStep ss (Write register v) = ⊥
IsStep ss (Tick sdi select) = ⊥
IsStep ss (Pin sck sdi select) = ⊥
IsStep ss (ClockStep sck sdi select) = select ≡ ss
IsStep ss Clear = ⊥

abbrev pub AllSteps : Bool → List Call → Type 0
AllSteps ss [] = Unit {0}
AllSteps ss (c ∷ cs) = IsStep ss c × AllSteps ss cs

-- The levels of SDO and of SDI that the word on the wire has had so far, as numbers.
abbrev pub shown_so : Wire → ℕ
shown_so quiet = 0
shown_so (busy w) = spelled 0 w.shown

abbrev pub seen_so : Wire → ℕ
seen_so quiet = 0
seen_so (busy w) = spelled 0 w.seen

-- What goes out is a filler: the one on the wire, or with none there, if no accepted word is left to send.
abbrev pub fills_in : Ledger → Bool
fills_in l = when is_quiet l.wire then not (left_to_send l) else carries_filler l.wire

-- The call is done by clock steps. None of them but the last finishes a word. The last one does: what goes out is what SDO showed of it before and
-- then the levels that the call tells; what comes in is what SDI was before and then the low bits of the caller's word, as many. No word is begun
-- behind it.
pub record WordMade (x : Watched) (ss : Bool) (word : ℕ) : Type 0 where
  pub steps : List Call
  pub last : Call
  pub all : AllSteps ss (steps ++ (last ∷ []))
  pub done : (word_of x.now ss word).answer ≡ Done
  pub leaves : (word_of x.now ss word).after ≡ (watched_calls x (steps ++ (last ∷ []))).now
  pub none_yet : ((watched_calls x steps).ledger.departures ≡ x.ledger.departures)
      × ((watched_calls x steps).ledger.arrivals ≡ x.ledger.arrivals)
  pub departs : (watched_calls x (steps ++ (last ∷ []))).ledger.departures
      ≡ x.ledger.departures
      ++ (
      record {
        word = shown_so x.ledger.wire * 2 ^ (word_of x.now ss word).count + (word_of x.now ss word).levels;
        marked = fills_in x.ledger;
      }
      ∷ []
      )
  pub arrives : (watched_calls x (steps ++ (last ∷ []))).ledger.arrivals
      ≡ x.ledger.arrivals
      ++ (
      record {
        word = seen_so x.ledger.wire * 2 ^ (word_of x.now ss word).count + word % 2 ^ (word_of x.now ss word).count;
        marked = loses (terms x.now.settings) x.ledger;
      }
      ∷ []
      )
  pub accepted : (watched_calls x (steps ++ (last ∷ []))).ledger.accepted ≡ x.ledger.accepted
  pub read : (watched_calls x (steps ++ (last ∷ []))).ledger.read ≡ x.ledger.read
  pub none_begun : is_quiet (watched_calls x (steps ++ (last ∷ []))).ledger.wire ≡ true

-- It is refused with 2 exactly, and then leaves the module as it was. Of every module it is a list of clock steps, and leaves what these leave. A
-- module makes a word if it is enabled and unframed, no client with SSEN under a high SS, and no host without a word to send. What a host is told
-- to owe is what it owes by its history.
pub record WordCalls : Type 0 where
  pub refused_exactly : (m : Module) (ss : Bool) (word : ℕ) → (said_of (word_of m ss word).answer).number ≡ (when m.settings.spien then 0 else 2)
  pub refused_unchanged : (m : Module) (ss : Bool) (word : ℕ) → m.settings.spien ≡ false → (word_of m ss word).after ≡ m
  pub stands : (m : Module) (ss : Bool) (word : ℕ) →
      AllSteps ss (steps_of m ss word) × ((word_of m ss word).after ≡ after_calls m (steps_of m ss word))
  pub made : (b : Beginning) (cs : List Call) (ss : Bool) (word : ℕ) → (life b cs).now.settings.spien ≡ true →
      (life b cs).now.settings.con2.frmen ≡ false → (heeds_select (life b cs).now.settings && ss) ≡ false →
      ((life b cs).now.settings.con1.msten ≡ true → left_to_send (life b cs).ledger ≡ true) → WordMade (life b cs) ss word
  pub owes : (b : Beginning) (cs : List Call) → (life b cs).now.settings.spien ≡ true →
      stops_between_words (life b cs).now.settings ≡ true → edges_owed (life b cs).now ≡ edges_still_owed (life b cs)
