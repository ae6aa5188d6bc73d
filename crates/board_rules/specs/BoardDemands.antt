-- The customer's demands on the board. The record Boards holds every statement, and proofs/BoardDemandsHold.antt proves it.
use Rattle.std.specs.Prelude.{ℕ, ◌≤◌, ◌<◌, Bool, true, false, ◌&&◌, ◌||◌, List, [], ◌∷◌, ◌++◌, ◌≡◌, eqb, ltb, leb, length, get_or, replicate, Result, Ok, Err}
use Rattle.laws.specs.Choice.{when◌then◌else◌}
use Rattle.module_types.specs.declared.Module.{Module}
use Rattle.module_types.specs.declared.Refusal.{Refusal}
use Rattle.module_types.specs.declared.Call.{Call}
use Rattle.module_types.specs.declared.Call.TheVariants.{ClockStep}
use Rattle.module_rules.specs.RefusalTable.{Row, row, first_number}
use Rattle.module_rules.specs.Calls.{powered_up, power_up_of, perform_of, interrupt_of, sck_of, sdo_of, ss_of}
use Rattle.module_types.specs.declared.Depth.{Depth}
use Rattle.module_types.specs.declared.Depth.TheVariants.{Four, Eight, Sixteen}
use Rattle.module_rules.specs.Lives.{power_up, life}
use Rattle.link_rules.specs.Link.{linked_of}
use Rattle.link_rules.specs.LinkDemands.{run_host_calls, run_client_calls, refusal_of}
use Rattle.clock_rules.specs.Clock.{report_of}
use Rattle.word_rules.specs.Word.{word_of, steps_of}
use Rattle.board_rules.specs.declared.BoardCall.{BoardCall}
use Rattle.board_rules.specs.declared.BoardCall.TheVariants.{PowerUp, PowerUpAt, Make, Report, Look, StepAndLook, MakeWord}
use Rattle.board_rules.specs.declared.BoardFault.{BoardFault}
use Rattle.board_rules.specs.declared.Seen.{Seen}
use Rattle.board_rules.specs.declared.BoardAnswer.{BoardAnswer}
use Rattle.board_rules.specs.declared.BoardAnswer.TheVariants.{Refused, Powered, Made, Told, Shown, Stepped, Worded}
use Rattle.board_rules.specs.Board.{Boarded, Paired, board_number_of, board_of, pair_of, BoardStep, one, two, board_stepped, board_after}
use Rattle.board_rules.specs.BoardExamples.{board_examples}

-- The number with which the board refuses, 0 if it hands the call on.
abbrev pub fault_in : BoardAnswer → ℕ
fault_in (Refused w) = board_number_of w
fault_in Powered = 0
fault_in (Made a) = 0
fault_in (Told r) = 0
fault_in (Shown s) = 0
fault_in (Stepped a s) = 0
fault_in (Worded a count levels) = 0

abbrev pub pair_fault_in : Result (Result ℕ Refusal) BoardFault → ℕ
pair_fault_in (Err w) = board_number_of w
pair_fault_in (Ok a) = 0

-- The rows of the table for a list of so many modules, in the order of the tests. Both stand before every row of one module and of a
-- linked run.
abbrev pub board_rows : ℕ → ℕ → List Row
board_rows size n =
    -- the list's length is outside 1 to 4
    row 21 (ltb size 1 || ltb 4 size)
    -- no such module
    ∷ row 22 (leb size n)
    ∷ []

abbrev pub pair_rows : ℕ → ℕ → ℕ → List Row
pair_rows size a b =
    row 21 (ltb size 1 || ltb 4 size)
    -- no such module, or the same one twice
    ∷ row 22 (leb size a || (leb size b || eqb a b))
    ∷ []

-- The module at a place of the list.
abbrev pub at : List Module → ℕ → Module
at ms k = get_or ms k powered_up

-- A list after a call: as long as before, and every record but those that the call names is as it was.
pub record Others (named : ℕ → Bool) (before after : List Module) : Type 0 where
  pub same : length after ≡ length before
  pub stay : (k : ℕ) → named k ≡ false → at after k ≡ at before k

-- What is seen of a module: the interrupt flag, SCK, and the pins SDO and SS.
abbrev pub seen_in : Module → Seen
seen_in m = record { interrupt = interrupt_of m; sck = sck_of m; sdo = sdo_of m; ss = ss_of m }

-- What a call of one module, which the board hands on, answers and does: that of the module alone.
pub record Alone (ms : List Module) (n : ℕ) : Type 0 where
  pub powered : ((board_of ms n PowerUp).answer ≡ Powered) × (at (board_of ms n PowerUp).after n ≡ powered_up)
  pub powered_at : (words : ℕ) →
      ((board_of ms n (PowerUpAt words)).answer ≡ Made (power_up_of (at ms n) words).answer)
      × (at (board_of ms n (PowerUpAt words)).after n ≡ (power_up_of (at ms n) words).after)
  pub made : (c : Call) →
      ((board_of ms n (Make c)).answer ≡ Made (perform_of (at ms n) c).answer)
      × (at (board_of ms n (Make c)).after n ≡ (perform_of (at ms n) c).after)
  pub reported : (f : ℕ) →
      ((board_of ms n (Report f)).answer ≡ Told (report_of (at ms n) f)) × (at (board_of ms n (Report f)).after n ≡ at ms n)
  pub shown : ((board_of ms n Look).answer ≡ Shown (seen_in (at ms n))) × (at (board_of ms n Look).after n ≡ at ms n)
  pub stepped : (sck sdi ss : Bool) →
      ((board_of ms n (StepAndLook sck sdi ss)).answer
      ≡ Stepped (perform_of (at ms n) (ClockStep sck sdi ss)).answer (seen_in (perform_of (at ms n) (ClockStep sck sdi ss)).after))
      × (at (board_of ms n (StepAndLook sck sdi ss)).after n ≡ (perform_of (at ms n) (ClockStep sck sdi ss)).after)
  pub worded : (ss : Bool) (word : ℕ) →
      ((board_of ms n (MakeWord ss word)).answer
      ≡ Worded (word_of (at ms n) ss word).answer (word_of (at ms n) ss word).count (word_of (at ms n) ss word).levels)
      × (at (board_of ms n (MakeWord ss word)).after n ≡ (word_of (at ms n) ss word).after)
  pub others : (c : BoardCall) → Others (eqb n) ms (board_of ms n c).after

-- What a linked run of two modules, which the board hands on, answers and does: that of the two alone.
pub record Joined (ms : List Module) (a b limit : ℕ) : Type 0 where
  pub answer : (pair_of ms a b limit).answer ≡ Ok (linked_of (at ms a) (at ms b) limit).answer
  pub host : at (pair_of ms a b limit).after a ≡ (linked_of (at ms a) (at ms b) limit).host
  pub client : at (pair_of ms a b limit).after b ≡ (linked_of (at ms a) (at ms b) limit).client
  pub others : Others (λ k. eqb a k || eqb b k) ms (pair_of ms a b limit).after

-- The depth that a module was given at its last power-up, and the calls that it has made since, if that was `own` so far and the board
-- stands at `ms`: a call that names it adds itself, a word at a time the clock steps that it stands for, a linked run that joins it the
-- run's list, and a refused one adds nothing, nor does power-up with a depth that there is not.
pub record Own : Type 0 where
  pub depth : Depth
  pub calls : List Call

abbrev pub fresh : Depth → Own
fresh depth = record { depth = depth; calls = [] }

abbrev pub more : Own → List Call → Own
more own cs = record { depth = own.depth; calls = own.calls ++ cs }

abbrev pub own_after_call : Module → Own → BoardCall → Own
own_after_call m own PowerUp = fresh Eight
own_after_call m own (PowerUpAt words) =
    when eqb words 4 then fresh Four
    else when eqb words 8 then fresh Eight
    else when eqb words 16 then fresh Sixteen
    else own
own_after_call m own (Make c) = more own (c ∷ [])
own_after_call m own (Report f) = own
own_after_call m own Look = own
own_after_call m own (StepAndLook sck sdi ss) = more own (ClockStep sck sdi ss ∷ [])
own_after_call m own (MakeWord ss word) = more own (steps_of m ss word)

abbrev pub own_after_run : ℕ → List Module → Own → ℕ → ℕ → ℕ → Own
own_after_run k ms own a b limit =
    when eqb a k then more own (run_host_calls (at ms a) (at ms b) limit)
    else when eqb b k then more own (run_client_calls (at ms a) (at ms b) limit)
    else own

abbrev pub own_after : ℕ → List Module → Own → BoardStep → Own
own_after k ms own (one n c) = when eqb (first_number (board_rows (length ms) n)) 0 && eqb n k then own_after_call (at ms k) own c else own
own_after k ms own (two a b limit) =
    when eqb (first_number (pair_rows (length ms) a b)) 0 && eqb (refusal_of (at ms a) (at ms b) limit) 0 then own_after_run k ms own a b limit else own

abbrev pub own_calls : ℕ → List Module → Own → List BoardStep → Own
own_calls k ms own [] = own
own_calls k ms own (s ∷ ss) = own_calls k (board_stepped ms s) (own_after k ms own s) ss

-- A call is refused with 21 or 22 exactly as the table says, before anything else, and then leaves the list as it was. Any other
-- answers and does what the named modules alone would, and the other records stay. So after any steps from power-up of all
-- modules, each is the one that its own calls reach from power-up: all that is said of one module (registers, flags, pins, word
-- order, edges owed) is said of it. There are no two outcomes.
pub record Boards : Type 0 where
  pub paper_examples : board_examples ≡ true
  pub refused_exactly : (ms : List Module) (n : ℕ) (c : BoardCall) → fault_in (board_of ms n c).answer ≡ first_number (board_rows (length ms) n)
  pub refused_unchanged : (ms : List Module) (n : ℕ) (c : BoardCall) → 1 ≤ fault_in (board_of ms n c).answer → (board_of ms n c).after ≡ ms
  pub alone : (ms : List Module) (n : ℕ) → first_number (board_rows (length ms) n) ≡ 0 → Alone ms n
  pub pair_refused_exactly : (ms : List Module) (a b limit : ℕ) →
      pair_fault_in (pair_of ms a b limit).answer ≡ first_number (pair_rows (length ms) a b)
  pub pair_refused_unchanged : (ms : List Module) (a b limit : ℕ) → 1 ≤ pair_fault_in (pair_of ms a b limit).answer →
      (pair_of ms a b limit).after ≡ ms
  pub joined : (ms : List Module) (a b limit : ℕ) → first_number (pair_rows (length ms) a b) ≡ 0 → Joined ms a b limit
  pub each : (size : ℕ) (steps : List BoardStep) (k : ℕ) → k < size →
      let own : Own = own_calls k (replicate size powered_up) (fresh Eight) steps in
      at (board_after (replicate size powered_up) steps) k ≡ (life (power_up own.depth) own.calls).now
  pub one_call : (ms : List Module) (n : ℕ) (c : BoardCall) (x y : Boarded) → x ≡ board_of ms n c → y ≡ board_of ms n c → x ≡ y
  pub one_pair : (ms : List Module) (a b limit : ℕ) (x y : Paired) → x ≡ pair_of ms a b limit → y ≡ pair_of ms a b limit → x ≡ y
