-- Document 02, Eight, in memory: the total goes into a call beside the list, by its low 16 bits, and comes back above the answer.
use Rattle.std.specs.Prelude.{ℕ, ◌+◌, ◌*◌, ◌%◌, Bool, List, ◌≡◌, eqb, Float, length, Result, Ok, Err, Option, None, Some, ⊤}
use Rattle.laws.specs.Choice.{when◌then◌else◌}
use Rattle.module_types.specs.declared.Module.{Module}
use Rattle.module_types.specs.declared.Call.TheVariants.{Tick}
use Rattle.link_rules.specs.Link.{linked_of}
use Rattle.board_rules.specs.declared.BoardCall.{BoardCall}
use Rattle.board_rules.specs.declared.BoardCall.TheVariants.{Make}
use Rattle.board_rules.specs.declared.BoardFault.{BoardFault}
use Rattle.board_rules.specs.Board.{board_number_of, answer_alone, board_of, pair_of}
use Rattle.board_rules.specs.Owed.{Board, total_moved, owed_call, owed_run, owes_of}
use Rattle.module_memory.specs.Memory.{module_in}
use Rattle.module_by_number.specs.Told.{link_number, LinkTells}
use Rattle.board_calls.specs.declared.Cells.{Cells}
use Rattle.board_calls.specs.Boards.{modules_in, board_number, pair_number, call_fault, pair_fault, MakeTells, BoardLeaves, PairLeaves}

-- The board that a list of records and a number beside it hold.
abbrev pub board_in : ℕ → List Cells → Board
board_in owed cs = record { modules = modules_in cs; owed = owed % 65536 }

-- A total and an answer as one number: the total above the answer's 32 bits.
unfoldable pub both_in : ℕ → ℕ → ℕ
both_in total answer = total * 4294967296 + answer

-- The question's answer as a number: the upper 16 bits are the refusal number, 0 if it is answered, the lower 16 bits the words owed.
unfoldable pub owed_number : Result ℕ BoardFault → ℕ
owed_number (Err w) = board_number_of w * 65536
owed_number (Ok n) = n

pub record TellsOwed (count owed r : ℕ) : Type 0 where
  pub number : (ms : List Module) → length ms ≡ count → r ≡ owed_number (owes_of (record { modules = ms; owed = owed % 65536 }))

-- What the board's test of a call finds, as the table's number: 0 where it refuses nothing.
abbrev pub fault_told : Result ⊤ BoardFault → ℕ
fault_told (Ok done) = 0
fault_told (Err w) = board_number_of w

-- The board's test of a call: 0, or the whole number that a refused call returns, with the total as it was.
unfoldable pub refused_number : ℕ → ℕ → ℕ
refused_number owed fault = when eqb fault 0 then 0 else both_in (owed % 65536) fault

-- The same as an Option: None for 0.
unfoldable pub refused_as : ℕ → Option ℕ
refused_as number = when eqb number 0 then None else Some number

abbrev pub refused_call : ℕ → ℕ → ℕ → ℕ
refused_call count owed n = refused_number owed (call_fault count n)

abbrev pub refused_pair : ℕ → ℕ → ℕ → ℕ → ℕ
refused_pair count owed a b = refused_number owed (pair_fault count a b)

-- A call of one record's numbers, with the total moved by them above the answer.
pub record MakesOwed (owed : ℕ) (c : BoardCall) (r : ℕ) (floats floatsAt : List Float) (before after : List ℕ) : Type 0 where
  pub number :
      r ≡ both_in (total_moved (owed % 65536) (module_in before) (module_in after)) (board_number (answer_alone (module_in before) c))
  pub made : MakeTells c (board_number (answer_alone (module_in before) c)) floats floatsAt before after

-- The same of a tick, which leaves the lent memory of a report as it was.
pub record TicksOwed (owed : ℕ) (sdi ss : Bool) (r : ℕ) (before after : List ℕ) : Type 0 where
  pub makes : (floats : List Float) → MakesOwed owed (Make (Tick sdi ss)) r floats floats before after

-- A linked run of two records' numbers, with the total moved by both above the answer.
pub record LinksOwed (owed limit r : ℕ) (host hostAfter client clientAfter : List ℕ) : Type 0 where
  pub number :
      r
      ≡ both_in (total_moved (total_moved (owed % 65536) (module_in host) (module_in hostAfter)) (module_in client) (module_in clientAfter))
      (link_number (linked_of (module_in host) (module_in client) limit).answer)
  pub linked : LinkTells (linked_of (module_in host) (module_in client) limit) (link_number (linked_of (module_in host) (module_in client) limit).answer) host hostAfter client clientAfter

-- What the board's calls return: the number of Seven's answer, and above it the definition's total.
pub record OwedTells (owed n : ℕ) (c : BoardCall) (r : ℕ) (floats floatsAt : List Float) (before after : List Cells) : Type 0 where
  pub number : r ≡ both_in (owed_call (board_in owed before) n c).after.owed (board_number (board_of (modules_in before) n c).answer)
  pub leaves : BoardLeaves n c floats floatsAt before after

pub record OwedTickTells (owed n : ℕ) (sdi ss : Bool) (r : ℕ) (before after : List Cells) : Type 0 where
  pub tells : (floats : List Float) → OwedTells owed n (Make (Tick sdi ss)) r floats floats before after

pub record OwedPairTells (owed a b limit r : ℕ) (before after : List Cells) : Type 0 where
  pub number : r ≡ both_in (owed_run (board_in owed before) a b limit).after.owed (pair_number (pair_of (modules_in before) a b limit).answer)
  pub leaves : PairLeaves a b limit before after
