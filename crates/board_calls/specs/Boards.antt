-- The board in memory, and what a caller is told of its calls: answers as numbers, calls by a number for their kind.
use Rattle.std.specs.Prelude.{ℕ, ◌*◌, ◌%◌, Bool, true, false, List, [], ◌∷◌, ◌≡◌, eqb, Float, get_or, set, Result, Ok, Err}
use Rattle.laws.specs.Choice.{when◌then◌else◌}
use Rattle.module_types.specs.declared.Module.{Module}
use Rattle.module_types.specs.declared.Refusal.{Refusal}
use Rattle.module_types.specs.declared.Call.TheVariants.{Read, Write, Tick, Pin, Clear}
use Rattle.module_rules.specs.RefusalTable.{first_number}
use Rattle.clock_rules.specs.Clock.{said_clock}
use Rattle.board_rules.specs.declared.BoardCall.{BoardCall}
use Rattle.board_rules.specs.declared.BoardCall.TheVariants.{PowerUp, PowerUpAt, Make, Report, Look, StepAndLook, MakeWord}
use Rattle.board_rules.specs.declared.BoardFault.{BoardFault}
use Rattle.board_rules.specs.declared.BoardAnswer.{BoardAnswer}
use Rattle.board_rules.specs.declared.BoardAnswer.TheVariants.{Refused, Powered, Made, Told, Shown, Stepped, Worded}
use Rattle.board_rules.specs.Board.{board_number_of, answer_alone, after_alone, board_of, pair_of}
use Rattle.board_rules.specs.BoardDemands.{board_rows, pair_rows}
use Rattle.module_memory.specs.Memory.{module_in}
use Rattle.module_answers.specs.Answered.{untouching}
use Rattle.word_calls.specs.Speaking.{word_number}
use Rattle.link_calls.specs.Wire.{is_refused}
use Rattle.module_by_number.specs.Told.{answer_number, level_in, seen_number, step_number, clock_number, clock_floats, link_number}
use Rattle.board_calls.specs.declared.Cells.{Cells}

-- The modules that a list of records holds.
abbrev pub modules_in : List Cells → List Module
modules_in [] = []
modules_in (c ∷ cs) = module_in c.numbers ∷ modules_in cs

-- The record at a place, its numbers, and the list with other numbers there.
abbrev pub record_at : List Cells → ℕ → Cells
record_at cs n = get_or cs n (record { numbers = [] })

abbrev pub numbers_at : List Cells → ℕ → List ℕ
numbers_at cs n = (record_at cs n).numbers

abbrev pub with_numbers : List Cells → ℕ → List ℕ → List Cells
with_numbers cs n ws = set cs n (record { numbers = ws })

-- A call by its kind and up to three numbers: a register and a value of which the low 16 bits count, levels, an instruction rate, a depth, or a
-- level and a word of which the low 16 bits count. Any other kind is a look.
unfoldable pub asked_of : ℕ → ℕ → ℕ → ℕ → BoardCall
asked_of kind x y z =
    when eqb kind 0 then PowerUp
    else when eqb kind 1 then Make (Read x)
    else when eqb kind 2 then Make (Write x (y % 65536))
    else when eqb kind 3 then Make (Tick (level_in x) (level_in y))
    else when eqb kind 4 then Make (Pin (level_in x) (level_in y) (level_in z))
    else when eqb kind 5 then Make Clear
    else when eqb kind 6 then Report x
    else when eqb kind 8 then StepAndLook (level_in x) (level_in y) (level_in z)
    else when eqb kind 9 then PowerUpAt x
    else when eqb kind 10 then MakeWord (level_in x) (y % 65536)
    else Look

-- An answer as one number, that of the same call of one module: the upper 16 bits are the refusal number, 0 if it was not refused, the lower 16
-- bits what the call tells; of a word at a time as `word_number` has it, which keeps a refusal where it is.
unfoldable pub board_number : BoardAnswer → ℕ
board_number (Refused w) = board_number_of w * 65536
board_number Powered = 0
board_number (Made a) = answer_number a
board_number (Told r) = clock_number (said_clock r)
board_number (Shown s) = seen_number s.interrupt s.sck s.sdo s.ss
board_number (Stepped a s) = step_number a (seen_number s.interrupt s.sck s.sdo s.ss)
board_number (Worded a count levels) = word_number a count levels

unfoldable pub pair_number : Result (Result ℕ Refusal) BoardFault → ℕ
pair_number (Err w) = board_number_of w * 65536
pair_number (Ok a) = link_number a

-- The lent memory after an answer: the floats of a report that is not refused.
unfoldable pub floats_after : BoardAnswer → List Float → List Float
floats_after (Refused w) before = before
floats_after Powered before = before
floats_after (Made a) before = before
floats_after (Told r) before = clock_floats (said_clock r) before
floats_after (Shown s) before = before
floats_after (Stepped a s) before = before
floats_after (Worded a count levels) before = before

-- The answers of calls that leave every number of every record as it was.
abbrev pub keeps_all : BoardAnswer → Bool
keeps_all (Refused w) = true
keeps_all Powered = false
keeps_all (Made a) = untouching a
keeps_all (Told r) = true
keeps_all (Shown s) = true
keeps_all (Stepped a s) = untouching a
keeps_all (Worded a count levels) = untouching a

abbrev pub pair_keeps_all : Result (Result ℕ Refusal) BoardFault → Bool
pair_keeps_all (Err w) = true
pair_keeps_all (Ok a) = is_refused a

-- The board's test of a call, by the list's length: the number of the first row of the table that applies, as the answer has it.
unfoldable pub call_fault : ℕ → ℕ → ℕ
call_fault count n = first_number (board_rows count n) * 65536

unfoldable pub pair_fault : ℕ → ℕ → ℕ → ℕ
pair_fault count a b = first_number (pair_rows count a b) * 65536

-- A call of one record's numbers returns the number of what the module alone answers, and they then hold the module after it.
pub record MakeTells (c : BoardCall) (r : ℕ) (floats floatsAt : List Float) (before after : List ℕ) : Type 0 where
  pub number : r ≡ board_number (answer_alone (module_in before) c)
  pub holds : module_in after ≡ after_alone (module_in before) c
  pub report : floatsAt ≡ floats_after (answer_alone (module_in before) c) floats
  pub untouched : keeps_all (answer_alone (module_in before) c) ≡ true → after ≡ before

-- After a call of module `n` the list holds the definition's modules, and the lent memory the floats of a report. A call that is
-- refused, a tick, a clock step or a word at a time with no edge, a report and a look leave every number of the list as it was; any other call
-- leaves those of every other record.
pub record BoardLeaves (n : ℕ) (c : BoardCall) (floats floatsAt : List Float) (before after : List Cells) : Type 0 where
  pub holds : modules_in after ≡ (board_of (modules_in before) n c).after
  pub report : floatsAt ≡ floats_after (board_of (modules_in before) n c).answer floats
  pub untouched : keeps_all (board_of (modules_in before) n c).answer ≡ true → after ≡ before
  pub others : (k : ℕ) → (n ≡ k → ⊥) → record_at after k ≡ record_at before k

-- A linked run of host `a` and client `b` likewise. A refused one leaves every number of the list as it was, any other those of
-- every other record.
pub record PairLeaves (a b limit : ℕ) (before after : List Cells) : Type 0 where
  pub holds : modules_in after ≡ (pair_of (modules_in before) a b limit).after
  pub untouched : pair_keeps_all (pair_of (modules_in before) a b limit).answer ≡ true → after ≡ before
  pub others : (k : ℕ) → (a ≡ k → ⊥) → (b ≡ k → ⊥) → record_at after k ≡ record_at before k
