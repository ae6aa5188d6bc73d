-- The customer's demands on the total of words that the board owes. The record Totals holds every statement, and
-- proofs/OwedDemandsHold.antt proves it.
use Rattle.std.specs.Prelude.{ℕ, ◌+◌, ◌-◌, true, false, ◌||◌, List, [], ◌∷◌, ◌≡◌, eqb, ltb, length, replicate, Result, Ok, Err}
use Rattle.laws.specs.Choice.{when◌then◌else◌}
use Rattle.word_order.specs.Ledger.{unsent}
use Rattle.module_types.specs.declared.Module.{Module}
use Rattle.module_types.specs.declared.Call.{Call}
use Rattle.module_rules.specs.RefusalTable.{row, first_number}
use Rattle.module_rules.specs.Calls.{powered_up}
use Rattle.module_rules.specs.Lives.{Beginning, life}
use Rattle.board_rules.specs.declared.BoardCall.{BoardCall}
use Rattle.board_rules.specs.declared.BoardFault.{BoardFault}
use Rattle.board_rules.specs.Board.{board_number_of, board_of, pair_of, BoardStep, board_after}
use Rattle.board_rules.specs.BoardDemands.{board_rows, pair_rows, at}
use Rattle.board_rules.specs.Owed.{Board, OwedCall, OwedRun, words_owed, owed_call, owed_run, owes_of, owed_after}
use Rattle.board_rules.specs.OwedExamples.{owed_examples}

-- The number with which the question is refused, 0 if it is answered, and the words that it tells.
abbrev pub owed_fault_in : Result ℕ BoardFault → ℕ
owed_fault_in (Err w) = board_number_of w
owed_fault_in (Ok n) = 0

abbrev pub words_in : Result ℕ BoardFault → ℕ
words_in (Err w) = 0
words_in (Ok n) = n

-- The full count, by walking the modules.
abbrev pub full_count : List Module → ℕ
full_count [] = 0
full_count (m ∷ ms) = words_owed m + full_count ms

-- The total where a module has become another: it moves by what the module's count changes by, and stops at 0 and at 65,535.
abbrev pub moved_by : ℕ → Module → Module → ℕ
moved_by total was is = when ltb 65535 (total + words_owed is - words_owed was) then 65535 else total + words_owed is - words_owed was

-- So many modules at power-up owe nothing.
abbrev pub fresh_board : ℕ → Board
fresh_board size = record { modules = replicate size powered_up; owed = 0 }

-- What a module counts is what its history says: the words accepted since it was last enabled and not sent; none while disabled. The
-- calls answer and leave the modules as Seven's do, whatever the total. A call that the board refuses leaves the total; any other
-- moves it by the module that it names, a linked run by its two, and no other record counts. The question is refused exactly with 21,
-- and else tells the total. After any steps from power-up that is the full count. There are no two outcomes.
pub record Totals : Type 0 where
  pub paper_examples : owed_examples ≡ true
  pub counts_unsent : (b : Beginning) (cs : List Call) → (life b cs).now.settings.spien ≡ true →
      words_owed (life b cs).now ≡ unsent (life b cs).ledger
  pub counts_none : (b : Beginning) (cs : List Call) → (life b cs).now.settings.spien ≡ false → words_owed (life b cs).now ≡ 0
  pub same_call : (b : Board) (n : ℕ) (c : BoardCall) →
      ((owed_call b n c).answer ≡ (board_of b.modules n c).answer) × ((owed_call b n c).after.modules ≡ (board_of b.modules n c).after)
  pub same_run : (b : Board) (host client limit : ℕ) →
      ((owed_run b host client limit).answer ≡ (pair_of b.modules host client limit).answer)
      × ((owed_run b host client limit).after.modules ≡ (pair_of b.modules host client limit).after)
  pub call_moves : (b : Board) (n : ℕ) (c : BoardCall) →
      (owed_call b n c).after.owed
      ≡ (when eqb (first_number (board_rows (length b.modules) n)) 0
      then moved_by b.owed (at b.modules n) (at (board_of b.modules n c).after n)
      else b.owed)
  pub run_moves : (b : Board) (host client limit : ℕ) →
      let after : ℕ → Module = at (pair_of b.modules host client limit).after in
      (owed_run b host client limit).after.owed
      ≡ (when eqb (first_number (pair_rows (length b.modules) host client)) 0
      then moved_by (moved_by b.owed (at b.modules host) (after host)) (at b.modules client) (after client)
      else b.owed)
  pub refused_exactly : (b : Board) →
      owed_fault_in (owes_of b) ≡ first_number (row 21 (ltb (length b.modules) 1 || ltb 4 (length b.modules)) ∷ [])
  pub answers_total : (b : Board) → owed_fault_in (owes_of b) ≡ 0 → words_in (owes_of b) ≡ b.owed
  pub full_always : (size : ℕ) (steps : List BoardStep) →
      (owed_after (fresh_board size) steps).owed ≡ full_count (board_after (replicate size powered_up) steps)
  pub modules_always : (size : ℕ) (steps : List BoardStep) →
      (owed_after (fresh_board size) steps).modules ≡ board_after (replicate size powered_up) steps
  pub one_call : (b : Board) (n : ℕ) (c : BoardCall) (x y : OwedCall) → x ≡ owed_call b n c → y ≡ owed_call b n c → x ≡ y
  pub one_run : (b : Board) (host client limit : ℕ) (x y : OwedRun) → x ≡ owed_run b host client limit →
      y ≡ owed_run b host client limit → x ≡ y
  pub one_answer : (b : Board) (x y : Result ℕ BoardFault) → x ≡ owes_of b → y ≡ owes_of b → x ≡ y
