-- Document 02, Eight: beside the list of modules the board keeps the total of accepted words that are not finished, and answers from
-- it. Each call of Seven moves the total by what the counts of the modules that it names change by.
use Rattle.std.specs.Prelude.{ℕ, ◌+◌, ◌-◌, ◌||◌, List, [], ◌∷◌, leb, Result, Ok, Err}
use Rattle.laws.specs.Choice.{when◌then◌else◌}
use Rattle.module_types.specs.declared.Settings.{Settings}
use Rattle.module_types.specs.declared.Module.{Module}
use Rattle.module_types.specs.declared.Refusal.{Refusal}
use Rattle.module_types.specs.declared.Shift.{Shift}
use Rattle.module_types.specs.declared.Shift.TheVariants.{Free, Loaded, Begun}
use Rattle.module_rules.specs.Settings.{ssen_client}
use Rattle.board_rules.specs.declared.BoardCall.{BoardCall}
use Rattle.board_rules.specs.declared.BoardFault.{BoardFault}
use Rattle.board_rules.specs.declared.BoardFault.TheVariants.{BadList}
use Rattle.board_rules.specs.declared.BoardAnswer.{BoardAnswer}
use Rattle.board_rules.specs.Board.{bad_list, no_module, no_pair, module_at, board_of, pair_of, BoardStep, one, two}

-- The board's record: its modules, and the total beside them.
pub record Board : Type 0 where
  pub modules : List Module
  pub owed : ℕ

-- What a call of one module, and a linked run of two, come to.
pub record OwedCall : Type 0 where
  pub answer : BoardAnswer
  pub after : Board

pub record OwedRun : Type 0 where
  pub answer : Result (Result ℕ Refusal) BoardFault
  pub after : Board

-- The accepted words of a module that are not finished: those waiting, and the one in the shift register. A begun word of an SSEN
-- client still waits and counts once; a filler is no accepted word.
unfoldable pub in_shift : Settings → Shift → ℕ
in_shift s Free = 0
in_shift s (Loaded word) = 1
in_shift s (Begun p) = when p.filler || ssen_client s then 0 else 1

unfoldable pub words_owed : Module → ℕ
words_owed m = m.engine.transmit.count + in_shift m.settings m.engine.shift

-- The total, where one module has become another: more by what that one counts more, less by what it counts less. It is a number of
-- 16 bits and stops at either end; from power-up it never comes near.
unfoldable pub at_most65535 : ℕ → ℕ
at_most65535 n = when leb n 65535 then n else 65535

unfoldable pub total_moved : ℕ → Module → Module → ℕ
total_moved total was is = at_most65535 (total + words_owed is - words_owed was)

-- A call that names module `n`: Seven's call, and the total moved by that module. A refused call leaves it.
unfoldable pub total_after_call : Board → ℕ → List Module → ℕ
total_after_call b n after =
    when bad_list b.modules || no_module b.modules n then b.owed
    else total_moved b.owed (module_at b.modules n) (module_at after n)

unfoldable pub owed_call : Board → ℕ → BoardCall → OwedCall
owed_call b n c =
    record {
      answer = (board_of b.modules n c).answer;
      after =
          record {
            modules = (board_of b.modules n c).after;
            owed = total_after_call b n (board_of b.modules n c).after;
          };
    }

-- A linked run: Seven's run, and the total moved by both ends.
unfoldable pub total_after_run : Board → ℕ → ℕ → List Module → ℕ
total_after_run b h c after =
    when bad_list b.modules || no_pair b.modules h c then b.owed
    else total_moved (total_moved b.owed (module_at b.modules h) (module_at after h)) (module_at b.modules c) (module_at after c)

unfoldable pub owed_run : Board → ℕ → ℕ → ℕ → OwedRun
owed_run b h c limit =
    record {
      answer = (pair_of b.modules h c limit).answer;
      after =
          record {
            modules = (pair_of b.modules h c limit).after;
            owed = total_after_run b h c (pair_of b.modules h c limit).after;
          };
    }

-- The question, how many words the board still owes: the total, or 21. No module is looked at.
unfoldable pub owes_of : Board → Result ℕ BoardFault
owes_of b = when bad_list b.modules then Err BadList else Ok b.owed

-- The board after some steps.
unfoldable pub owed_step : Board → BoardStep → Board
owed_step b (one n c) = (owed_call b n c).after
owed_step b (two h c limit) = (owed_run b h c limit).after

unfoldable pub owed_after : Board → List BoardStep → Board
owed_after b [] = b
owed_after b (s ∷ ss) = owed_after (owed_step b s) ss
