-- The total after a call and after a linked run, by the rows of the table.
--     call_total, run_total     a call of one module and a linked run of two, refused or handed on
--     call_moves_lem, run_moves_lem     both, as the page has them
-- Assumes nothing.
use Rattle.std.specs.Prelude.{◌+◌, ◌-◌, ◌||◌, ◌∷◌, ◌≡◌}
use Rattle.laws.proofs.Common.{ℕ, Bool, true, false, [], refl, sym, ◌∙◌, ltb-true, ltb-false}
use Rattle.laws.proofs.Common.{lt-leb, le-leb, eqb, leb, ltb, length, when◌then◌else◌, if_true, if_false, by_test}
use Rattle.module_types.specs.declared.Module.{Module}
use Rattle.module_rules.specs.RefusalTable.{row, first_number}
use Rattle.board_rules.specs.declared.BoardCall.{BoardCall}
use Rattle.board_rules.specs.Board.{bad_list, no_module, no_pair, module_at, board_of, pair_of}
use Rattle.board_rules.specs.BoardDemands.{board_rows, pair_rows, at}
use Rattle.board_rules.specs.Owed.{Board, words_owed, at_most65535, total_moved, total_after_call, owed_call, total_after_run, owed_run}
use Rattle.board_rules.specs.OwedDemands.{moved_by}

-- The total is chosen by whether one of the two rows applies.
either_row : (x y : ℕ) (a b : Bool) → (when a || b then y else x) ≡ (when eqb (first_number (row 21 a ∷ row 22 b ∷ [])) 0 then x else y)
unfolding when◌then◌else◌
either_row x y true b = refl
either_row x y false true = refl
either_row x y false false = refl

pub call_total : (b : Board) (n : ℕ) (c : BoardCall) →
    (owed_call b n c).after.owed
    ≡ (when eqb (first_number (board_rows (length b.modules) n)) 0
    then total_moved b.owed (at b.modules n) (at (board_of b.modules n c).after n)
    else b.owed)
unfolding owed_call total_after_call bad_list no_module module_at
call_total b n c = either_row _ _ (bad_list b.modules) (no_module b.modules n)

pub run_total : (b : Board) (host client limit : ℕ) →
    let after : ℕ → Module = at (pair_of b.modules host client limit).after in
    (owed_run b host client limit).after.owed
    ≡ (when eqb (first_number (pair_rows (length b.modules) host client)) 0
    then total_moved (total_moved b.owed (at b.modules host) (after host)) (at b.modules client) (after client)
    else b.owed)
unfolding owed_run total_after_run bad_list no_pair no_module module_at
run_total b host client limit = either_row _ _ (bad_list b.modules) (no_pair b.modules host client)

-- The page's total, and the two cases of the page's test.
moved_is : (total : ℕ) (was is : Module) → total_moved total was is ≡ moved_by total was is
unfolding total_moved at_most65535
moved_is total was is =
    let n : ℕ = total + words_owed is - words_owed was in
    by_test (ltb 65535 n)
    (λ above. if_false (leb n 65535) _ _ (lt-leb n 65535 (ltb-true 65535 n above)) ∙ sym (if_true (ltb 65535 n) _ _ above))
    (λ within. if_true (leb n 65535) _ _ (le-leb n 65535 (ltb-false 65535 n within)) ∙ sym (if_false (ltb 65535 n) _ _ within))

pub call_moves_lem : (b : Board) (n : ℕ) (c : BoardCall) →
    (owed_call b n c).after.owed
    ≡ (when eqb (first_number (board_rows (length b.modules) n)) 0
    then moved_by b.owed (at b.modules n) (at (board_of b.modules n c).after n)
    else b.owed)
call_moves_lem b n c = call_total b n c ∙ rw moved_is

pub run_moves_lem : (b : Board) (host client limit : ℕ) →
    let after : ℕ → Module = at (pair_of b.modules host client limit).after in
    (owed_run b host client limit).after.owed
    ≡ (when eqb (first_number (pair_rows (length b.modules) host client)) 0
    then moved_by (moved_by b.owed (at b.modules host) (after host)) (at b.modules client) (after client)
    else b.owed)
run_moves_lem b host client limit = run_total b host client limit ∙ simp moved_is
