-- The first module is tested, then whether it is named twice, then the second.
use Rattle.std.specs.Prelude.{◌*◌, ◌≡◌}
use Rattle.module_rules.specs.RefusalTable.{first_number}
use Rattle.board_rules.specs.BoardDemands.{board_rows}
use Rattle.laws.proofs.Common.{ℕ, sym, ap, arith, ◌∙◌}
use Rattle.board_calls.specs.Boards.{call_fault, pair_fault}
use Rattle.board_rules.specs.Board.{board_number_of}
use Rattle.board_calls.specs.Owing.{fault_told}
use Rattle.board_calls.proofs.Asks.{handed_on, fault_some, tests_first, tests_same, tests_second}
use Rattle.board_calls.proofs.tested_two.Goals as goal

-- The test's number, without the place that it has in an answer.
plain : {k : ℕ} (count n : ℕ) → k * 65536 ≡ call_fault count n → k ≡ first_number (board_rows count n)
unfolding call_fault
plain count n e = omega (arith, e)

pub returns-in_err-tested : goal.returns-in_err-tested
unfolding pair_fault
returns-in_err-tested c =
    let is = handed_on c.from_residual.result c.in_err-tested.field-0.0 c.from_residual.ensures.1 in
    ap (λ (k : ℕ). k * 65536)
    (tests_first c.args.count c.args.a c.args.b (ap fault_told (is ∙ sym c.in_err-tested.was) ∙ plain _ _ c.tested.ensures) (fault_some is))

pub returns-then-a-b : goal.returns-then-a-b
unfolding board_number_of pair_fault
returns-then-a-b c = ap (λ (k : ℕ). k * 65536) (tests_same c.args.count c.args.a c.args.b (sym (ap fault_told c.in_ok-tested.was) ∙ plain _ _ c.tested.ensures) c.if-a-b.true)

pub returns : goal.returns
unfolding pair_fault
returns c = ap (λ (k : ℕ). k * 65536) (tests_second c.args.count c.args.a c.args.b (sym (ap fault_told c.in_ok-tested.was) ∙ plain _ _ c.tested.ensures) c.if-a-b.false (plain _ _ c.tested-2.ensures))
