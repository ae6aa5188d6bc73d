-- The rows of the table in another order.
use Rattle.std.specs.Prelude.{◌*◌}
use Rattle.laws.proofs.Common.{ℕ, ap, arith}
use Rattle.board_rules.specs.Board.{board_number_of}
use Rattle.board_calls.specs.Boards.{call_fault}
use Rattle.board_calls.proofs.Asks.{few, many, right, tests_list, tests_module, tests_none}
use Rattle.board_calls.proofs.tested.Goals as goal

pub returns-then-count-gt4 : goal.returns-then-count-gt4
unfolding board_number_of call_fault
returns-then-count-gt4 c = ap (λ (k : ℕ). k * 65536) (tests_list c.args.count c.args.n (many c.args.count (omega arith)))

pub returns-then-n-count : goal.returns-then-n-count
unfolding call_fault
returns-then-n-count c = ap (λ (k : ℕ). k * 65536) (tests_none c.args.count c.args.n (right c.args.count (omega arith) (omega arith)) (omega arith))

pub returns-then-count-lt1 : goal.returns-then-count-lt1
unfolding board_number_of call_fault
returns-then-count-lt1 c = ap (λ (k : ℕ). k * 65536) (tests_list c.args.count c.args.n (few c.args.count (omega arith)))

pub returns : goal.returns
unfolding board_number_of call_fault
returns c = ap (λ (k : ℕ). k * 65536) (tests_module c.args.count c.args.n (right c.args.count (omega arith) (omega arith)) (omega arith))
