-- The list's row of the table, or the total.
use Rattle.laws.proofs.Common.{sym, ◌∙◌}
use Rattle.board_rules.specs.Board.{board_number_of}
use Rattle.board_calls.proofs.Owing.{asks_list, asks_total}
use Rattle.board_calls.proofs.owes.Goals as goal

pub returns-then-is_bad_list : goal.returns-then-is_bad_list
unfolding board_number_of
returns-then-is_bad_list c = rw c.fault_number.ensures (asks_list (sym c.is_bad_list.ensures ∙ c.if-is_bad_list.true))

pub returns : goal.returns
returns c = asks_total (sym c.is_bad_list.ensures ∙ c.if-is_bad_list.false)
