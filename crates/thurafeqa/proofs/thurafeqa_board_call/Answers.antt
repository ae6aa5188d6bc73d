-- The board's test answers a call that it refuses; any other is made of the record that it names, which is a record of the list.
use Rattle.laws.proofs.Common.{sym, ◌∙◌, zero-le}
use Rattle.board_calls.specs.Boards.{asked_of}
use Rattle.board_calls.proofs.Asks.{refused_with, refused_not}
use Rattle.board_calls.proofs.Owing.{owed_inside, owed_refused, owed_made}
use Rattle.thurafeqa.proofs.thurafeqa_board_call.Goals as goal

pub returns-in-Some : goal.returns-in-Some
returns-in-Some c =
    let why = refused_with (sym c.in-Some.is ∙ c.refused.ensures) in
    owed_refused c.args.owed c.args.n c.args.board.now why.0 (asked_of c.args.kind c.args.x c.args.y c.args.z) c.args.report.now why.1

pub bounds-board-n : goal.bounds-board-n
bounds-board-n c = owed_inside c.args.owed c.args.n c.args.board.now (refused_not (sym c.in_default.is ∙ c.refused.ensures)) zero-le

pub returns : goal.returns
returns c =
    owed_made c.args.owed c.args.n c.args.board.now (refused_not (sym c.in_default.is ∙ c.refused.ensures))
    (asked_of c.args.kind c.args.x c.args.y c.args.z) c.make_counted.result c.args.report.now c.make_counted.new.report c.make_counted.new.w zero-le
    c.make_counted.ensures
