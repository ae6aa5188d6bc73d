-- The board's test answers a run that it refuses; in any other both records are of the list, and not the same.
use Rattle.laws.proofs.Common.{sym, ◌∙◌, zero-le, length-set}
use Rattle.board_calls.proofs.Asks.{refused_with, refused_not}
use Rattle.board_calls.proofs.Owing.{owed_insides, owed_pair_refused, owed_pair_made}
use Rattle.thurafeqa.proofs.thurafeqa_board_linked.Goals as goal

pub returns-in-Some : goal.returns-in-Some
returns-in-Some c =
    let why = refused_with (sym c.in-Some.is ∙ c.refused_two.ensures) in
    owed_pair_refused c.args.owed c.args.host c.args.client c.args.limit c.args.board.now why.0 why.1

pub bounds-board-client : goal.bounds-board-client
bounds-board-client c =
    (owed_insides c.args.owed c.args.host c.args.client c.args.limit c.args.board.now (refused_not (sym c.in_default.is ∙ c.refused_two.ensures)) zero-le).1.0

pub bounds-board-host : goal.bounds-board-host
bounds-board-host c =
    (owed_insides c.args.owed c.args.host c.args.client c.args.limit c.args.board.now (refused_not (sym c.in_default.is ∙ c.refused_two.ensures)) zero-le).0

pub bounds-board-client-2 : goal.bounds-board-client-2
bounds-board-client-2 c =
    rw length-set
    (owed_insides c.args.owed c.args.host c.args.client c.args.limit c.args.board.now (refused_not (sym c.in_default.is ∙ c.refused_two.ensures)) zero-le).1.0

pub returns : goal.returns
returns c =
    owed_pair_made c.args.owed c.args.host c.args.client c.args.limit c.args.board.now (refused_not (sym c.in_default.is ∙ c.refused_two.ensures))
    c.join_counted-told.result c.join_counted-told.new.host c.join_counted-told.new.client zero-le c.join_counted-told.ensures
