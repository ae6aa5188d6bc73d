-- The run, between two counts of each end.
use Rattle.board_calls.proofs.Owing.{links_owed}
use Rattle.board_calls.proofs.join_counted.Goals as goal

pub returns : goal.returns
returns c =
    links_owed c.linked-answer.ensures c.count-host_was.ensures.0 c.count-client_was.ensures.0 c.count.ensures.0 c.count-2.ensures.0 c.moved-first.ensures.0 c.moved.ensures.0 c.both.ensures
