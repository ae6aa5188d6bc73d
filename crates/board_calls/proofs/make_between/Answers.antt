-- Any call between two counts.
use Rattle.board_calls.proofs.Owing.{makes_owed}
use Rattle.board_calls.proofs.make_between.Goals as goal

pub returns : goal.returns
returns c = makes_owed c.make-answer.ensures c.count-was.ensures.0 c.count-is.ensures.0 c.moved.ensures.0 c.both.ensures
