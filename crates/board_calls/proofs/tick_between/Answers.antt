-- A tick between two counts.
use Rattle.module_rules.specs.Calls.{perform_of}
use Rattle.board_calls.proofs.Asks.{made}
use Rattle.board_calls.proofs.Owing.{makes_owed}
use Rattle.board_calls.proofs.tick_between.Goals as goal

pub returns : goal.returns
unfolding perform_of
returns c =
    record { makes = λ floats. makes_owed (made c.tick-answer.ensures) c.count-was.ensures.0 c.count-is.ensures.0 c.moved.ensures.0 c.both.ensures }
