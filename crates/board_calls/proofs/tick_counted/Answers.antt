-- Within a word the total stays; any other tick stands between two counts.
use Rattle.laws.proofs.Common.{refl}
use Rattle.module_rules.specs.Calls.{perform_of}
use Rattle.module_by_number.specs.Told.{answer_number, level_in}
use Rattle.module_by_number.proofs.Answers.{told}
use Rattle.board_calls.proofs.Asks.{made}
use Rattle.board_calls.proofs.Owing.{within_owed, makes_owed}
use Rattle.board_calls.proofs.tick_counted.Goals as goal

pub returns-then-tick_within : goal.returns-then-tick_within
unfolding level_in perform_of answer_number
returns-then-tick_within c =
    record {
      makes = λ floats. makes_owed (made (told (c.tick_within.ensures.taken c.if-tick_within.true) refl)) refl refl (within_owed c.args.owed (c.tick_within.ensures.goes c.if-tick_within.true)) c.both.ensures;
    }

pub returns : goal.returns
unfolding level_in
returns c = rw (c.tick_within.ensures.left c.if-tick_within.false) at c.tick_between.ensures
