-- A tick by its own way, or any call between two counts.
use Rattle.laws.proofs.Common.{refl, when◌then◌else◌}
use Rattle.module_rules.specs.Calls.{perform_of}
use Rattle.module_by_number.specs.Told.{answer_number, level_in}
use Rattle.module_by_number.proofs.Answers.{told}
use Rattle.board_calls.specs.Boards.{asked_of}
use Rattle.board_calls.proofs.Asks.{made}
use Rattle.board_calls.proofs.Owing.{owed_asked, within_owed, makes_owed}
use Rattle.board_calls.proofs.make_counted.Goals as goal

pub returns-then-tick_within : goal.returns-then-tick_within
unfolding asked_of when◌then◌else◌ level_in perform_of answer_number
returns-then-tick_within c =
    owed_asked 3 c.args.x c.args.y c.args.z c.if-kind-eq3.true
    (makes_owed (made (told (c.tick_within.ensures.taken c.if-tick_within.true) refl)) refl refl (within_owed c.args.owed (c.tick_within.ensures.goes c.if-tick_within.true)) c.both.ensures)

pub returns-then-kind-eq3 : goal.returns-then-kind-eq3
unfolding asked_of when◌then◌else◌ level_in
returns-then-kind-eq3 c =
    owed_asked 3 c.args.x c.args.y c.args.z c.if-kind-eq3.true (rw (c.tick_within.ensures.left c.if-tick_within.false) at (c.tick_between.ensures.makes c.args.report.now))

pub returns : goal.returns
returns c = c.make_between.ensures
