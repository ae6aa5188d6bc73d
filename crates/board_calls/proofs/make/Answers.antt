-- Each kind is the call of one module that it asks for.
use borrow.Author.Rules.{rules}
use Rattle.laws.proofs.Common.{when◌then◌else◌}
use Rattle.module_rules.specs.Calls.{perform_of}
use Rattle.module_by_number.specs.Told.{level_in}
use Rattle.board_calls.specs.Boards.{asked_of}
use Rattle.board_calls.proofs.Asks.{asked_as, asked_look, made, powered, powered_with, reported, looked, stepped, worded}
use Rattle.board_calls.proofs.make.Goals as goal

pub returns-in-0 : goal.returns-in-0
returns-in-0 c = asked_as 0 _ _ _ c.in-0.is (unfold asked_of when◌then◌else◌ perform_of level_in in powered c.power_up.ensures)

pub returns-in-1 : goal.returns-in-1
returns-in-1 c = asked_as 1 _ _ _ c.in-1.is (unfold asked_of when◌then◌else◌ perform_of level_in in made c.read.ensures)

pub returns-in-2 : goal.returns-in-2
returns-in-2 c = asked_as 2 _ _ _ c.in-2.is (unfold asked_of when◌then◌else◌ perform_of level_in in made c.write.ensures)

pub returns-in-3 : goal.returns-in-3
returns-in-3 c = asked_as 3 _ _ _ c.in-3.is (unfold asked_of when◌then◌else◌ perform_of level_in in made c.tick.ensures)

pub returns-in-4 : goal.returns-in-4
returns-in-4 c = asked_as 4 _ _ _ c.in-4.is (unfold asked_of when◌then◌else◌ perform_of level_in in made c.pins.ensures)

pub returns-in-5 : goal.returns-in-5
returns-in-5 c = asked_as 5 _ _ _ c.in-5.is (unfold asked_of when◌then◌else◌ perform_of level_in in made c.clear.ensures)

pub returns-in-6 : goal.returns-in-6
returns-in-6 c = asked_as 6 _ _ _ c.in-6.is (unfold asked_of when◌then◌else◌ perform_of level_in in reported c.clock.ensures)

pub returns-in-8 : goal.returns-in-8
returns-in-8 c = asked_as 8 _ _ _ c.in-8.is (unfold asked_of when◌then◌else◌ perform_of level_in in stepped c.clock_step.ensures)

pub returns-in-9 : goal.returns-in-9
returns-in-9 c = asked_as 9 _ _ _ c.in-9.is (unfold asked_of when◌then◌else◌ perform_of level_in in powered_with c.power_up_with.ensures)

pub returns-in-10 : goal.returns-in-10
returns-in-10 c = asked_as 10 _ _ _ c.in-10.is (unfold asked_of when◌then◌else◌ perform_of level_in in worded c.told.ensures)

pub returns-in_default : goal.returns-in_default
returns-in_default c =
    asked_look _ _ _ (search rules) (search rules) (search rules) (search rules) (search rules) (search rules) (search rules)
    (search rules) (search rules) (search rules) (looked c.levels.ensures.0)
