-- Each arm is the clause of the definition for its case.
use Rattle.module_rules.specs.Calls.{perform_of}
use Rattle.module_calls.proofs.perform.Goals as goal

pub returns-in-Read : goal.returns-in-Read
unfolding perform_of
returns-in-Read c = rw c.in-Read.is c.read.ensures

pub returns-in-Write : goal.returns-in-Write
unfolding perform_of
returns-in-Write c = rw c.in-Write.is c.write.ensures

pub returns-in-Tick : goal.returns-in-Tick
unfolding perform_of
returns-in-Tick c = rw c.in-Tick.is c.tick.ensures

pub returns-in-Pin : goal.returns-in-Pin
unfolding perform_of
returns-in-Pin c = rw c.in-Pin.is c.pins.ensures

pub returns-in-ClockStep : goal.returns-in-ClockStep
unfolding perform_of
returns-in-ClockStep c = rw c.in-ClockStep.is c.clock_step.ensures

pub returns-in-Clear : goal.returns-in-Clear
unfolding perform_of
returns-in-Clear c = rw c.in-Clear.is c.clear.ensures
