-- Call by call, what it leaves in memory: that of its crate, or that of the shorter way for a tick and for pins. Assumes nothing.
use Rattle.laws.proofs.Common.{ap}
use Rattle.module_types.specs.declared.Outcome.{Outcome}
use Rattle.module_rules.specs.Calls.{perform_of}
use Rattle.trace_player.proofs.Playing.{read_leaves, leaves}
use Rattle.trace_player.proofs.ArrayU1696Player.perform.Goals as goal

pub returns-in-Write : goal.returns-in-Write
unfolding perform_of
returns-in-Write c = leaves _ c.in-Write.is c.write.ensures.holds

pub returns-then-register-eq3 : goal.returns-then-register-eq3
unfolding perform_of
returns-then-register-eq3 c = leaves _ c.in-Read.is (rw c.if-register-eq3.true c.read.ensures.holds)

pub returns-else-register-eq3 : goal.returns-else-register-eq3
returns-else-register-eq3 c = leaves _ c.in-Read.is (read_leaves _ _ c.if-register-eq3.false)

pub returns-then-not-tick_within : goal.returns-then-not-tick_within
unfolding perform_of
returns-then-not-tick_within c =
    leaves _ c.in-Tick.is (rw (c.tick_within.ensures.left c.if-not-tick_within.true) at c.tick.ensures).holds

pub returns-else-not-tick_within : goal.returns-else-not-tick_within
unfolding perform_of
returns-else-not-tick_within c =
    leaves _ c.in-Tick.is (ap (λ (o : Outcome). o.after) (c.tick_within.ensures.taken c.if-not-tick_within.false).outcome)

pub returns-then-not-pins_within : goal.returns-then-not-pins_within
unfolding perform_of
returns-then-not-pins_within c =
    leaves _ c.in-Pin.is (rw (c.pins_within.ensures.left c.if-not-pins_within.true) at c.pins.ensures).holds

pub returns-else-not-pins_within : goal.returns-else-not-pins_within
unfolding perform_of
returns-else-not-pins_within c =
    leaves _ c.in-Pin.is (ap (λ (o : Outcome). o.after) (c.pins_within.ensures.taken c.if-not-pins_within.false).outcome)

pub returns-in-ClockStep : goal.returns-in-ClockStep
unfolding perform_of
returns-in-ClockStep c = leaves _ c.in-ClockStep.is c.clock_step.ensures.holds

pub returns-in-Clear : goal.returns-in-Clear
unfolding perform_of
returns-in-Clear c = leaves _ c.in-Clear.is c.clear.ensures.holds
