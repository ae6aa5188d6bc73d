-- Each arm is the clause of the definition for its case.
use Rattle.script_rules.specs.Script.{ss_text}
use Rattle.script_rules.proofs.Texts.{written_none}
use Rattle.script_player.proofs.put_ss.Goals as goal

pub returns-in-Low-clause-written : goal.returns-in-Low-clause-written
unfolding ss_text
returns-in-Low-clause-written c = rw c.in-Low.is c.put_last.ensures.written

pub returns-in-High-clause-written : goal.returns-in-High-clause-written
unfolding ss_text
returns-in-High-clause-written c = rw c.in-High.is c.put_last-in-High.ensures.written

pub returns-in-Undriven-clause-written : goal.returns-in-Undriven-clause-written
unfolding ss_text
returns-in-Undriven-clause-written c = rw c.in-Undriven.is (written_none _ _)
