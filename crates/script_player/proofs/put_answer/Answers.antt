-- Each arm is the clause of the definition for its case.
use Rattle.laws.proofs.Common.{arith}
use Rattle.script_rules.specs.Script.{answer_text, bytes}
use Rattle.script_player.proofs.put_answer.Goals as goal

pub returns-in-Refused-clause-written : goal.returns-in-Refused-clause-written
unfolding answer_text bytes
returns-in-Refused-clause-written c = rw c.in-Refused.is c.put_refused.ensures.written

pub returns-in-Done-clause-written : goal.returns-in-Done-clause-written
unfolding answer_text bytes
returns-in-Done-clause-written c = rw c.in-Done.is c.put_done.ensures.written

pub returns-in-Value-clause-written : goal.returns-in-Value-clause-written
unfolding answer_text bytes
returns-in-Value-clause-written c = rw c.in-Value.is c.put_value.ensures.written

pub returns-in-NoEdge-clause-written : goal.returns-in-NoEdge-clause-written
unfolding answer_text bytes
returns-in-NoEdge-clause-written c = rw c.in-NoEdge.is (c.put.ensures.written (omega arith))

pub returns-in-Edge-clause-written : goal.returns-in-Edge-clause-written
unfolding answer_text bytes
returns-in-Edge-clause-written c = rw c.in-Edge.is c.put_edge.ensures.written
