-- Each arm is the clause of the definitions for its case.
use Rattle.laws.proofs.Common.{refl, ap}
use Rattle.module_types.specs.declared.Outcome.{Outcome}
use Rattle.script_rules.specs.Script.{line_after, line_text}
use Rattle.script_player.proofs.put_line.Goals as goal

pub returns-in-None-clause-w_after : goal.returns-in-None-clause-w_after
unfolding line_after
returns-in-None-clause-w_after c = rw c.in-None.is refl

pub returns-in-None-clause-written : goal.returns-in-None-clause-written
unfolding line_text
returns-in-None-clause-written c = rw c.in-None.is c.put_refused.ensures.written

pub returns-in-Some-clause-w_after : goal.returns-in-Some-clause-w_after
unfolding line_after
returns-in-Some-clause-w_after c = rw c.in-Some.is (ap (λ (o : Outcome). o.after) c.perform-answer.ensures.outcome)

pub returns-in-Some-clause-written : goal.returns-in-Some-clause-written
unfolding line_text
returns-in-Some-clause-written c = rw (c.in-Some.is, ← c.perform-answer.ensures.outcome) c.put_answer.ensures.written
