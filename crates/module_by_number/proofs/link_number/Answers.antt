-- Each arm is the number of what the answer says.
use Rattle.laws.proofs.Common.{arith, by_case}
use Rattle.link_rules.specs.Link.{link_said_of}
use Rattle.module_by_number.specs.Told.{link_number}
use Rattle.module_by_number.proofs.link_number.Goals as goal

pub returns-in-Err : goal.returns-in-Err
unfolding link_number link_said_of
returns-in-Err c = by_case link_number c.in-Err.is (omega (arith, c.refusal_number.ensures))

pub returns-in-Ok : goal.returns-in-Ok
unfolding link_number link_said_of
returns-in-Ok c = by_case link_number c.in-Ok.is (omega arith)
