-- Each arm is the number of what the answer says.
use Rattle.laws.proofs.Common.{arith, by_case}
use Rattle.trace_salvage_rules.specs.Salvage.{salvage_number_of}
use Rattle.thurafeqa.specs.Numbers.{salvage_number}
use Rattle.thurafeqa.proofs.salvage_number.Goals as goal

pub returns-in-Err : goal.returns-in-Err
unfolding salvage_number
returns-in-Err c = by_case salvage_number c.in-Err.is (omega (arith, c.from.ensures, c.from-in-Err.ensures))

pub returns-in-Ok : goal.returns-in-Ok
unfolding salvage_number salvage_number_of
returns-in-Ok c = by_case salvage_number c.in-Ok.is (omega arith)
