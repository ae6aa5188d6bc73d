-- Each arm is what SDO shows.
use Rattle.laws.proofs.Common.{arith}
use Rattle.card_look.proofs.Looks.{output_off, output_high, output_low}
use Rattle.card_look.proofs.output.Goals as goal

pub returns-in-0-default : goal.returns-in-0-default
returns-in-0-default c = (output_off _ c.in-0-default.is-0, omega arith)

pub returns-in_default-eq0 : goal.returns-in_default-eq0
returns-in_default-eq0 c = (output_low _ c.in_default-eq0.is-0.1 c.in_default-eq0.is-1, omega arith)

pub returns-in_default : goal.returns-in_default
returns-in_default c = (output_high _ c.in_default.is-0.1 c.in_default.is-1.1, omega arith)
