-- Each arm is the clause of the definition for its case; the code's 0.0, which is written by its bits, is the definition's nought.
-- Assumes nothing.
use Rattle.std.specs.Prelude.{Ok}
use Rattle.laws.proofs.Common.{refl, by_case}
use lib.Ieee.{of_bits}
use Rattle.clock_rules.specs.declared.Clock.{Clock}
use Rattle.clock_rules.specs.Clock.{said_clock}
use Rattle.clock_report.proofs.said.Goals as goal

pub returns-in-Err : goal.returns-in-Err
unfolding said_clock of_bits
returns-in-Err c = by_case said_clock c.in-Err.is (rw c.refusal_number.ensures)

pub returns-in-Ok-Internal : goal.returns-in-Ok-Internal
unfolding said_clock of_bits
returns-in-Ok-Internal c = by_case said_clock c.in-Ok-Internal.is (by_case (λ (x : Clock). said_clock (Ok x)) (rw c.in-Ok-Internal.is at c.in-Ok-Internal.field-0-is) refl)

pub returns-in-Ok-External : goal.returns-in-Ok-External
unfolding said_clock of_bits
returns-in-Ok-External c = by_case said_clock c.in-Ok-External.is (by_case (λ (x : Clock). said_clock (Ok x)) (rw c.in-Ok-External.is at c.in-Ok-External.field-0-is) refl)

pub returns-in-Ok-None : goal.returns-in-Ok-None
unfolding said_clock of_bits
returns-in-Ok-None c = by_case said_clock c.in-Ok-None.is (by_case (λ (x : Clock). said_clock (Ok x)) (rw c.in-Ok-None.is at c.in-Ok-None.field-0-is) refl)
