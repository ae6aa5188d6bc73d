-- What the report says, refused or not; the code's 0.0, which is written by its bits, is the definition's nought.
use Rattle.std.specs.Prelude.{◌*◌}
use Rattle.laws.proofs.Common.{ℕ, refl, sym, ◌∙◌, ap, when◌then◌else◌}
use lib.Ieee.{of_bits}
use Rattle.clock_rules.specs.Clock.{report_of, said_clock}
use Rattle.module_by_number.specs.Told.{kind_number, clock_number, clock_floats}
use Rattle.module_by_number.proofs.Answers.{clock-refused, clock-told}
use Rattle.module_by_number.proofs.clock.Goals as goal

pub returns-in-Err : goal.returns-in-Err
unfolding report_of
returns-in-Err c =
    clock-refused _ _ (sym c.in-Err.is ∙ (rw c.settings_in-s.ensures at c.report_by.ensures)) (ap (λ (n : ℕ). n * 65536) c.refusal_number.ensures)

pub returns-in-Ok-Internal : goal.returns-in-Ok-Internal
unfolding report_of said_clock clock_number clock_floats kind_number when◌then◌else◌ of_bits
returns-in-Ok-Internal c =
    clock-told _ _ (sym c.in-Ok-Internal.is ∙ (rw c.settings_in-s.ensures at c.report_by.ensures)) c.in-Ok-Internal.field-0-is
    (record { number = refl; report = refl })

pub returns-in-Ok-External : goal.returns-in-Ok-External
unfolding report_of said_clock clock_number clock_floats kind_number when◌then◌else◌ of_bits
returns-in-Ok-External c =
    clock-told _ _ (sym c.in-Ok-External.is ∙ (rw c.settings_in-s.ensures at c.report_by.ensures)) c.in-Ok-External.field-0-is
    (record { number = refl; report = refl })

pub returns-in-Ok-None : goal.returns-in-Ok-None
unfolding report_of said_clock clock_number clock_floats kind_number when◌then◌else◌ of_bits
returns-in-Ok-None c =
    clock-told _ _ (sym c.in-Ok-None.is ∙ (rw c.settings_in-s.ensures at c.report_by.ensures)) c.in-Ok-None.field-0-is
    (record { number = refl; report = refl })
