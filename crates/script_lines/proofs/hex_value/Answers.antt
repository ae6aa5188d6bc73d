-- `script_lines::hex_value` meets its contract: a digit is 48 to 57, and a letter 65 to 70. Assumes nothing.
use Rattle.laws.proofs.Common.{arith, ⊎_elim, refl, so_le, not_so_le}
use Rattle.script_rules.specs.Script.{hex_value}
use Rattle.script_lines.proofs.Digits.{hex_range}
use Rattle.script_lines.proofs.hex_value.Goals as goal

pub overflow_sub-result : goal.overflow_sub-result
unfolding hex_value
overflow_sub-result c = ⊎_elim (λ w. omega arith) (λ w. omega arith) (hex_range c.args.b c.requires)

pub overflow_sub-result-else-b-le57 : goal.overflow_sub-result-else-b-le57
unfolding hex_value
overflow_sub-result-else-b-le57 c = ⊎_elim (λ w. absurd (omega arith)) (λ w. omega arith) (hex_range c.args.b c.requires)

pub returns-then-b-le57 : goal.returns-then-b-le57
unfolding hex_value
returns-then-b-le57 c = record { value = so_le _ _ _ _ c.if-b-le57.true refl; upper_bound = omega arith }

pub returns-else-b-le57 : goal.returns-else-b-le57
unfolding hex_value
returns-else-b-le57 c =
    ⊎_elim (λ w. absurd (omega arith))
    (λ w. record { value = not_so_le _ _ _ _ c.if-b-le57.false (omega arith); upper_bound = omega arith })
    (hex_range c.args.b c.requires)
