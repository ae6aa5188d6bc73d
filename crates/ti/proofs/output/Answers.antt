-- The tests are the definition.
use Rattle.laws.proofs.Common.{ap, sym, ◌∙◌, arith, if_true, if_false}
use Rattle.ti.specs.Memory.{output_bits}
use Rattle.ti.proofs.Calls.{flag_on, flag_off}
use Rattle.ti.proofs.Outcomes.{output_is}
use Rattle.ti.proofs.output.Goals as goal

pub returns-then-w : goal.returns-then-w
returns-then-w c = (ap output_bits (sym (if_true _ _ _ c.if-w.true)) ∙ output_is _, omega arith)

pub returns-then-w-ne0 : goal.returns-then-w-ne0
returns-then-w-ne0 c =
    (ap output_bits (sym (if_false _ _ _ c.if-w.false ∙ if_true _ _ _ (flag_on _ c.if-w-ne0.true))) ∙ output_is _, omega arith)

pub returns-else-w-ne0 : goal.returns-else-w-ne0
returns-else-w-ne0 c =
    (ap output_bits (sym (if_false _ _ _ c.if-w.false ∙ if_false _ _ _ (flag_off _ c.if-w-ne0.false))) ∙ output_is _, omega arith)
