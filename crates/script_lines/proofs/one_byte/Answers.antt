-- `script_lines::one_byte` meets its contract: of the forms, one alone is of one byte. Assumes nothing.
use Rattle.laws.proofs.Common.{refl, sym, ◌∙◌, so_eq, not_so_eq}
use Rattle.script_lines.proofs.Forms.{of_one}
use Rattle.script_lines.proofs.one_byte.Goals as goal

pub returns-then-k-eq67 : goal.returns-then-k-eq67
returns-then-k-eq67 c = so_eq _ _ _ _ c.if-k-eq67.true refl ∙ sym (of_one _)

pub returns : goal.returns
returns c = not_so_eq _ _ _ _ c.if-k-eq67.false refl ∙ sym (of_one _)
