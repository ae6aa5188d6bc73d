-- `script_lines::reading` meets its contract: a line of another length than the five has none of the forms. Assumes nothing.
use Rattle.laws.proofs.Common.{sym, arith}
use Rattle.script_rules.proofs.ScriptLines.{no_form}
use Rattle.script_lines.proofs.reading.Goals as goal

pub returns-in_default : goal.returns-in_default
returns-in_default c = sym (no_form _ (λ e. omega arith) (λ e. omega arith) (λ e. omega arith) (λ e. omega arith) (λ e. omega arith))

pub returns-in_default-2 : goal.returns-in_default-2
returns-in_default-2 c = sym (no_form _ (λ e. omega arith) (λ e. omega arith) (λ e. omega arith) (λ e. omega arith) (λ e. omega arith))

pub returns-in_default-3 : goal.returns-in_default-3
returns-in_default-3 c = sym (no_form _ (λ e. omega arith) (λ e. omega arith) (λ e. omega arith) (λ e. omega arith) (λ e. omega arith))

pub returns-in_default-4 : goal.returns-in_default-4
returns-in_default-4 c = sym (no_form _ (λ e. omega arith) (λ e. omega arith) (λ e. omega arith) (λ e. omega arith) (λ e. omega arith))

pub returns-in_default-5 : goal.returns-in_default-5
returns-in_default-5 c = sym (no_form _ (λ e. omega arith) (λ e. omega arith) (λ e. omega arith) (λ e. omega arith) (λ e. omega arith))
