-- Each branch is a value of the choice.
use Rattle.laws.proofs.Choices.{so, not_so}
use Rattle.script_rules.specs.Script.{level_digit}
use Rattle.script_digits.proofs.level_letter.Goals as goal

pub returns-then-level : goal.returns-then-level
unfolding level_digit
returns-then-level c = so _ _ _ (cc) (cc)

pub returns-else-level : goal.returns-else-level
unfolding level_digit
returns-else-level c = not_so _ _ _ (cc) (cc)
