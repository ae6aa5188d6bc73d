-- Each branch is a value of the choice.
use Rattle.laws.proofs.Common.{arith, so_lt, not_so_lt}
use Rattle.script_rules.specs.Script.{hex_of}
use Rattle.script_digits.proofs.letter.Goals as goal

pub returns-then-low-lt10 : goal.returns-then-low-lt10
unfolding hex_of
returns-then-low-lt10 c = so_lt _ _ _ _ c.if-low-lt10.true (cc)

pub returns-else-low-lt10 : goal.returns-else-low-lt10
unfolding hex_of
returns-else-low-lt10 c = not_so_lt _ _ _ _ c.if-low-lt10.false (omega arith)
