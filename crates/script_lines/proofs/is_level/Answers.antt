-- `script_lines::is_level` meets its contract: the test is the definition. Assumes nothing.
use Rattle.laws.proofs.Common.{arith}
use Rattle.script_rules.specs.Script.{between, fits_place}
use Rattle.script_lines.proofs.is_level.Goals as goal

pub returns-in-48 : goal.returns-in-48
unfolding fits_place between
returns-in-48 c = grind arith

pub returns-in_default : goal.returns-in_default
unfolding fits_place between
returns-in_default c = grind arith

pub returns-in_default-2 : goal.returns-in_default-2
unfolding fits_place between
returns-in_default-2 c = grind arith
