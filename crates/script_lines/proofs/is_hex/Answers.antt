-- `script_lines::is_hex` meets its contract: the test is the definition. Assumes nothing.
use Rattle.script_rules.specs.Script.{between, fits_place}
use Rattle.script_lines.proofs.is_hex.Goals as goal

pub returns : goal.returns
unfolding fits_place between
returns c = cc c.is_ascii_digit.ensures.value
