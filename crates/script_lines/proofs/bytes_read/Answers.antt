-- All of a short script, and of a long one as many as are read.
use Rattle.laws.proofs.Common.{arith, length-take}
use Rattle.script_rules.specs.Script.{most_bytes, read_from}
use Rattle.script_lines.proofs.bytes_read.Goals as goal

pub returns : goal.returns
unfolding most_bytes read_from
returns c = omega (arith, length-take most_bytes c.args.script.now)
