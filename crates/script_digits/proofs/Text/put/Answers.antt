-- With room one byte is stored, and the next place is one further.
use Rattle.laws.proofs.Common.{arith}
use Rattle.script_rules.specs.Texts.{put}
use Rattle.script_digits.proofs.Text.put.Goals as goal

pub returns-then-self-clause-written : goal.returns-then-self-clause-written
unfolding put
returns-then-self-clause-written g c room = record { buffer = cc; behind = omega arith }
