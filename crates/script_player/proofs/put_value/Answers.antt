-- Four digits in base sixteen are those of the definition.
use Rattle.laws.proofs.Common.{arith}
use Rattle.script_digits.proofs.Digits.{four_hex}
use Rattle.script_player.proofs.put_value.Goals as goal

pub returns-clause-written : goal.returns-clause-written
returns-clause-written c = rw (four_hex c.args.v) (c.put_hex.ensures.written (omega arith, omega arith))
