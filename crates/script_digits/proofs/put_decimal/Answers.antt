-- The digits of the definition are as many digits in base ten.
use Rattle.std.specs.Prelude.{◌≡◌}
use Rattle.script_rules.specs.Script.{decimal_of}
use Rattle.script_digits.specs.Digits.{digits_of}
use Rattle.script_digits.proofs.Digits.{decimal_digits}
use Rattle.script_digits.proofs.put_decimal.Goals as goal

pub returns : goal.returns
unfolding decimal_of
returns c =
    let text : decimal_of c.args.n ≡ digits_of 10 c.decimal_places.result c.args.n = cc (decimal_digits 10 c.args.n, c.decimal_places.ensures) in
    rw text c.put_digits.ensures
