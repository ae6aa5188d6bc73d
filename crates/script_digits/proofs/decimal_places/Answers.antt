-- A number has one digit more than its logarithm in base ten.
use Rattle.std.proofs.Common.{rules}
use Rattle.script_digits.proofs.Digits.{decimal_many}
use Rattle.script_digits.proofs.decimal_places.Goals as goal

pub returns : goal.returns
returns c =
    let logarithm = c.checked_ilog10.ensures in
    decimal_many _ _ _ logarithm.none logarithm.power_le logarithm.next_power_gt logarithm.bound c.map_or.ensures (λ k one_more. search rules)
