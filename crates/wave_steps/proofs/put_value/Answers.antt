-- A number that stands for none is z; any other is its digits.
use Rattle.laws.proofs.Common.{lt-ltb, le-ltb, arith, when◌then◌else◌}
use Rattle.script_digits.proofs.Digits.{digits_length}
use Rattle.wave_steps.specs.Wave.{value_of}
use Rattle.wave_steps.proofs.Waves.{binary_digits}
use Rattle.wave_steps.proofs.put_value.Goals as goal

pub returns-then-n-gt65535-clause-written : goal.returns-then-n-gt65535-clause-written
unfolding value_of when◌then◌else◌
returns-then-n-gt65535-clause-written c = rw (lt-ltb _ _ c.if-n-gt65535.true) (c.put.ensures.written (omega arith))

pub returns-else-n-gt65535-clause-written : goal.returns-else-n-gt65535-clause-written
unfolding value_of when◌then◌else◌
returns-else-n-gt65535-clause-written c =
    rw (le-ltb _ _ c.if-n-gt65535.false, binary_digits c.args.places c.args.n) (c.put_binary.ensures.written (omega arith, omega arith))

pub returns-else-n-gt65535-clause-upper_bound : goal.returns-else-n-gt65535-clause-upper_bound
unfolding value_of when◌then◌else◌
returns-else-n-gt65535-clause-upper_bound c =
    let written = c.put_binary.ensures.written (omega arith, omega arith) in
    omega (arith, digits_length 2 c.args.places c.args.n)
