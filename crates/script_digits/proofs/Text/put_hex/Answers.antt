-- There is room for all of it, or none is put.
use Rattle.laws.proofs.Common.{arith}
use Rattle.script_digits.proofs.Digits.{digits_length}
use Rattle.script_digits.proofs.Text.put_hex.Goals as goal

pub returns-then-this-clause-written : goal.returns-then-this-clause-written
returns-then-this-clause-written g c room =
    c.put_hex-self.ensures.fits (omega (arith, digits_length 16 c.args.places c.args.n))

pub returns-then-this-clause-full : goal.returns-then-this-clause-full
returns-then-this-clause-full g c short =
    c.put_hex-self.ensures.fails (omega (arith, digits_length 16 c.args.places c.args.n))
