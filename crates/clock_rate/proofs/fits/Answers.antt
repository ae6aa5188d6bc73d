-- A product of 32 bits and 16 has 48. Assumes nothing.
use borrow.Author.Rules.{rules}
use Rattle.laws.proofs.Common.{lt_of_le_of_lt, mul-le-mul, lit<}
use Rattle.clock_rate_rules.specs.Rate.{fits}
use Rattle.clock_rate.proofs.fits.Goals as goal

pub overflow_mul-result : goal.overflow_mul-result
overflow_mul-result c =
    record { fits = lt_of_le_of_lt (mul-le-mul {n₂ = 4294967295} {m₂ = 65535} (search rules) (search rules)) (lit< tt) }

pub returns : goal.returns
unfolding fits
returns c = cc
