-- A product of two bytes has 16 bits. Assumes nothing.
use borrow.Author.Rules.{rules}
use Rattle.laws.proofs.Common.{lt_of_le_of_lt, mul-le-mul, lit<}
use Rattle.clock_rules.specs.Clock.{divider_of}
use Rattle.clock_report.proofs.divider.Goals as goal

pub overflow_mul-result : goal.overflow_mul-result
overflow_mul-result c = record { fits = lt_of_le_of_lt (mul-le-mul {n₂ = 255} {m₂ = 255} (search rules) (search rules)) (lit< tt) }

pub returns : goal.returns
unfolding divider_of
returns c = cc
