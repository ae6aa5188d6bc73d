-- 1 is shifted, and nothing passes 32 bits.
use Rattle.word_calls.proofs.Powers.{unit_least, product_fits, sum_fits, behind_is}
use Rattle.word_calls.proofs.behind.Goals as goal

pub overflow_mul-result : goal.overflow_mul-result
overflow_mul-result c = record { fits = product_fits c.args.n c.requires c.args.x c.ranges.x.fits }

pub nonzero_rem-result : goal.nonzero_rem-result
nonzero_rem-result c = unit_least c.args.n c.requires

pub overflow_add-result : goal.overflow_add-result
overflow_add-result c = record { fits = sum_fits c.args.n c.requires c.args.x c.args.v c.ranges.x.fits }

pub returns : goal.returns
returns c = behind_is c.args.n c.requires c.args.x c.args.v
