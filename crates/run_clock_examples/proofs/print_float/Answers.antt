-- The two tests are what the conversion asks.
use Rattle.std.proofs.lemmas.Float.{T_from_true}
use lib.Ieee.{of_bits, neg}
use Rattle.run_clock_examples.proofs.print_float.Goals as goal

pub truncating_f64_to_u64-n-requires-clause-lower_bound : goal.truncating_f64_to_u64-n-requires-clause-lower_bound
unfolding of_bits neg
truncating_f64_to_u64-n-requires-clause-lower_bound g c = T_from_true _ c.if-x.true

pub truncating_f64_to_u64-n-requires-clause-upper_bound : goal.truncating_f64_to_u64-n-requires-clause-upper_bound
unfolding of_bits neg
truncating_f64_to_u64-n-requires-clause-upper_bound g c = T_from_true _ c.if-x-2.true
