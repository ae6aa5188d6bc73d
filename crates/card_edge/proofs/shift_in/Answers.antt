-- Twice the register and one bit, of which 32 bits are kept.
use Rattle.laws.proofs.Common.{arith}
use Rattle.card_rules.specs.Edge.{shifted_in}
use Rattle.word_order.proofs.WordBits.{bit_most}
use Rattle.card_edge.proofs.shift_in.Goals as goal

pub returns : goal.returns
unfolding shifted_in
returns c = omega (arith, bit_most c.args.sdi)
