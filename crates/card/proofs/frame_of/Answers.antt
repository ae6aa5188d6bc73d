-- Each arm is the frame of its protocol.
use Rattle.laws.proofs.Common.{arith}
use Rattle.card_rules.specs.Settings.{i2s, left_justified, right_justified, pcm}
use Rattle.card.proofs.Frames.{bits_fit, frame_for, protocol_is}
use Rattle.card.proofs.frame_of.Goals as goal

pub overflow_sub-result : goal.overflow_sub-result
overflow_sub-result c = omega (arith, bits_fit _ c.bits_of-sample.ensures.bits c.clocks_of-half.ensures.clocks)

pub returns-in-0 : goal.returns-in-0
returns-in-0 c = frame_for _ i2s (search) (search) ((protocol_is _).0 c.in-0.is)

pub returns-in-1 : goal.returns-in-1
returns-in-1 c = frame_for _ left_justified (search) (search) ((protocol_is _).1 c.in-1.is)

pub returns-in-2 : goal.returns-in-2
returns-in-2 c = frame_for _ right_justified (search) (search) ((protocol_is _).2 c.in-2.is)

pub returns-in_default : goal.returns-in_default
returns-in_default c = frame_for _ pcm (search) (search) ((protocol_is _).3 (λ e. omega arith) (λ e. omega arith) (λ e. omega arith))
