-- A memory of zeros holds a card that has just powered up.
use Rattle.laws.proofs.Common.{refl, when◌then◌else◌}
use Rattle.ring.specs.Ring.{contents}
use Rattle.card_rules.specs.Card.{powered_up}
use Rattle.card.specs.Memory.{bit_in, byte_in, protocol_in, bits_in, frame_in, settings_from, count_in, samples_at, head_in, engine_in}
use Rattle.card.proofs.power_up.Goals as goal

pub returns : goal.returns
unfolding when◌then◌else◌ contents powered_up bit_in byte_in protocol_in bits_in frame_in settings_from count_in samples_at head_in engine_in
returns c = refl
