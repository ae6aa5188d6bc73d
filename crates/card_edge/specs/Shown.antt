-- The bit that SDO shows, by a frame in edges.
use Rattle.std.specs.Prelude.{ℕ, ◌-◌, ◌/◌, Bool, false, ltb}
use Rattle.laws.specs.Choice.{when◌then◌else◌}
use Rattle.word_order.specs.Bits.{bit_of}
use Rattle.card.specs.declared.Frame.{Frame}

-- Nothing before the top bit, and then the sample's bits from the highest on.
unfoldable pub shown_bit : Frame → ℕ → ℕ → Bool
shown_bit f word edges = when ltb edges f.lead then false else bit_of word ((f.last - 2 - edges) / 2)
