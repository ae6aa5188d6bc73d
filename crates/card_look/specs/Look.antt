-- A look at a card as one number, bit by bit: 0 SCK, 1 LRCK, 2 SDO (0 if undriven), 3 SDO is driven, 4 the underrun flag, 5 the overflow flag,
-- 6 the right channel has the next first place; 8 to 11 the samples waiting, 12 to 15 those unread; 16 and 17 the protocol, 18 to 23 the
-- bits of a sample, 24 to 30 the clocks of a frame.
use Rattle.std.specs.Prelude.{ℕ, ◌+◌, ◌*◌, length}
use mir.Val.{bool_byte}
use Rattle.card_rules.specs.Card.{Card}
use Rattle.card_rules.specs.Calls.{Output, low, high, undriven, sdo_of, right_next}
use Rattle.card_rules.specs.Figures.{protocol_number}

abbrev pub output_bits : Output → ℕ
output_bits low = 8
output_bits high = 12
output_bits undriven = 0

unfoldable pub look_number : Card → ℕ
look_number m =
    bool_byte m.engine.pins.sck
    + 2 * bool_byte m.engine.pins.lrck
    + output_bits (sdo_of m)
    + 16 * bool_byte m.engine.flags.underrun
    + 32 * bool_byte m.engine.flags.overflow
    + 64 * bool_byte (right_next m)
    + 256 * length m.engine.waiting
    + 4096 * length m.engine.unread
    + 65536 * protocol_number m.settings.protocol
    + 262144 * m.settings.bits
    + 16777216 * m.settings.frame
