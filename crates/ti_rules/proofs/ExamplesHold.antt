-- The worked cases hold of the rules, by computation.
--     examples_hold, rates_hold   those of specs/Examples.antt
-- Assumes nothing.
use Rattle.std.specs.Prelude.{◌≡◌}
use Rattle.laws.proofs.Common.{true, refl, when◌then◌else◌}
use lib.Ieee.{of_int, div, round, units, odd, span, climb, size, to_bits}
use Rattle.word_order.specs.Bits.{bit_of}
use Rattle.ti_rules.specs.Settings.{rested_at, powered_up, is_length, changes_mode}
use Rattle.ti_rules.specs.Characters.{character_in, between_sdo, written, taken, cleared}
use Rattle.ti_rules.specs.Finish.{finished}
use Rattle.ti_rules.specs.Edge.{latches, received_after, sdo_after, shifted, clocked, edged, seen, turned, leads_on, stepped}
use Rattle.ti_rules.specs.Refusals.{number_of}
use Rattle.ti_rules.specs.Calls.{enter_of, leave_of, set_mode, set_length, write_of, read_of, tick_of, pins_of, clear_of, undriven, sdo_of}
use Rattle.ti_rules.specs.Clock.{divider_of, rate_of}
use Rattle.ti_rules.specs.Examples.{examples, rate_examples}

pub examples_hold : examples ≡ true
unfolding when◌then◌else◌ bit_of rested_at powered_up is_length changes_mode character_in between_sdo written taken cleared finished latches received_after sdo_after shifted clocked edged seen turned leads_on stepped number_of enter_of leave_of set_mode set_length write_of read_of tick_of pins_of clear_of undriven sdo_of
examples_hold = refl

pub rates_hold : rate_examples ≡ true
unfolding when◌then◌else◌ divider_of rate_of of_int div round units odd span climb size to_bits
rates_hold = refl
