-- Document 01, "Loading", with the SDO level that CKE 1 shows between words ("Bits").
use Rattle.std.specs.Prelude.{◌-◌, Bool, true, false, not, ◌&&◌}
use Rattle.laws.specs.Choice.{when◌then◌else◌}
use Rattle.word_order.specs.Bits.{bit_of}
use Rattle.module_types.specs.declared.Settings.{Settings}
use Rattle.module_types.specs.declared.Engine.{Engine}
use Rattle.module_types.specs.declared.Transmit.{Transmit}
use Rattle.module_types.specs.declared.Shift.{Shift}
use Rattle.module_types.specs.declared.Shift.TheVariants.{Free, Loaded, Begun}
use Rattle.module_types.specs.declared.Event.TheVariants.{Left}
use Rattle.module_rules.specs.Changes.{with_transmit, with_shift, with_sdo}
use Rattle.module_rules.specs.Settings.{width_of, depth_of, ssen_client, cke_of}
use Rattle.module_rules.specs.Registers.{is_free}
use Rattle.module_rules.specs.Buffers.{empty, first_waiting, departed}
use Rattle.module_rules.specs.Interrupts.{noted}

-- The first waiting word leaves the transmit buffer, which is an event.
unfoldable pub word_leaves : Settings → Engine → Engine
word_leaves s n =
    noted s (Left (departed (depth_of s) n.transmit).count) (with_transmit (departed (depth_of s) n.transmit) n)

-- The first waiting word moves to the shift register.
unfoldable pub moved : Settings → Engine → Engine
moved s n = word_leaves s (with_shift (Loaded (first_waiting n.transmit)) n)

-- A word can load: the shift register is free, a word waits, and the module is no SSEN client, whose word stays in the
-- transmit buffer until finished.
unfoldable pub can_load : Settings → Engine → Bool
can_load s n = is_free n.shift && (not (ssen_client s) && not (empty n.transmit.count))

-- The first waiting word moves as soon as it can.
unfoldable pub loaded : Settings → Engine → Engine
loaded s n = when can_load s n then moved s n else n

-- The top bit of the word to be sent next, 0 if there is none: the loaded word, or the first that waits in an SSEN
-- client.
unfoldable pub next_top : Settings → Transmit → Shift → Bool
next_top s t Free = (ssen_client s && not (empty t.count)) && bit_of (first_waiting t) (width_of s - 1)
next_top s t (Loaded word) = bit_of word (width_of s - 1)
next_top s t (Begun p) = false

-- A word or a filler has begun.
abbrev pub is_begun : Shift → Bool
is_begun Free = false
is_begun (Loaded w) = false
is_begun (Begun p) = true

-- The engine with another SDO level.
unfoldable pub sdo_at : Bool → Engine → Engine
sdo_at level n = with_sdo level n

-- With CKE 1 and no word begun SDO shows the top bit of the word to be sent next. With CKE 0 it stays between words.
unfoldable pub rested : Settings → Engine → Engine
rested s n =
    sdo_at
    (when cke_of s && not (is_begun n.shift) then next_top s n.transmit n.shift else n.pins.sdo)
    n
