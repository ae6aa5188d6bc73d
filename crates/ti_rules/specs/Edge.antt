-- Document 002, 1.3.2 and 2.1.1, with request Ten: one edge. A character takes two edges a bit, highest bit first; odd edges lead to the
-- clock's active level.
use Rattle.std.specs.Prelude.{ℕ, ◌+◌, ◌*◌, ◌-◌, ◌/◌, ◌%◌, Bool, true, not, ◌||◌, ltb, eqb, Option, Some, None}
use Rattle.std.specs.Bool.{beq}
use mir.Val.{bool_byte}
use Rattle.laws.specs.Choice.{when◌then◌else◌}
use Rattle.word_order.specs.Bits.{bit_of}
use Rattle.ti_rules.specs.declared.Settings.{Settings}
use Rattle.ti_rules.specs.declared.Character.{Character}
use Rattle.ti_rules.specs.declared.Engine.{Engine}
use Rattle.ti_rules.specs.Characters.{fresh, with_sdo}
use Rattle.ti_rules.specs.Finish.{finished}

-- Phase 0 changes the output on odd edges and latches the input on even ones; phase 1 latches on odd edges and moves the output to the
-- next bit on even ones.
unfoldable pub latches : Bool → ℕ → Bool
latches phase edge = beq phase (eqb (edge % 2) 1)

-- A latched bit comes in behind those before it, in a register of 16 bits.
unfoldable pub received_after : Settings → ℕ → Bool → ℕ → ℕ
received_after s edge sdi received =
    when latches s.phase edge then (received * 2 + bool_byte sdi) % 65536 else received

-- The output once an edge short of the last was given.
unfoldable pub sdo_after : Settings → ℕ → ℕ → Bool → Bool
sdo_after s bits edge sdo = when latches s.phase edge then sdo else bit_of bits (s.length - 1 - edge / 2)

-- An edge short of the last.
unfoldable pub shifted : Settings → Bool → Character → Engine → Engine
shifted s sdi c n =
    record {
      waiting = n.waiting;
      shift =
          Some
          (record {
            zeros = c.zeros;
            bits = c.bits;
            edges = c.edges + 1;
            received = received_after s (c.edges + 1) sdi c.received;
          });
      unread = n.unread;
      pins = with_sdo (sdo_after s c.bits (c.edges + 1) n.pins.sdo) n.pins;
      overrun = n.overrun;
    }

-- An edge of a character: the last of its two edges a bit finishes it.
unfoldable pub clocked : Settings → Bool → Character → Engine → Engine
clocked s sdi c n =
    when ltb (c.edges + 1) (2 * s.length) then shifted s sdi c n
    else finished s (received_after s (c.edges + 1) sdi c.received) n

-- What an edge finds in the shift register: with nothing written zeros go out.
abbrev pub under_way : Option Character → Character
under_way None = fresh true 0
under_way (Some c) = c

unfoldable pub edged : Settings → Bool → Engine → Engine
edged s sdi n = clocked s sdi (under_way n.shift) n

-- The levels of clock and select are remembered.
unfoldable pub seen : Bool → Bool → Engine → Engine
seen sck select n =
    record {
      waiting = n.waiting;
      shift = n.shift;
      unread = n.unread;
      pins = record { sck = sck; select = select; sdo = n.pins.sdo };
      overrun = n.overrun;
    }

-- A master's own edge turns its clock.
unfoldable pub turned : Settings → Bool → Engine → Engine
turned s sdi n = edged s sdi (seen (not n.pins.sck) n.pins.select n)

-- A slave's clock moved. An edge counts if it leads the right way for the next of its character: away from rest for an odd one. After
-- a pause it may not.
unfoldable pub leads_on : Settings → Bool → ℕ → Bool
leads_on s sck edges = beq (beq sck s.polarity) (eqb (edges % 2) 1)

-- A slave sees its pins. Select that is high stops the shift register and keeps what is in it: the character is paused.
unfoldable pub stepped : Settings → Bool → Bool → Bool → Engine → Engine
stepped s sck sdi select n =
    when beq sck n.pins.sck || (select || not (leads_on s sck (under_way n.shift).edges)) then seen sck select n
    else edged s sdi (seen sck select n)
