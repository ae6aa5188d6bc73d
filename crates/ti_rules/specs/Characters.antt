-- Document 002, 1.4.2 and 1.3.2, with request Ten: a character on its way, but for its edges: written, loaded or waiting, and read.
use Rattle.std.specs.Prelude.{ℕ, ◌-◌, ◌/◌, ◌%◌, ◌^◌, Bool, false, Option, Some, None, is_some, is_none, option_map}
use Rattle.laws.specs.Choice.{when◌then◌else◌}
use Rattle.word_order.specs.Bits.{bit_of}
use Rattle.ti_rules.specs.declared.Settings.{Settings}
use Rattle.ti_rules.specs.declared.Character.{Character}
use Rattle.ti_rules.specs.declared.Pins.{Pins}
use Rattle.ti_rules.specs.declared.Engine.{Engine}

-- A written character is left-justified in 16 bits: its top bits are the character.
unfoldable pub character_in : Settings → ℕ → ℕ
character_in s value = value % 2 ^ 16 / 2 ^ (16 - s.length)

-- By the document's words: a buffer with a character is full, and a shift register without one is free.
abbrev pub is_full : Option ℕ → Bool
is_full b = is_some b

abbrev pub is_free : Option Character → Bool
is_free sh = is_none sh

-- A character that has had no edge yet, and the one that is loaded from a buffer.
abbrev pub fresh : Bool → ℕ → Character
fresh zeros bits = record { zeros = zeros; bits = bits; edges = 0; received = 0 }

abbrev pub loaded_from : Option ℕ → Option Character
loaded_from b = option_map (fresh false) b

-- Between characters the output stays in phase 0. In phase 1 it shows the top bit of the character that is loaded, 0 if none is.
abbrev pub top_of : Settings → Option ℕ → Bool
top_of s None = false
top_of s (Some c) = bit_of c (s.length - 1)

unfoldable pub between_sdo : Settings → Option ℕ → Bool → Bool
between_sdo s next sdo = when s.phase then top_of s next else sdo

-- Changes of the pins.
abbrev pub with_sdo : Bool → Pins → Pins
with_sdo sdo p = record { sck = p.sck; select = p.select; sdo = sdo }

-- A write: a free shift register takes the character at once, a busy one lets it wait.
abbrev pub written_to : Settings → ℕ → Option Character → Engine → Engine
written_to s c None n =
    record {
      waiting = n.waiting;
      shift = Some (fresh false c);
      unread = n.unread;
      pins = with_sdo (between_sdo s (Some c) n.pins.sdo) n.pins;
      overrun = n.overrun;
    }
written_to s c (Some x) n =
    record { waiting = Some c; shift = Some x; unread = n.unread; pins = n.pins; overrun = n.overrun }

unfoldable pub written : Settings → ℕ → Engine → Engine
written s c n = written_to s c n.shift n

-- A received character takes the place of the unread one.
abbrev pub unread_after : ℕ → Option ℕ → Option ℕ
unread_after received before = Some received

-- A read empties the receive buffer.
unfoldable pub taken : Engine → Engine
taken n = record { waiting = n.waiting; shift = n.shift; unread = None; pins = n.pins; overrun = n.overrun }

-- The overrun flag is taken down.
unfoldable pub cleared : Engine → Engine
cleared n = record { waiting = n.waiting; shift = n.shift; unread = n.unread; pins = n.pins; overrun = false }
