-- Document 02, Nine: what a card holds, and changes by their names. Where the samples stand in memory is the code's own.
use Rattle.std.specs.Prelude.{ℕ, Bool, false, List, []}
use Rattle.word_order.specs.Port.{Way, idle}
use Rattle.card_rules.specs.Settings.{i2s, Settings}

-- The levels of the pins; SDO is driven while the card is enabled.
pub record Pins : Type 0 where
  pub sck : Bool
  pub lrck : Bool
  pub sdo : Bool

pub record Flags : Type 0 where
  pub underrun : Bool
  pub overflow : Bool

-- What samples and edges move: the edge of the frame that comes next, counted from 0; the samples waiting, oldest first; the one under
-- way; those received and not read.
pub record Engine : Type 0 where
  pub place : ℕ
  pub waiting : List ℕ
  pub way : Way
  pub unread : List ℕ
  pub pins : Pins
  pub flags : Flags

pub record Card : Type 0 where
  pub enabled : Bool
  pub settings : Settings
  pub engine : Engine

-- Changes, by what they change.
abbrev pub with_waiting : List ℕ → Engine → Engine
with_waiting x n =
    record { place = n.place; waiting = x; way = n.way; unread = n.unread; pins = n.pins; flags = n.flags }

abbrev pub with_way : Way → Engine → Engine
with_way x n =
    record { place = n.place; waiting = n.waiting; way = x; unread = n.unread; pins = n.pins; flags = n.flags }

abbrev pub with_unread : List ℕ → Engine → Engine
with_unread x n =
    record { place = n.place; waiting = n.waiting; way = n.way; unread = x; pins = n.pins; flags = n.flags }

abbrev pub with_flags : Flags → Engine → Engine
with_flags x n =
    record { place = n.place; waiting = n.waiting; way = n.way; unread = n.unread; pins = n.pins; flags = x }

abbrev pub with_underrun : Bool → Engine → Engine
with_underrun x n = with_flags (record { underrun = x; overflow = n.flags.overflow }) n

abbrev pub with_overflow : Bool → Engine → Engine
with_overflow x n = with_flags (record { underrun = n.flags.underrun; overflow = x }) n

abbrev pub with_sdo : Bool → Engine → Engine
with_sdo x n =
    record {
      place = n.place;
      waiting = n.waiting;
      way = n.way;
      unread = n.unread;
      pins = record { sck = n.pins.sck; lrck = n.pins.lrck; sdo = x };
      flags = n.flags;
    }

abbrev pub with_engine : Engine → Card → Card
with_engine n m = record { enabled = m.enabled; settings = m.settings; engine = n }

-- An engine without samples, at the start of a frame, with these pins and flags.
abbrev pub emptied : Pins → Flags → Engine
emptied pins flags = record { place = 0; waiting = []; way = idle; unread = []; pins = pins; flags = flags }

-- Power-up: I2S with 16 bits in 32 clocks, disabled, and everything else 0.
unfoldable pub powered_up : Card
powered_up =
    record {
      enabled = false;
      settings = record { protocol = i2s; bits = 16; frame = 32 };
      engine = emptied (record { sck = false; lrck = false; sdo = false }) (record { underrun = false; overflow = false });
    }
