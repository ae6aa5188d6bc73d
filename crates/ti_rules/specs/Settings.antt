-- Document 002, 1.4.4 and 2.1.1, with request Ten: software reset, what may be set in it and out of it, and power-up.
use Rattle.std.specs.Prelude.{ℕ, Bool, true, false, not, ◌&&◌, ◌||◌, ltb, eqb, None}
use Rattle.std.specs.Bool.{beq}
use Rattle.ti_rules.specs.declared.Settings.{Settings}
use Rattle.ti_rules.specs.declared.Engine.{Engine}
use Rattle.ti_rules.specs.declared.Ti.{Ti}

-- Reset empties both buffers and the shift register, takes the overrun flag down, and leaves the pins at rest: the clock at its inactive
-- level, select high, the output low.
unfoldable pub rested_at : Bool → Engine
rested_at polarity =
    record {
      waiting = None;
      shift = None;
      unread = None;
      pins = record { sck = polarity; select = true; sdo = false };
      overrun = false;
    }

-- 1.4.4: a slave with its output off, data latched on the falling edge, one bit a character, in reset.
unfoldable pub powered_up : Ti
powered_up =
    record {
      reset = true;
      settings = record { master = false; talk = false; polarity = false; phase = false; length = 1 };
      engine = rested_at false;
    }

-- A character has 1 to 16 bits.
unfoldable pub is_length : ℕ → Bool
is_length n = not (eqb n 0) && not (ltb 16 n)

abbrev pub with_length : ℕ → Settings → Settings
with_length n s = record { master = s.master; talk = s.talk; polarity = s.polarity; phase = s.phase; length = n }

abbrev pub mode_of : Bool → Bool → Bool → Bool → Settings → Settings
mode_of master talk polarity phase s =
    record { master = master; talk = talk; polarity = polarity; phase = phase; length = s.length }

-- A mode that differs from the present one in more than talk.
unfoldable pub changes_mode : Bool → Bool → Bool → Settings → Bool
changes_mode master polarity phase s =
    not (beq master s.master) || (not (beq polarity s.polarity) || not (beq phase s.phase))
