-- The steps of an engine of which the code makes the rules: a character is loaded, lands, is followed by the one that waits; zeros that
-- nobody wrote begin.
use Rattle.std.specs.Prelude.{ℕ, Bool, false, ◌||◌, Some, None}
use Rattle.ti_rules.specs.declared.Settings.{Settings}
use Rattle.ti_rules.specs.declared.Engine.{Engine}
use Rattle.ti_rules.specs.Characters.{is_full, fresh, loaded_from, between_sdo, with_sdo}

unfoldable pub begun : Bool → ℕ → Engine → Engine
begun zeros c n =
    record { waiting = n.waiting; shift = Some (fresh zeros c); unread = n.unread; pins = n.pins; overrun = n.overrun }

unfoldable pub loaded_with : Settings → ℕ → Engine → Engine
loaded_with s c n =
    record {
      waiting = n.waiting;
      shift = Some (fresh false c);
      unread = n.unread;
      pins = with_sdo (between_sdo s (Some c) n.pins.sdo) n.pins;
      overrun = n.overrun;
    }

unfoldable pub landed : ℕ → Engine → Engine
landed received n =
    record {
      waiting = n.waiting;
      shift = n.shift;
      unread = Some received;
      pins = n.pins;
      overrun = n.overrun || is_full n.unread;
    }

unfoldable pub next_loaded : Settings → Engine → Engine
next_loaded s n =
    record {
      waiting = None;
      shift = loaded_from n.waiting;
      unread = n.unread;
      pins = with_sdo (between_sdo s n.waiting n.pins.sdo) n.pins;
      overrun = n.overrun;
    }
