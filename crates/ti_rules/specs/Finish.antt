-- Document 002, 1.3.2.1 and 1.4.1.4, with request Ten: what happens once the last bit of a character is through.
use Rattle.std.specs.Prelude.{ℕ, ◌||◌, None}
use Rattle.ti_rules.specs.declared.Settings.{Settings}
use Rattle.ti_rules.specs.declared.Engine.{Engine}
use Rattle.ti_rules.specs.Characters.{is_full, loaded_from, between_sdo, with_sdo, unread_after}

-- The received character replaces the unread one, which is lost and sets the overrun flag. The character that waits is loaded.
unfoldable pub finished : Settings → ℕ → Engine → Engine
finished s received n =
    record {
      waiting = None;
      shift = loaded_from n.waiting;
      unread = unread_after received n.unread;
      pins = with_sdo (between_sdo s n.waiting n.pins.sdo) n.pins;
      overrun = n.overrun || is_full n.unread;
    }
