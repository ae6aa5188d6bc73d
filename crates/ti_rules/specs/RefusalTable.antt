-- Request Ten, "Refusals": the rows in the order of the tests, each in the request's words.
use Rattle.std.specs.Prelude.{ℕ, Bool, false, not, ◌&&◌, ◌||◌, List, [], ◌∷◌, eqb, ltb, length}
use Rattle.std.specs.Bool.{beq}
use Rattle.laws.specs.Choice.{when◌then◌else◌}
use Rattle.ti_rules.specs.declared.Settings.{Settings}
use Rattle.ti_rules.specs.declared.Ti.{Ti}
use Rattle.ti_rules.specs.declared.Call.{Call}
use Rattle.ti_rules.specs.declared.Call.TheVariants.{Enter, Leave, Mode, Length, Write, Read, Tick, Pin, Clear}
use Rattle.ti_rules.specs.Watch.{in_buffer}
use Rattle.ti_rules.specs.Flags.{length_asked, sets_length, writes_character, reads_character, is_tick, is_pin_call}

-- A row: its number, and whether it applies. The first row that applies gives its number, and none gives 0.
pub record Row : Type 0 where
  pub number : ℕ
  pub applies : Bool

abbrev pub row : ℕ → Bool → Row
row number applies = record { number = number; applies = applies }

abbrev pub first_number : List Row → ℕ
first_number [] = 0
first_number (r ∷ rows) = when r.applies then r.number else first_number rows

-- Another mode: master, polarity or phase is not the present one. Talk may change.
abbrev pub other_mode : Settings → Call → Bool
other_mode s Enter = false
other_mode s Leave = false
other_mode s (Mode master talk polarity phase) =
    beq master (not s.master) || (beq polarity (not s.polarity) || beq phase (not s.phase))
other_mode s (Length n) = false
other_mode s (Write v) = false
other_mode s Read = false
other_mode s (Tick sdi) = false
other_mode s (Pin sck sdi select) = false
other_mode s Clear = false

abbrev pub rows : Ti → Call → List Row
rows m c =
    -- a length set out of reset, or another mode
    row 3 (not m.reset && (sets_length c || other_mode m.settings c))
    -- a buffer read or write, a tick or a pin call in reset
    ∷ row 2 (m.reset && (writes_character c || (reads_character c || (is_tick c || is_pin_call c))))
    -- length 0 or above 16
    ∷ row 24 (sets_length c && (eqb (length_asked c) 0 || ltb 16 (length_asked c)))
    -- a write with the transmit buffer full
    ∷ row 5 (writes_character c && eqb (length (in_buffer m.engine.waiting)) 1)
    -- a read with nothing unread
    ∷ row 6 (reads_character c && eqb (length (in_buffer m.engine.unread)) 0)
    -- a tick of a slave, a pin call of a master
    ∷ row 7 ((is_tick c && not m.settings.master) || (is_pin_call c && m.settings.master))
    ∷ []
