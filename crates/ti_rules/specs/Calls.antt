-- Request Ten: the calls of the TI module, each with its answer and the module after it, and what is seen of a module between calls.
-- Tests stand in the order of the refusals.
use Rattle.std.specs.Prelude.{ℕ, Bool, true, false, not, ◌&&◌, ◌||◌, Option, Some, None}
use Rattle.laws.specs.Choice.{when◌then◌else◌}
use Rattle.ti_rules.specs.declared.Engine.{Engine}
use Rattle.ti_rules.specs.declared.Ti.{Ti}
use Rattle.ti_rules.specs.declared.Refusal.{Refusal}
use Rattle.ti_rules.specs.declared.Refusal.TheVariants.{InReset, OutOfReset, TransmitFull, ReceiveEmpty, WrongClock, WrongLength}
use Rattle.ti_rules.specs.declared.Answer.{Answer}
use Rattle.ti_rules.specs.declared.Answer.TheVariants.{Refused, Done, Value, NoEdge, Edge}
use Rattle.ti_rules.specs.declared.Outcome.{Outcome}
use Rattle.ti_rules.specs.declared.Call.{Call}
use Rattle.ti_rules.specs.declared.Call.TheVariants.{Enter, Leave, Mode, Length, Write, Read, Tick, Pin, Clear}
use Rattle.ti_rules.specs.declared.Output.{Output}
use Rattle.ti_rules.specs.declared.Output.TheVariants.{Low, High, Undriven}
use Rattle.ti_rules.specs.Settings.{rested_at, is_length, with_length, mode_of, changes_mode}
use Rattle.ti_rules.specs.Characters.{character_in, is_full, is_free, written, taken, cleared}
use Rattle.ti_rules.specs.Edge.{turned, stepped}

-- A refusal leaves the module as it was.
abbrev pub refuse : Ti → Refusal → Outcome
refuse m r = record { answer = Refused r; after = m }

-- An answer with another engine.
abbrev pub answering : Ti → Answer → Engine → Outcome
answering m a n = record { answer = a; after = record { reset = m.reset; settings = m.settings; engine = n } }

-- Software reset. Entering it again and leaving it again change nothing.
unfoldable pub enter_of : Ti → Outcome
enter_of m =
    record {
      answer = Done;
      after =
          when m.reset then m else record { reset = true; settings = m.settings; engine = rested_at m.settings.polarity };
    }

unfoldable pub leave_of : Ti → Outcome
leave_of m =
    record {
      answer = Done;
      after =
          when m.reset then record { reset = false; settings = m.settings; engine = rested_at m.settings.polarity } else m;
    }

-- The mode: in reset all of it, and the clock rests at its new inactive level; out of reset talk alone.
unfoldable pub set_mode : Ti → Bool → Bool → Bool → Bool → Outcome
set_mode m master talk polarity phase =
    when m.reset
    then record {
      answer = Done;
      after = record { reset = true; settings = mode_of master talk polarity phase m.settings; engine = rested_at polarity };
    }
    else when changes_mode master polarity phase m.settings then refuse m OutOfReset
    else record {
      answer = Done;
      after = record { reset = false; settings = mode_of master talk polarity phase m.settings; engine = m.engine };
    }

-- The length: in reset only, which is tested first.
unfoldable pub set_length : Ti → ℕ → Outcome
set_length m n =
    when not m.reset then refuse m OutOfReset
    else when not (is_length n) then refuse m WrongLength
    else record { answer = Done; after = record { reset = true; settings = with_length n m.settings; engine = m.engine } }

-- The shift register is busy from loading on, so that a second character waits and a third is refused.
unfoldable pub write_of : Ti → ℕ → Outcome
write_of m v =
    when m.reset then refuse m InReset
    else when is_full m.engine.waiting then refuse m TransmitFull
    else answering m Done (written m.settings (character_in m.settings v) m.engine)

abbrev pub read_from : Ti → Option ℕ → Outcome
read_from m None = refuse m ReceiveEmpty
read_from m (Some c) = answering m (Value c) (taken m.engine)

unfoldable pub read_of : Ti → Outcome
read_of m = when m.reset then refuse m InReset else read_from m m.engine.unread

-- A master with nothing loaded makes no edge.
unfoldable pub tick_of : Ti → Bool → Outcome
tick_of m sdi =
    when m.reset then refuse m InReset
    else when not m.settings.master then refuse m WrongClock
    else when is_free m.engine.shift then record { answer = NoEdge; after = m }
    else answering m Edge (turned m.settings sdi m.engine)

unfoldable pub pins_of : Ti → Bool → Bool → Bool → Outcome
pins_of m sck sdi select =
    when m.reset then refuse m InReset
    else when m.settings.master then refuse m WrongClock
    else answering m Done (stepped m.settings sck sdi select m.engine)

unfoldable pub clear_of : Ti → Outcome
clear_of m = answering m Done (cleared m.engine)

abbrev pub perform_of : Ti → Call → Outcome
perform_of m Enter = enter_of m
perform_of m Leave = leave_of m
perform_of m (Mode master talk polarity phase) = set_mode m master talk polarity phase
perform_of m (Length n) = set_length m n
perform_of m (Write v) = write_of m v
perform_of m Read = read_of m
perform_of m (Tick sdi) = tick_of m sdi
perform_of m (Pin sck sdi select) = pins_of m sck sdi select
perform_of m Clear = clear_of m

-- The flags that firmware polls (SPISTS). A character that is ready to be read keeps the interrupt flag up, as 1.4.1.2 has it; a
-- character that waits is the transmit buffer's.
abbrev pub interrupt_of : Ti → Bool
interrupt_of m = is_full m.engine.unread

abbrev pub transmit_full_of : Ti → Bool
transmit_full_of m = is_full m.engine.waiting

abbrev pub overrun_of : Ti → Bool
overrun_of m = m.engine.overrun

-- The output pin: reset, talk off, and a slave's select that is high leave it to others.
unfoldable pub undriven : Ti → Bool
undriven m = m.reset || (not m.settings.talk || (not m.settings.master && m.engine.pins.select))

unfoldable pub sdo_of : Ti → Output
sdo_of m = when undriven m then Undriven else when m.engine.pins.sdo then High else Low
