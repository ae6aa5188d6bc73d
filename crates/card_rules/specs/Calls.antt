-- Document 02, Nine: the calls of a card, their refusals, and what can be looked at.
use Rattle.std.specs.Prelude.{ℕ, ◌+◌, ◌*◌, ◌^◌, ◌%◌, Bool, true, false, not, ◌&&◌, List, [], ◌∷◌, ◌++◌, ltb, leb}
use Rattle.laws.specs.Choice.{when◌then◌else◌}
use Rattle.card_rules.specs.Settings.{Protocol, named, Settings, Shape, shape_of}
use Rattle.card_rules.specs.Card.{Pins, Engine, Card, with_waiting, with_unread, with_underrun, with_overflow, with_engine, emptied}
use Rattle.card_rules.specs.Edge.{is_full, edged}

pub data Call : Type 0 where
  set_protocol : Protocol → Call
  -- the bits of a sample and the clocks of a frame, together
  set_length : ℕ → ℕ → Call
  enable : Call
  disable : Call
  write : ℕ → Call
  read : Call
  -- one edge, with the level of SDI
  edge : Bool → Call
  clear_underrun : Call
  clear_overflow : Call

-- Why a call is refused, and the papers' numbers.
pub data Refusal : Type 0 where
  is_disabled : Refusal
  is_enabled : Refusal
  transmit_full : Refusal
  receive_empty : Refusal
  not_named : Refusal

abbrev pub number_of : Refusal → ℕ
number_of is_disabled = 2
number_of is_enabled = 3
number_of transmit_full = 5
number_of receive_empty = 6
number_of not_named = 23

pub data Answer : Type 0 where
  refused : Refusal → Answer
  done : Answer
  value : ℕ → Answer

pub record Outcome : Type 0 where
  pub answer : Answer
  pub after : Card

-- A refusal changes nothing.
abbrev pub refuse : Refusal → Card → Outcome
refuse why m = record { answer = refused why; after = m }

abbrev pub doing : Card → Outcome
doing m = record { answer = done; after = m }

-- Protocol, length and frame are set; 23 is for a length and frame that are not named.
abbrev pub with_settings : Settings → Card → Card
with_settings x m = record { enabled = m.enabled; settings = x; engine = m.engine }

-- Settings change while the card is disabled, and are refused with 3 before anything else.
abbrev pub while_disabled : Card → Outcome → Outcome
while_disabled m o = when m.enabled then refuse is_enabled m else o

unfoldable pub set_protocol_of : Card → Protocol → Outcome
set_protocol_of m p =
    while_disabled m (doing (with_settings (record { protocol = p; bits = m.settings.bits; frame = m.settings.frame }) m))

abbrev pub length_set : Card → ℕ → ℕ → Outcome
length_set m bits frame =
    when named bits frame then doing (with_settings (record { protocol = m.settings.protocol; bits = bits; frame = frame }) m)
    else refuse not_named m

unfoldable pub set_length_of : Card → ℕ → ℕ → Outcome
set_length_of m bits frame = while_disabled m (length_set m bits frame)

-- Enabling: SCK idle, LRCK inactive, SDO 0, nothing held. Disabling empties the card, and the pins keep their levels. The flags stay.
abbrev pub resting_pins : Bool → Pins
resting_pins rest = record { sck = rest; lrck = rest; sdo = false }

abbrev pub switched : Bool → Engine → Card → Card
switched enabled n m = record { enabled = enabled; settings = m.settings; engine = n }

abbrev pub switched_on : Card → Card
switched_on m = switched true (emptied (resting_pins (shape_of m.settings).rest) m.engine.flags) m

abbrev pub switched_off : Card → Card
switched_off m = switched false (emptied m.engine.pins m.engine.flags) m

unfoldable pub enable_of : Card → Outcome
enable_of m = when m.enabled then doing m else doing (switched_on m)

unfoldable pub disable_of : Card → Outcome
disable_of m = when m.enabled then doing (switched_off m) else doing m

-- A sample keeps its low bits and waits: nothing loads at a write, so eight fit.
unfoldable pub sample_of : ℕ → ℕ → ℕ
sample_of bits v = v % 2 ^ bits

unfoldable pub write_of : Card → ℕ → Outcome
write_of m v =
    when not m.enabled then refuse is_disabled m
    else when is_full m.engine.waiting then refuse transmit_full m
    else doing (with_engine (with_waiting (m.engine.waiting ++ (sample_of m.settings.bits v ∷ [])) m.engine) m)

-- A read gives the first unread sample.
abbrev pub read_from : Card → List ℕ → Outcome
read_from m [] = refuse receive_empty m
read_from m (sample ∷ rest) = record { answer = value sample; after = with_engine (with_unread rest m.engine) m }

unfoldable pub read_of : Card → Outcome
read_of m = when not m.enabled then refuse is_disabled m else read_from m m.engine.unread

-- The clock never stops while the card is enabled.
unfoldable pub edge_of : Card → Bool → Outcome
edge_of m sdi =
    when not m.enabled then refuse is_disabled m
    else doing (with_engine (edged (shape_of m.settings) sdi m.engine) m)

-- Each flag is cleared by its own call, in any state.
unfoldable pub clear_underrun_of : Card → Outcome
clear_underrun_of m = doing (with_engine (with_underrun false m.engine) m)

unfoldable pub clear_overflow_of : Card → Outcome
clear_overflow_of m = doing (with_engine (with_overflow false m.engine) m)

abbrev pub perform_of : Card → Call → Outcome
perform_of m (set_protocol p) = set_protocol_of m p
perform_of m (set_length bits frame) = set_length_of m bits frame
perform_of m enable = enable_of m
perform_of m disable = disable_of m
perform_of m (write v) = write_of m v
perform_of m read = read_of m
perform_of m (edge sdi) = edge_of m sdi
perform_of m clear_underrun = clear_underrun_of m
perform_of m clear_overflow = clear_overflow_of m

abbrev pub perform : Card → Call → Card
perform m c = (perform_of m c).after

abbrev pub perform_all : Card → List Call → Card
perform_all m [] = m
perform_all m (c ∷ cs) = perform_all (perform m c) cs

-- An answer in the papers' numbers: the refusal number, 0 if the call was done, and the sample that was read, 0 if none was.
pub record Said : Type 0 where
  pub number : ℕ
  pub told : ℕ

abbrev pub said_of : Answer → Said
said_of (refused why) = record { number = number_of why; told = 0 }
said_of done = record { number = 0; told = 0 }
said_of (value v) = record { number = 0; told = v }

-- SDO as others see it: undriven while the card is disabled.
pub data Output : Type 0 where
  low : Output
  high : Output
  undriven : Output

abbrev pub driven : Bool → Output
driven level = when level then high else low

unfoldable pub sdo_of : Card → Output
sdo_of m = when m.enabled then driven m.engine.pins.sdo else undriven

-- Whether the right channel has the next first place; else the left one has it.
unfoldable pub right_next : Card → Bool
right_next m =
    let s : Shape = shape_of m.settings in
    ltb (2 * s.before) m.engine.place && leb m.engine.place (2 * (s.before + s.step))
