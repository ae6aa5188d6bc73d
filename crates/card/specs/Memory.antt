-- A card in memory: which of 40 numbers of 32 bits holds what. Any numbers hold a card: a flag or a level is a number's lowest bit, a count
-- of edges its low 8 bits. Numbers that nothing here names are spare.
use Rattle.std.specs.Prelude.{ℕ, ◌+◌, ◌*◌, ◌/◌, ◌%◌, Bool, ◌&&◌, List, [], ◌∷◌, ◌≡◌, eqb, ltb, get_or, Option, Some, None}
use Rattle.laws.specs.Choice.{when◌then◌else◌}
use Rattle.ring.specs.Ring.{contents}
use Rattle.word_order.specs.Port.{Way, idle, sends}
use Rattle.card_rules.specs.Settings.{Protocol, i2s, left_justified, right_justified, pcm, Settings, Shape, shape_of}
use Rattle.card_rules.specs.Card.{Engine, Card}
use Rattle.card_rules.specs.Edge.{last_edge}
use Rattle.card.specs.declared.Frame.{Frame}

unfoldable pub bit_in : ℕ → Bool
bit_in x = eqb (x % 2) 1

unfoldable pub byte_in : ℕ → ℕ
byte_in x = x % 256

-- The settings in one number: the protocol in its low two bits, and above it 0 for 16 in 32, then 16, 24 and 32 in 64.
unfoldable pub protocol_in : ℕ → Protocol
protocol_in x =
    when eqb (x % 4) 0 then i2s
    else when eqb (x % 4) 1 then left_justified
    else when eqb (x % 4) 2 then right_justified
    else pcm

unfoldable pub bits_in : ℕ → ℕ
bits_in x = when ltb (x / 4 % 4) 2 then 16 else when eqb (x / 4 % 4) 2 then 24 else 32

unfoldable pub frame_in : ℕ → ℕ
frame_in x = when eqb (x / 4 % 4) 0 then 32 else 64

-- The number of a length and frame there, if they are named.
unfoldable pub length_number : ℕ → ℕ → Option ℕ
length_number bits frame =
    when eqb bits 16 && eqb frame 32 then Some 0
    else when eqb frame 64 then (when eqb bits 16 then Some 1 else when eqb bits 24 then Some 2 else when eqb bits 32 then Some 3 else None)
    else None

unfoldable pub settings_from : ℕ → Settings
settings_from x = record { protocol = protocol_in x; bits = bits_in x; frame = frame_in x }

-- The numbers from a place on, and the eight cells of a ring there.
abbrev pub from : ℕ → (ℕ → ℕ) → ℕ → ℕ
from first place k = place (first + k)

abbrev pub cells_at : (ℕ → ℕ) → List ℕ
cells_at place = place 0 ∷ place 1 ∷ place 2 ∷ place 3 ∷ place 4 ∷ place 5 ∷ place 6 ∷ place 7 ∷ []

-- A ring's read position goes round its eight cells, and it holds at most eight samples: so any two numbers are a ring.
unfoldable pub count_in : ℕ → ℕ
count_in x = when ltb x 8 then x else 8

unfoldable pub samples_at : ℕ → ℕ → (ℕ → ℕ) → List ℕ
samples_at read count place = contents 0 8 (cells_at place) (read % 8) (count_in count)

-- The sample under way.
abbrev pub way_at : (ℕ → ℕ) → Way
way_at place =
    when bit_in (place 3)
    then sends (record { filler = bit_in (place 4); word = place 5; edges = byte_in (place 6); received = place 7 })
    else idle

-- The edge of the frame at place 2, the sample under way from place 3, the pins from 8, the flags from 11; the samples waiting from place 24
-- by the position and count at 13 and 14, and those unread from place 32 by those at 15 and 16.
abbrev pub engine_at : (ℕ → ℕ) → Engine
engine_at place =
    record {
      place = byte_in (place 2);
      waiting = samples_at (place 13) (place 14) (from 24 place);
      way = way_at place;
      unread = samples_at (place 15) (place 16) (from 32 place);
      pins = record { sck = bit_in (place 8); lrck = bit_in (place 9); sdo = bit_in (place 10) };
      flags = record { underrun = bit_in (place 11); overflow = bit_in (place 12) };
    }

abbrev pub place_in : List ℕ → ℕ → ℕ
place_in w k = get_or w k 0

unfoldable pub engine_in : List ℕ → Engine
engine_in w = engine_at (place_in w)

-- Whether it is enabled at place 0, and its settings at place 1.
pub record Head : Type 0 where
  pub enabled : Bool
  pub settings : Settings

abbrev pub head_at : (ℕ → ℕ) → Head
head_at place = record { enabled = bit_in (place 0); settings = settings_from (place 1) }

unfoldable pub head_in : List ℕ → Head
head_in w = head_at (place_in w)

abbrev pub shape_in : List ℕ → Shape
shape_in w = shape_of (head_in w).settings

abbrev pub card_in : List ℕ → Card
card_in w = record { enabled = (head_in w).enabled; settings = (head_in w).settings; engine = engine_in w }

-- A shape by its edges, as the code has it.
unfoldable pub framed : Shape → Frame
framed s =
    record {
      first = 2 * s.before;
      second = 2 * (s.before + s.step);
      lead = 2 * s.lead;
      last = last_edge s;
      edges = 2 * s.frame;
      active = 2 * s.active;
      rest = s.rest;
    }

-- Memory before and after a step of the engine: the head stays.
pub record Moves (f : Shape → Engine → Engine) (before after : List ℕ) : Type 0 where
  pub head : head_in after ≡ head_in before
  pub engine : engine_in after ≡ f (shape_in before) (engine_in before)
