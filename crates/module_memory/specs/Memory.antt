-- A module in memory: which of 96 numbers of 16 bits holds what. Any numbers hold a module: a flag or a level is a number's
-- lowest bit, a byte its low 8 bits. Numbers that nothing here names are spare.
use Rattle.std.specs.Prelude.{ℕ, zero, suc, ◌+◌, ◌%◌, Bool, List, [], ◌∷◌, ◌≡◌, eqb, get_or, set}
use Rattle.laws.specs.Choice.{when◌then◌else◌}
use Rattle.word_order.specs.Bits.{bit_of}
use Rattle.module_types.specs.declared.Con1.{Con1}
use Rattle.module_types.specs.declared.Depth.{Depth}
use Rattle.module_types.specs.declared.Depth.TheVariants.{Four, Eight, Sixteen}
use Rattle.module_types.specs.declared.Settings.{Settings}
use Rattle.module_types.specs.declared.Transmit.{Transmit}
use Rattle.module_types.specs.declared.Receive.{Receive}
use Rattle.module_types.specs.declared.Progress.{Progress}
use Rattle.module_types.specs.declared.Shift.{Shift}
use Rattle.module_types.specs.declared.Pins.{Pins}
use Rattle.module_types.specs.declared.Engine.{Engine}
use Rattle.module_types.specs.declared.Module.{Module}
use Rattle.module_types.specs.declared.Shift.TheVariants.{Free, Loaded, Begun}
use Rattle.module_rules.specs.Changes.{with_receive, with_shift}
use Rattle.module_rules.specs.Buffers.{capacity, cell}
use Rattle.module_rules.specs.Registers.{con1_from, con2_from}

-- A bit and a byte in a number.
unfoldable pub bit_in : ℕ → Bool
bit_in x = eqb (x % 2) 1

unfoldable pub byte_in : ℕ → ℕ
byte_in x = x % 256

-- CON1 as last written at place 2. SPRE and PPRE stand behind it as bytes of their own, and SISEL behind STAT, since a
-- record may have any byte there.
abbrev pub con1_at : (ℕ → ℕ) → Con1
con1_at place =
    record {
      dissck = (con1_from (place 2)).dissck;
      dissdo = (con1_from (place 2)).dissdo;
      mode16 = (con1_from (place 2)).mode16;
      smp = (con1_from (place 2)).smp;
      cke = (con1_from (place 2)).cke;
      ssen = (con1_from (place 2)).ssen;
      ckp = (con1_from (place 2)).ckp;
      msten = (con1_from (place 2)).msten;
      spre = byte_in (place 3);
      ppre = byte_in (place 4);
    }

-- The depth (document 02, Twelve): 4 and 16 are those, and any other number is 8. So zeros are a module at power-up, and memory from before
-- there were depths holds the same module as then.
unfoldable pub depth_in : ℕ → Depth
depth_in x = when eqb x 4 then Four else when eqb x 16 then Sixteen else Eight

-- The registers as last written: STAT at place 0, CON1 at place 2, CON2 at place 5; and the depth at place 6.
abbrev pub settings_at : (ℕ → ℕ) → Settings
settings_at place =
    record {
      depth = depth_in (place 6);
      spien = bit_of (place 0) 15;
      spisidl = bit_of (place 0) 13;
      sisel = byte_in (place 1);
      con1 = con1_at place;
      con2 = con2_from (place 5);
    }

-- The numbers from a place on.
abbrev pub from : ℕ → (ℕ → ℕ) → ℕ → ℕ
from first place k = place (first + k)

-- So many numbers, one after the other.
abbrev pub cells_at : ℕ → (ℕ → ℕ) → List ℕ
cells_at zero place = []
cells_at (suc n) place = place 0 ∷ cells_at n (λ k. place (suc k))

-- The words of a buffer: one in each of its cells. It has 16 places for them, before its positions and its count.
abbrev pub words_at : (ℕ → ℕ) → List ℕ
words_at place = cells_at capacity place

abbrev pub transmit_at : (ℕ → ℕ) → Transmit
transmit_at place =
    record {
      words = words_at place;
      write = record { 0 = byte_in (place 16) };
      read = record { 0 = byte_in (place 17) };
      count = byte_in (place 18);
    }

abbrev pub receive_at : (ℕ → ℕ) → Bool → Receive
receive_at place marked =
    record {
      words = words_at place;
      write = record { 0 = byte_in (place 16) };
      read = record { 0 = byte_in (place 17) };
      count = byte_in (place 18);
      marked = marked;
    }

-- A word that is begun.
abbrev pub progress_at : (ℕ → ℕ) → Progress
progress_at place =
    record { filler = bit_in (place 65); word = place 66; edges = byte_in (place 67); received = place 68 }

-- The shift register: 0 is free, 1 is loaded, anything else is begun.
abbrev pub shift_at : (ℕ → ℕ) → Shift
shift_at place =
    when eqb (place 64) 0 then Free
    else when eqb (place 64) 1 then Loaded (place 66)
    else Begun (progress_at place)

abbrev pub pins_at : (ℕ → ℕ) → Pins
pins_at place =
    record { sck = bit_in (place 69); ss = bit_in (place 70); sdo = bit_in (place 71); pulse = bit_in (place 74) }

-- The transmit buffer from place 24, the receive buffer from place 44, the rest from place 64, and the receive buffer's mark
-- at place 75.
abbrev pub engine_at : (ℕ → ℕ) → Engine
engine_at place =
    record {
      transmit = transmit_at (from 24 place);
      receive = receive_at (from 44 place) (bit_in (place 75));
      shift = shift_at place;
      pins = pins_at place;
      spirov = bit_in (place 72);
      interrupt = bit_in (place 73);
    }

-- The settings, the engine and the module that memory holds.
abbrev pub place_in : List ℕ → ℕ → ℕ
place_in w k = get_or w k 0

unfoldable pub settings_in : List ℕ → Settings
settings_in w = settings_at (place_in w)

unfoldable pub engine_in : List ℕ → Engine
engine_in w = engine_at (place_in w)

abbrev pub module_in : List ℕ → Module
module_in w = record { settings = settings_in w; engine = engine_in w }

-- A begun word with other edges and other received bits; a shift register with no word begun has neither.
unfoldable pub went_on : ℕ → ℕ → Shift → Shift
went_on edges received Free = Free
went_on edges received (Loaded word) = Loaded word
went_on edges received (Begun p) = Begun (record { filler = p.filler; word = p.word; edges = edges; received = received })

abbrev pub gone_on : ℕ → ℕ → Engine → Engine
gone_on edges received n = with_shift (went_on edges received n.shift) n

-- The receive buffer with another mark: its words stay.
abbrev pub with_mark : Bool → Engine → Engine
with_mark marked n =
    with_receive
    (record {
      words = n.receive.words;
      write = n.receive.write;
      read = n.receive.read;
      count = n.receive.count;
      marked = marked;
    })
    n

-- A word is put into the transmit buffer at its write position, which moves on, with another count.
abbrev pub pushed : ℕ → ℕ → ℕ → Transmit → Transmit
pushed word on count t =
    record {
      words = set t.words (cell t.write.0) word;
      write = record { 0 = on };
      read = t.read;
      count = count;
    }

-- The first word is gone from it: the read position has moved on, with another count.
abbrev pub popped : ℕ → ℕ → Transmit → Transmit
popped on count t = record { words = t.words; write = t.write; read = record { 0 = on }; count = count }

-- The same two of the receive buffer, whose mark stays.
abbrev pub arrived : ℕ → ℕ → ℕ → Receive → Receive
arrived word on count r =
    record {
      words = set r.words (cell r.write.0) word;
      write = record { 0 = on };
      read = r.read;
      count = count;
      marked = r.marked;
    }

abbrev pub fetched : ℕ → ℕ → Receive → Receive
fetched on count r =
    record { words = r.words; write = r.write; read = record { 0 = on }; count = count; marked = r.marked }

-- Memory before and after a step of the engine: the settings stay.
pub record Steps (f : Settings → Engine → Engine) (before after : List ℕ) : Type 0 where
  pub settings : settings_in after ≡ settings_in before
  pub engine : engine_in after ≡ f (settings_in before) (engine_in before)

-- Memory before and after a change of settings: the engine stays.
pub record Sets (f : Settings → Settings) (before after : List ℕ) : Type 0 where
  pub settings : settings_in after ≡ f (settings_in before)
  pub engine : engine_in after ≡ engine_in before
