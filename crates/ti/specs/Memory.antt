-- A TI module in memory: which of 20 numbers of 16 bits holds what. Any numbers hold a module: a flag or a level is low for 0 and high for any
-- other number, and the length is one more than a number's low four bits, as in SPICCR. What nothing here names is spare.
use Rattle.std.specs.Prelude.{ℕ, ◌+◌, ◌*◌, ◌%◌, Bool, true, false, not, List, ◌≡◌, eqb, get_or, Option, Some, None, Result, Ok, Err}
use Rattle.laws.specs.Choice.{when◌then◌else◌}
use Rattle.ti.specs.declared.Mode.{Mode}
use Rattle.ti_rules.specs.declared.Settings.{Settings}
use Rattle.ti_rules.specs.declared.Character.{Character}
use Rattle.ti_rules.specs.declared.Engine.{Engine}
use Rattle.ti_rules.specs.declared.Ti.{Ti}
use Rattle.ti_rules.specs.declared.Refusal.{Refusal}
use Rattle.ti_rules.specs.declared.Answer.{Answer}
use Rattle.ti_rules.specs.declared.Answer.TheVariants.{Refused, Done, Value, NoEdge, Edge}
use Rattle.ti_rules.specs.declared.Outcome.{Outcome}
use Rattle.ti_rules.specs.declared.Output.{Output}
use Rattle.ti_rules.specs.declared.Output.TheVariants.{Low, High, Undriven}
use Rattle.ti_rules.specs.Settings.{mode_of}
use Rattle.ti_rules.specs.Refusals.{said_of}
use Rattle.ti_rules.specs.Calls.{interrupt_of, transmit_full_of, overrun_of, sdo_of}

abbrev pub flag_in : ℕ → Bool
flag_in x = not (eqb x 0)

abbrev pub length_in : ℕ → ℕ
length_in x = x % 16 + 1

-- Place 0 is not 0 out of reset. Places 1 to 5 are master, talk, polarity, phase and length.
abbrev pub settings_at : (ℕ → ℕ) → Settings
settings_at place =
    record {
      master = flag_in (place 1);
      talk = flag_in (place 2);
      polarity = flag_in (place 3);
      phase = flag_in (place 4);
      length = length_in (place 5);
    }

-- A buffer: whether it holds a character, and which.
abbrev pub buffer_at : ℕ → ℕ → Option ℕ
buffer_at held c = when eqb held 0 then None else Some c

-- Place 6 is not 0 while a character is in the shift register; it is told by places 7 to 10.
abbrev pub character_at : (ℕ → ℕ) → Character
character_at place = record { zeros = flag_in (place 7); bits = place 8; edges = place 9; received = place 10 }

abbrev pub shift_at : (ℕ → ℕ) → Option Character
shift_at place = when eqb (place 6) 0 then None else Some (character_at place)

-- The transmit buffer is at places 11 and 12, the receive buffer at 13 and 14, the overrun flag at 15, the pins at 16 to 18.
abbrev pub engine_at : (ℕ → ℕ) → Engine
engine_at place =
    record {
      waiting = buffer_at (place 11) (place 12);
      shift = shift_at place;
      unread = buffer_at (place 13) (place 14);
      pins = record { sck = flag_in (place 16); select = flag_in (place 17); sdo = flag_in (place 18) };
      overrun = flag_in (place 15);
    }

abbrev pub module_at : (ℕ → ℕ) → Ti
module_at place = record { reset = eqb (place 0) 0; settings = settings_at place; engine = engine_at place }

abbrev pub place_in : List ℕ → ℕ → ℕ
place_in w k = get_or w k 0

unfoldable pub ti_in : List ℕ → Ti
ti_in w = module_at (place_in w)

-- Memory then holds this module.
pub record Becomes (m : Ti) (after : List ℕ) : Type 0 where
  pub holds : ti_in after ≡ m

-- A step of the engine: all else stays.
abbrev pub engine_step : (Settings → Engine → Engine) → Ti → Ti
engine_step f m = record { reset = m.reset; settings = m.settings; engine = f m.settings m.engine }

pub record Steps (f : Settings → Engine → Engine) (before after : List ℕ) : Type 0 where
  pub steps : ti_in after ≡ engine_step f (ti_in before)

-- In reset or out of it: all else stays.
abbrev pub with_reset : Bool → Ti → Ti
with_reset b m = record { reset = b; settings = m.settings; engine = m.engine }

-- The mode of settings, and another mode: all else stays.
abbrev pub mode_in : Settings → Mode
mode_in s = record { master = s.master; talk = s.talk; polarity = s.polarity; phase = s.phase }

abbrev pub with_mode : Bool → Bool → Bool → Bool → Ti → Ti
with_mode master talk polarity phase m =
    record { reset = m.reset; settings = mode_of master talk polarity phase m.settings; engine = m.engine }

-- An answer as one number: the upper 16 bits are the refusal number, 0 if the call was not refused; the lower 16 bits are the character of a
-- read, or the edges that a tick made, 0 or 1.
unfoldable pub answer_number : Answer → ℕ
answer_number a = (said_of a).number * 65536 + (said_of a).value + (said_of a).edges

-- The answers of calls that leave every number as it was: a refusal, and no edge.
abbrev pub untouching : Answer → Bool
untouching (Refused r) = true
untouching Done = false
untouching (Value v) = false
untouching NoEdge = true
untouching Edge = false

-- A call returns the number of its definition's answer, and memory then holds the definition's module. A refused call, and a tick that makes
-- no edge, leave every number as it was.
pub record Tells (o : Outcome) (r : ℕ) (before after : List ℕ) : Type 0 where
  pub number : r ≡ answer_number o.answer
  pub holds : ti_in after ≡ o.after
  pub untouched : untouching o.answer ≡ true → after ≡ before

-- What a Result says, by the answer that its value is: an error is a refusal.
abbrev pub answer_of : {A : Type 0} → (A → Answer) → Result A Refusal → Answer
answer_of value (Ok x) = value x
answer_of value (Err r) = Refused r

-- The value of a call that is done, and of a tick: whether it made an edge.
abbrev pub done : Unit {0} → Answer
done _ = Done

abbrev pub ticked : Bool → Answer
ticked true = Edge
ticked false = NoEdge

-- The same of a call that returns a Result: it says the definition's answer.
pub record Gives {A : Type 0} (value : A → Answer) (o : Outcome) (r : Result A Refusal) (before after : List ℕ) : Type 0 where
  pub answer : answer_of value r ≡ o.answer
  pub holds : ti_in after ≡ o.after
  pub untouched : untouching o.answer ≡ true → after ≡ before

-- The flags as SPISTS has them: overrun in bit 7, interrupt in bit 6, transmit buffer full in bit 5.
abbrev pub weight : ℕ → Bool → ℕ
weight n b = when b then n else 0

unfoldable pub status_number : Ti → ℕ
status_number m = weight 128 (overrun_of m) + weight 64 (interrupt_of m) + weight 32 (transmit_full_of m)

-- The levels: bit 1 is SCK, bit 2 the output's level and bit 3 whether it is driven; an undriven output has the level 0.
abbrev pub output_bits : Output → ℕ
output_bits Low = 8
output_bits High = 12
output_bits Undriven = 0

unfoldable pub levels_number : Ti → ℕ
levels_number m = weight 2 m.engine.pins.sck + output_bits (sdo_of m)

-- The settings: the length in bits 0 to 4, then phase, polarity, talk, master, and in bit 9 whether the module is in reset.
unfoldable pub settings_number : Ti → ℕ
settings_number m =
    m.settings.length
    + weight 32 m.settings.phase
    + weight 64 m.settings.polarity
    + weight 128 m.settings.talk
    + weight 256 m.settings.master
    + weight 512 m.reset
