-- The TI module as a machine of the law of word order (crate word_order): its characters as a port's words, and what somebody writes down
-- who watches calls, answers and levels. Nothing here asks a rule: which characters were accepted, which edges count and which of them
-- latch is said anew, in the words of document 002.
use Rattle.std.specs.Prelude.{ℕ, ◌*◌, ◌%◌, Bool, true, false, not, ◌||◌, List, [], ◌∷◌, ◌++◌, eqb, Option, Some, None, option_to_list}
use Rattle.std.specs.Bool.{beq}
use Rattle.laws.specs.Choice.{when◌then◌else◌}
use Rattle.word_order.specs.Bits.{top_bits, spelled}
use Rattle.word_order.specs.Ledger.{replaces_old, Terms, Op, accepts, reads, begins, clocks, opened}
use Rattle.word_order.specs.Port.{Under, Way, idle, sends, Port}
use Rattle.word_order.specs.Machine.{Entry, opens, notes, Watching, Watched, watched_calls}
use Rattle.ti_rules.specs.declared.Settings.{Settings}
use Rattle.ti_rules.specs.declared.Character.{Character}
use Rattle.ti_rules.specs.declared.Engine.{Engine}
use Rattle.ti_rules.specs.declared.Ti.{Ti}
use Rattle.ti_rules.specs.declared.Answer.{Answer}
use Rattle.ti_rules.specs.declared.Answer.TheVariants.{Refused, Done, Value, NoEdge, Edge}
use Rattle.ti_rules.specs.declared.Call.{Call}
use Rattle.ti_rules.specs.declared.Call.TheVariants.{Enter, Leave, Mode, Length, Write, Read, Tick, Pin, Clear}
use Rattle.ti_rules.specs.Settings.{powered_up}
use Rattle.ti_rules.specs.Calls.{perform_of}

-- The words of a module: the character in the shift register, unless nobody wrote it, then the one that waits; the one that has begun;
-- the unread one.
abbrev pub in_buffer : Option ℕ → List ℕ
in_buffer b = option_to_list b

abbrev pub unsent : Option Character → List ℕ
unsent None = []
unsent (Some c) = when c.zeros then [] else c.bits ∷ []

abbrev pub under_of : Character → Under
under_of c = record { filler = c.zeros; word = c.bits; edges = c.edges; received = c.received }

unfoldable pub way_of : Option Character → Way
way_of None = idle
way_of (Some c) = when eqb c.edges 0 then idle else sends (under_of c)

abbrev pub port_of : Engine → Port
port_of n =
    record { owed = unsent n.shift ++ in_buffer n.waiting; way = way_of n.shift; unread = in_buffer n.unread; marked = false }

-- The terms: as many bits as the length says, one unread character, the unread one lost, two edges a bit, of which phase 0 latches the
-- even ones and phase 1 the odd ones. With nothing written zeros go out.
unfoldable pub latched : Bool → ℕ → Bool
latched phase k = when phase then eqb (k % 2) 1 else eqb (k % 2) 0

abbrev pub terms_of : Settings → Terms
terms_of s =
    record { width = s.length; depth = 1; policy = replaces_old; samples = latched s.phase; last = 2 * s.length; silent = false }

-- What shows as a call is made: whether the module is in reset, its settings, the level of its output, and the answer.
pub record Sight : Type 0 where
  pub reset : Bool
  pub set : Settings
  pub sdo : Bool
  pub answer : Answer

-- The character that a write carries: its highest bits, as many as the length says.
unfoldable pub carried : Settings → ℕ → ℕ
carried s v = spelled 0 (top_bits 16 s.length v)

-- An edge of the character on the wire, or of one that begins.
unfoldable pub edge_ops : Bool → Bool → Bool → List Op
edge_ops true sdo sdi = clocks sdo sdi ∷ []
edge_ops false sdo sdi = begins ∷ clocks sdo sdi ∷ []

-- The level that the next edge of a character leads to: away from rest for an odd one.
unfoldable pub wanted : Bool → ℕ → Bool
wanted polarity edges = when eqb (edges % 2) 0 then not polarity else polarity

abbrev pub write_ops : ℕ → Answer → List Op
write_ops c (Refused r) = []
write_ops c Done = accepts c ∷ []
write_ops c (Value v) = []
write_ops c NoEdge = []
write_ops c Edge = []

abbrev pub read_ops : Answer → List Op
read_ops (Refused r) = []
read_ops Done = []
read_ops (Value v) = reads v ∷ []
read_ops NoEdge = []
read_ops Edge = []

abbrev pub tick_ops : List Op → Answer → List Op
tick_ops os (Refused r) = []
tick_ops os Done = []
tick_ops os (Value v) = []
tick_ops os NoEdge = []
tick_ops os Edge = os

abbrev pub pin_ops : List Op → Answer → List Op
pin_ops os (Refused r) = []
pin_ops os Done = os
pin_ops os (Value v) = []
pin_ops os NoEdge = []
pin_ops os Edge = []

-- The levels of a pin call: an edge of a character where the clock moved, select is low, and the edge leads the right way.
abbrev pub shown_ops : Bool → Sight → Bool → ℕ → Bool → Bool → Bool → List Op
shown_ops level x busy edges sck sdi select =
    when beq sck level || (select || not (beq sck (wanted x.set.polarity edges))) then []
    else edge_ops busy x.sdo sdi

-- The entry of a call, by the remembered level of the clock, and by what the ledger says of its wire.
unfoldable pub entry_of : Bool → Sight → Bool → ℕ → Call → Entry
entry_of level x busy edges Enter = notes []
entry_of level x busy edges Leave = when x.reset then opens else notes []
entry_of level x busy edges (Mode master talk polarity phase) = notes []
entry_of level x busy edges (Length n) = notes []
entry_of level x busy edges (Write v) = notes (write_ops (carried x.set v) x.answer)
entry_of level x busy edges Read = notes (read_ops x.answer)
entry_of level x busy edges (Tick sdi) = notes (tick_ops (edge_ops busy x.sdo sdi) x.answer)
entry_of level x busy edges (Pin sck sdi select) = notes (pin_ops (shown_ops level x busy edges sck sdi select) x.answer)
entry_of level x busy edges Clear = notes []

-- The remembered level of the clock: the other one after each edge that a tick made, and what the pins showed.
abbrev pub after_tick : Bool → Answer → Bool
after_tick level (Refused r) = level
after_tick level Done = level
after_tick level (Value v) = level
after_tick level NoEdge = level
after_tick level Edge = not level

abbrev pub after_pin : Bool → Bool → Answer → Bool
after_pin level sck (Refused r) = level
after_pin level sck Done = sck
after_pin level sck (Value v) = level
after_pin level sck NoEdge = level
after_pin level sck Edge = level

unfoldable pub remembered_of : Bool → Sight → Call → Bool
remembered_of level x Enter = level
remembered_of level x Leave = when x.reset then x.set.polarity else level
remembered_of level x (Mode master talk polarity phase) = level
remembered_of level x (Length n) = level
remembered_of level x (Write v) = level
remembered_of level x Read = level
remembered_of level x (Tick sdi) = after_tick level x.answer
remembered_of level x (Pin sck sdi select) = after_pin level sck x.answer
remembered_of level x Clear = level

abbrev pub watching : Watching
watching =
    record {
      State = Ti;
      Call = Call;
      step = λ m c. (perform_of m c).after;
      on = λ m. not m.reset;
      terms = λ m. terms_of m.settings;
      port = λ m. port_of m.engine;
      Sight = Sight;
      sight = λ m c. record { reset = m.reset; set = m.settings; sdo = m.engine.pins.sdo; answer = (perform_of m c).answer };
      Memory = Bool;
      remembers = λ level x later c. remembered_of level x c;
      entry = entry_of;
    }

-- A module that is watched from power-up, and after some calls.
abbrev pub start : Watched watching
start = record { now = powered_up; memory = false; ledger = opened }

abbrev pub life : List Call → Watched watching
life cs = watched_calls watching start cs
