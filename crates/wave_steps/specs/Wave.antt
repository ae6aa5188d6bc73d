-- A waveform in the form of a VCD file (IEEE 1364, value change dump): what it shows of a module, and the bytes of a step. A level
-- is the byte that stands for it in the file.
use Rattle.std.specs.Prelude.{ℕ, zero, suc, ◌+◌, ◌/◌, ◌%◌, Bool, List, [], ◌∷◌, ◌++◌, eqb, ltb, Option, Some, None}
use Prim.Native.Char.{code}
use Rattle.laws.specs.Choice.{when◌then◌else◌}
use Rattle.module_types.specs.declared.Module.{Module}
use Rattle.module_types.specs.declared.Shift.{Shift}
use Rattle.module_types.specs.declared.Shift.TheVariants.{Free, Loaded, Begun}
use Rattle.module_types.specs.declared.Answer.{Answer}
use Rattle.module_types.specs.declared.Answer.TheVariants.{Refused, Done, Value, NoEdge, Edge}
use Rattle.module_types.specs.declared.Call.{Call}
use Rattle.module_types.specs.declared.Call.TheVariants.{Read, Write, Tick, Pin, ClockStep, Clear}
use Rattle.module_types.specs.declared.Output.{Output}
use Rattle.module_types.specs.declared.Output.TheVariants.{Low, High, Undriven}
use Rattle.module_rules.specs.Calls.{perform_of, interrupt_of, sck_of, sdo_of, ss_of}
use Rattle.script_rules.specs.Script.{bytes, lf, space, decimal_of, level_digit}
use Rattle.wave_steps.specs.declared.Shown.{Shown}

-- What is shown.

-- A level that an enabled module makes or sees; a disabled one does neither.
unfoldable pub level_if : Bool → Bool → ℕ
level_if enabled high = when enabled then level_digit high else code "z"

-- A pin that the module may drive: its level, and another byte where it does not.
unfoldable pub driven_or : ℕ → Output → ℕ
driven_or other Low = code "0"
driven_or other High = code "1"
driven_or other Undriven = other

-- The number that stands for no word.
unfoldable pub no_word : ℕ
no_word = 65536

-- The word on its way out, which is 0 for a filler, and the bits of the word on its way in that have come so far.
unfoldable pub leaving_of : Shift → ℕ
leaving_of Free = no_word
leaving_of (Loaded word) = word
leaving_of (Begun p) = p.word

unfoldable pub arriving_of : Shift → ℕ
arriving_of Free = no_word
arriving_of (Loaded word) = no_word
arriving_of (Begun p) = p.received

-- All that is shown of a module, with the byte of SDI, which no module remembers. SCK is the level that the module made or saw last,
-- and SS the one that it drives, or else the one that it saw last.
unfoldable pub shown_of : Module → ℕ → Shown
shown_of m sdi =
    record {
      sck = level_if m.settings.spien (sck_of m);
      sdo = driven_or (code "z") (sdo_of m);
      sdi = sdi;
      ss = driven_or (level_if m.settings.spien m.engine.pins.ss) (ss_of m);
      interrupt = level_digit (interrupt_of m);
      spien = level_digit m.settings.spien;
      waiting = m.engine.transmit.count;
      unread = m.engine.receive.count;
      leaving = leaving_of m.engine.shift;
      arriving = arriving_of m.engine.shift;
    }

-- SDI after a call: the level that a tick, a pin call or a clock step brings. A refused call brings none.
unfoldable pub brought : ℕ → Call → ℕ
brought sdi (Tick level ss) = level_digit level
brought sdi (Pin sck level ss) = level_digit level
brought sdi (ClockStep sck level ss) = level_digit level
brought sdi (Read register) = sdi
brought sdi (Write register v) = sdi
brought sdi Clear = sdi

unfoldable pub sdi_after : ℕ → Call → Answer → ℕ
sdi_after sdi c (Refused r) = sdi
sdi_after sdi c Done = brought sdi c
sdi_after sdi c (Value v) = brought sdi c
sdi_after sdi c NoEdge = brought sdi c
sdi_after sdi c Edge = brought sdi c

-- What is shown after a line of a script, with the byte of SDI before it: a line that cannot be read does nothing.
unfoldable pub line_shown : ℕ → Module → Option Call → Shown
line_shown sdi m None = shown_of m sdi
line_shown sdi m (Some c) = shown_of (perform_of m c).after (sdi_after sdi c (perform_of m c).answer)

-- Before the first step: every value is one that no module at power-up has, so that all are written. SDI is not known then.
unfoldable pub unshown : Shown
unshown =
    record {
      sck = 0;
      sdo = 0;
      sdi = 0;
      ss = 0;
      interrupt = 0;
      spien = 0;
      waiting = 255;
      unread = 255;
      leaving = 65537;
      arriving = 65537;
    }

unfoldable pub unknown : ℕ
unknown = code "x"

-- The bytes of a step.

-- A number in so many binary digits.
unfoldable pub binary_of : ℕ → ℕ → List ℕ
binary_of zero n = []
binary_of (suc places) n = binary_of places (n / 2) ++ ((code "0" + n % 2) ∷ [])

unfoldable pub value_of : ℕ → ℕ → List ℕ
value_of places n = when ltb 65535 n then code "z" ∷ [] else binary_of places n

-- A level that is another than before, and a number, each with the letter by which the file knows it.
unfoldable pub level_change : ℕ → ℕ → ℕ → List ℕ
level_change name old new = when eqb old new then [] else new ∷ name ∷ lf ∷ []

unfoldable pub number_change : ℕ → ℕ → ℕ → ℕ → List ℕ
number_change name places old new =
    when eqb old new then [] else code "b" ∷ (value_of places new ++ (space ∷ name ∷ lf ∷ []))

-- All that is another than before, in the order of the file's head.
unfoldable pub level_changes : Shown → Shown → List ℕ
level_changes old new =
    level_change (code "c") old.sck new.sck
    ++ (level_change (code "o") old.sdo new.sdo
    ++ (level_change (code "i") old.sdi new.sdi
    ++ (level_change (code "s") old.ss new.ss
    ++ (level_change (code "f") old.interrupt new.interrupt ++ level_change (code "e") old.spien new.spien))))

unfoldable pub number_changes : Shown → Shown → List ℕ
number_changes old new =
    number_change (code "w") 5 old.waiting new.waiting
    ++ (number_change (code "u") 5 old.unread new.unread
    ++ (number_change (code "O") 16 old.leaving new.leaving ++ number_change (code "I") 16 old.arriving new.arriving))

unfoldable pub changes : Shown → Shown → List ℕ
changes old new = level_changes old new ++ number_changes old new

-- A step: its time, and what is another than before.
unfoldable pub step_text : ℕ → Shown → Shown → List ℕ
step_text time old new = code "#" ∷ (decimal_of time ++ (lf ∷ changes old new))

-- The head of the file: the names, and the letters by which it knows them.
unfoldable pub head_text : List ℕ
head_text = bytes "$version Thurafeqa $end\n$timescale 1 us $end\n$scope module spi $end\n$var wire 1 c sck $end\n$var wire 1 o sdo $end\n$var wire 1 i sdi $end\n$var wire 1 s ss $end\n$var wire 1 f interrupt $end\n$var wire 1 e spien $end\n$var wire 5 w waiting [4:0] $end\n$var wire 5 u unread [4:0] $end\n$var wire 16 O out [15:0] $end\n$var wire 16 I in [15:0] $end\n$upscope $end\n$enddefinitions $end\n#0\n$dumpvars\n"
