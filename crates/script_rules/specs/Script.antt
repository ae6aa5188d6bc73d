-- Document 01, "The script program": what a script's bytes ask for, and the bytes that answer them. A byte is a number;
-- `code "W"` is the number of the letter W in ASCII.
use Rattle.std.specs.Prelude.{ℕ, zero, suc, ◌+◌, ◌*◌, ◌-◌, ◌/◌, ◌%◌, Bool, true, false, ◌&&◌, ◌||◌, List, [], ◌∷◌, ◌++◌, eqb, leb, ltb, take, get_or, Option, Some, None}
use Prim.Native.Char.{code}
use Prim.Native.String.{String, [] as no_more, ◌∷◌ as ◌then◌}
use Rattle.laws.specs.Choice.{when◌then◌else◌}
use Rattle.module_types.specs.declared.Module.{Module}
use Rattle.module_types.specs.declared.Refusal.{Refusal}
use Rattle.module_types.specs.declared.Refusal.TheVariants.{UnreadableLine}
use Rattle.module_types.specs.declared.Answer.{Answer}
use Rattle.module_types.specs.declared.Answer.TheVariants.{Refused, Done, Value, NoEdge, Edge}
use Rattle.module_types.specs.declared.Call.{Call}
use Rattle.module_types.specs.declared.Call.TheVariants.{Read, Write, Tick, Pin, ClockStep, Clear}
use Rattle.module_types.specs.declared.Output.{Output}
use Rattle.module_types.specs.declared.Output.TheVariants.{Low, High, Undriven}
use Rattle.module_rules.specs.Refusals.{number_of}
use Rattle.module_rules.specs.Calls.{powered_up, perform_of, after_calls, interrupt_of, sck_of, sdo_of, ss_of}

-- The bytes of a text.
unfoldable pub bytes : String → List ℕ
bytes no_more = []
bytes (c then cs) = code c ∷ bytes cs

abbrev pub lf : ℕ
lf = code "\n"

abbrev pub space : ℕ
space = code " "

-- Lines.

-- The first 65,535 bytes are read; the script ends there as at the end of input.
unfoldable pub most_bytes : ℕ
most_bytes = 65535

unfoldable pub read_from : List ℕ → List ℕ
read_from input = take most_bytes input

-- A byte more at the front of the first line, which there is if any byte is left.
unfoldable pub longer : ℕ → List (List ℕ) → List (List ℕ)
longer b [] = (b ∷ []) ∷ []
longer b (line ∷ lines) = (b ∷ line) ∷ lines

-- LF ends a line. A last line needs no LF, and nothing after a final LF is a line.
unfoldable pub lines_of : List ℕ → List (List ℕ)
lines_of [] = []
lines_of (b ∷ bs) = when eqb b lf then [] ∷ lines_of bs else longer b (lines_of bs)

-- Reading a line.

-- What may stand at one place of a line: this byte and no other, a decimal digit, an upper-case hexadecimal digit, or a
-- level, 0 or 1.
pub data Place : Type 0 where
  only : ℕ → Place
  digit : Place
  hex_digit : Place
  level : Place

unfoldable pub between : ℕ → ℕ → ℕ → Bool
between low high b = leb low b && leb b high

unfoldable pub fits_place : Place → ℕ → Bool
fits_place (only x) b = eqb b x
fits_place digit b = between (code "0") (code "9") b
fits_place hex_digit b = between (code "0") (code "9") b || between (code "A") (code "F") b
fits_place level b = between (code "0") (code "1") b

-- A line has a form if each of its bytes has_form its place, with no byte more and none fewer.
unfoldable pub has_form : List Place → List ℕ → Bool
has_form [] [] = true
has_form [] (b ∷ bs) = false
has_form (p ∷ ps) [] = false
has_form (p ∷ ps) (b ∷ bs) = fits_place p b && has_form ps bs

-- `W n vvvv`
unfoldable pub write_form : List Place
write_form =
    only (code "W") ∷ only space ∷ digit ∷ only space ∷ hex_digit ∷ hex_digit ∷ hex_digit ∷ hex_digit ∷ []

-- `R n`
unfoldable pub read_form : List Place
read_form = only (code "R") ∷ only space ∷ digit ∷ []

-- `T sdi`
unfoldable pub tick_form : List Place
tick_form = only (code "T") ∷ only space ∷ level ∷ []

-- `T sdi ss` (document 02, Three)
unfoldable pub tick_ss_form : List Place
tick_ss_form = only (code "T") ∷ only space ∷ level ∷ only space ∷ level ∷ []

-- `P sck sdi ss`
unfoldable pub pin_form : List Place
pin_form = only (code "P") ∷ only space ∷ level ∷ only space ∷ level ∷ only space ∷ level ∷ []

-- `C`
unfoldable pub clear_form : List Place
clear_form = only (code "C") ∷ []

-- What digits and levels stand for.
unfoldable pub digit_value : ℕ → ℕ
digit_value b = b - code "0"

unfoldable pub hex_value : ℕ → ℕ
hex_value b = when leb b (code "9") then b - code "0" else b - code "A" + 10

unfoldable pub four_hex_value : ℕ → ℕ → ℕ → ℕ → ℕ
four_hex_value a b c d = hex_value a * 4096 + hex_value b * 256 + hex_value c * 16 + hex_value d

unfoldable pub level_value : ℕ → Bool
level_value b = eqb b (code "1")

-- The byte at a place of a line.
abbrev pub at : List ℕ → ℕ → ℕ
at line k = get_or line k 0

-- The call that a line asks for; a T line that leaves SS out says 0. Anything else, an empty line too, cannot be read: None. No line
-- of more than 8 bytes has one of the forms, so none of more than 16 can be read.
unfoldable pub reading_of : List ℕ → Option Call
reading_of line =
    when has_form write_form line then Some (Write (digit_value (at line 2)) (four_hex_value (at line 4) (at line 5) (at line 6) (at line 7)))
    else when has_form read_form line then Some (Read (digit_value (at line 2)))
    else when has_form tick_form line then Some (Tick (level_value (at line 2)) false)
    else when has_form tick_ss_form line then Some (Tick (level_value (at line 2)) (level_value (at line 4)))
    else when has_form pin_form line then Some (Pin (level_value (at line 2)) (level_value (at line 4)) (level_value (at line 6)))
    else when has_form clear_form line then Some Clear
    else None

-- Answering a line.

-- A number in decimal, by its fewest digits, if it has no more than the given places.
unfoldable pub decimal_in : ℕ → ℕ → List ℕ
decimal_in zero n = []
decimal_in (suc places) n = when ltb n 10 then (code "0" + n) ∷ [] else decimal_in places (n / 10) ++ ((code "0" + n % 10) ∷ [])

-- Line numbers and refusal numbers are 32-bit numbers, which take no more than ten places.
unfoldable pub decimal_of : ℕ → List ℕ
decimal_of n = decimal_in 10 n

-- A value in four hexadecimal digits, in upper case.
unfoldable pub hex_of : ℕ → ℕ
hex_of n = when ltb n 10 then code "0" + n else code "A" + (n - 10)

unfoldable pub four_hex_of : ℕ → List ℕ
four_hex_of v = hex_of (v / 4096 % 16) ∷ hex_of (v / 256 % 16) ∷ hex_of (v / 16 % 16) ∷ hex_of (v % 16) ∷ []

-- A level is 0 or 1; an undriven SDO is Z.
unfoldable pub level_digit : Bool → ℕ
level_digit b = when b then code "1" else code "0"

unfoldable pub sdo_letter : Output → ℕ
sdo_letter Low = code "0"
sdo_letter High = code "1"
sdo_letter Undriven = code "Z"

-- `E` and the refusal's number.
unfoldable pub refused_text : Refusal → List ℕ
refused_text r = code "E" ∷ space ∷ decimal_of (number_of r)

-- `OK`
unfoldable pub ok_text : List ℕ
ok_text = bytes "OK"

-- The level of an SS that is driven, which a frame host alone does: a last field. Other modules have no such field (document 02,
-- Three).
unfoldable pub ss_text : Output → List ℕ
ss_text Low = space ∷ code "0" ∷ []
ss_text High = space ∷ code "1" ∷ []
ss_text Undriven = []

-- SCK, SDO, the interrupt flag and a driven SS for an edge of a tick; the same without SCK for a pin call.
unfoldable pub pin_text : Module → List ℕ
pin_text m = sdo_letter (sdo_of m) ∷ space ∷ level_digit (interrupt_of m) ∷ ss_text (ss_of m)

unfoldable pub edge_text : Module → List ℕ
edge_text m = level_digit (sck_of m) ∷ space ∷ pin_text m

-- What a call that was done tells: the pin call its levels, a write and the clear call OK. No other call that a line asks for is told
-- as done.
unfoldable pub done_text : Call → Module → List ℕ
done_text (Pin sck sdi ss) m = pin_text m
done_text (Write register v) m = ok_text
done_text Clear m = ok_text
done_text (Read register) m = ok_text
done_text (Tick sdi ss) m = ok_text
done_text (ClockStep sck sdi ss) m = ok_text

-- What an answer to a call tells, with the module after it: four hexadecimal digits for a value, `N` for no edge.
unfoldable pub answer_text : Call → Answer → Module → List ℕ
answer_text c (Refused r) m = refused_text r
answer_text c Done m = done_text c m
answer_text c (Value v) m = four_hex_of v
answer_text c NoEdge m = bytes "N"
answer_text c Edge m = edge_text m

-- What stands behind the line number. A line that cannot be read gives 9.
unfoldable pub line_text : Module → Option Call → List ℕ
line_text m None = refused_text UnreadableLine
line_text m (Some c) = answer_text c (perform_of m c).answer (perform_of m c).after

-- The module after a line: a line that cannot be read does nothing, and the script goes on.
unfoldable pub line_after : Module → Option Call → Module
line_after m None = m
line_after m (Some c) = (perform_of m c).after

-- The whole answer to a line: its number in decimal, a space, what it tells, and LF.
unfoldable pub answer_line : ℕ → Module → Option Call → List ℕ
answer_line number m line = decimal_of number ++ (space ∷ (line_text m line ++ (lf ∷ [])))

-- The answers to some lines, in order, each numbered one more than those before it.
unfoldable pub answers_from : Module → ℕ → List (List ℕ) → List ℕ
answers_from m answered [] = []
answers_from m answered (line ∷ lines) =
    answer_line (answered + 1) m (reading_of line)
    ++ answers_from (line_after m (reading_of line)) (answered + 1) lines

-- The calls that some lines ask for, in order: none for a line that cannot be read.
unfoldable pub asked : Option Call → List Call
asked None = []
asked (Some c) = c ∷ []

unfoldable pub lines_calls : List (List ℕ) → List Call
lines_calls [] = []
lines_calls (line ∷ lines) = asked (reading_of line) ++ lines_calls lines

-- The whole script: its output, the calls that it makes, and the module in which it ends.
unfoldable pub script_output : List ℕ → List ℕ
script_output input = answers_from powered_up 0 (lines_of (read_from input))

unfoldable pub script_calls : List ℕ → List Call
script_calls input = lines_calls (lines_of (read_from input))

unfoldable pub script_end : List ℕ → Module
script_end input = after_calls powered_up (script_calls input)
