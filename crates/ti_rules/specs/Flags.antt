-- What is seen of a watched module, by calls, answers and the ledger: its flags and the levels of its pins. These are the judges of the page
-- specs/Demands.antt; no rule is asked.
use Rattle.std.specs.Prelude.{ℕ, ◌-◌, ◌/◌, Bool, true, false, not, ◌&&◌, ◌||◌, List, [], ◌∷◌, eqb, ltb, length, drop}
use Rattle.laws.specs.Choice.{when◌then◌else◌}
use Rattle.word_order.specs.Bits.{bit_of}
use Rattle.word_order.specs.Ledger.{Ledger, sent, lost_of, is_quiet, edges_given, carries_filler}
use Rattle.ti_rules.specs.declared.Settings.{Settings}
use Rattle.ti_rules.specs.declared.Ti.{Ti}
use Rattle.ti_rules.specs.declared.Answer.{Answer}
use Rattle.ti_rules.specs.declared.Call.{Call}
use Rattle.ti_rules.specs.declared.Call.TheVariants.{Enter, Leave, Mode, Length, Write, Read, Tick, Pin, Clear}
use Rattle.ti_rules.specs.declared.Output.{Output}
use Rattle.ti_rules.specs.declared.Output.TheVariants.{Low, High, Undriven}
use Rattle.ti_rules.specs.Refusals.{said_of}

-- The calls by number.
abbrev pub asks : Call → ℕ
asks Enter = 0
asks Leave = 1
asks (Mode master talk polarity phase) = 2
asks (Length n) = 3
asks (Write v) = 4
asks Read = 5
asks (Tick sdi) = 6
asks (Pin sck sdi select) = 7
asks Clear = 8

abbrev pub enters_reset : Call → Bool
enters_reset c = eqb (asks c) 0

abbrev pub leaves_reset : Call → Bool
leaves_reset c = eqb (asks c) 1

abbrev pub sets_mode : Call → Bool
sets_mode c = eqb (asks c) 2

abbrev pub sets_length : Call → Bool
sets_length c = eqb (asks c) 3

abbrev pub writes_character : Call → Bool
writes_character c = eqb (asks c) 4

abbrev pub reads_character : Call → Bool
reads_character c = eqb (asks c) 5

abbrev pub is_tick : Call → Bool
is_tick c = eqb (asks c) 6

abbrev pub is_pin_call : Call → Bool
is_pin_call c = eqb (asks c) 7

abbrev pub clears_overrun : Call → Bool
clears_overrun c = eqb (asks c) 8

-- What a call asks for, 0 or low if it does not: a mode, a length, levels of the pins.
abbrev pub mode_asked : Call → List Bool
mode_asked Enter = []
mode_asked Leave = []
mode_asked (Mode master talk polarity phase) = master ∷ talk ∷ polarity ∷ phase ∷ []
mode_asked (Length n) = []
mode_asked (Write v) = []
mode_asked Read = []
mode_asked (Tick sdi) = []
mode_asked (Pin sck sdi select) = []
mode_asked Clear = []

abbrev pub length_asked : Call → ℕ
length_asked Enter = 0
length_asked Leave = 0
length_asked (Mode master talk polarity phase) = 0
length_asked (Length n) = n
length_asked (Write v) = 0
length_asked Read = 0
length_asked (Tick sdi) = 0
length_asked (Pin sck sdi select) = 0
length_asked Clear = 0

abbrev pub sck_asked : Call → Bool
sck_asked Enter = false
sck_asked Leave = false
sck_asked (Mode master talk polarity phase) = false
sck_asked (Length n) = false
sck_asked (Write v) = false
sck_asked Read = false
sck_asked (Tick sdi) = false
sck_asked (Pin sck sdi select) = sck
sck_asked Clear = false

abbrev pub select_asked : Call → Bool
select_asked Enter = false
select_asked Leave = false
select_asked (Mode master talk polarity phase) = false
select_asked (Length n) = false
select_asked (Write v) = false
select_asked Read = false
select_asked (Tick sdi) = false
select_asked (Pin sck sdi select) = select
select_asked Clear = false

-- Such a call was done; a character was told; an edge was made.
abbrev pub did : Bool → Answer → Bool
did such a = such && eqb (said_of a).kind 1

abbrev pub gave : Answer → Bool
gave a = eqb (said_of a).kind 2

abbrev pub made_edge : Answer → Bool
made_edge a = eqb (said_of a).kind 4

-- A character was lost, and one was finished, between two looks at the ledger.
abbrev pub grew_lost : Ledger → Ledger → Bool
grew_lost before after = ltb (lost_of before) (lost_of after)

abbrev pub grew_finished : Ledger → Ledger → Bool
grew_finished before after = ltb (length before.arrivals) (length after.arrivals)

-- The characters that were accepted and are not sent, and the one that the output is about: zeros on the wire, else the first of these, 0
-- if there is none.
abbrev pub left_over : Ledger → List ℕ
left_over l = drop (length (sent l)) l.accepted

abbrev pub first_of : List ℕ → ℕ
first_of [] = 0
first_of (c ∷ rest) = c

unfoldable pub current : Ledger → ℕ
current l = when carries_filler l.wire then 0 else first_of (left_over l)

-- All but one of them wait, since one is in the shift register; behind zeros all do.
unfoldable pub some_wait : Ledger → Bool
some_wait l = ltb (when carries_filler l.wire then 0 else 1) (length (left_over l))

-- Which bit of a character stands at the output after some edges, the highest 0: phase 0 shows a bit at its odd edge and until the next
-- one; phase 1 shows the highest before the first edge, and the next after each even edge.
unfoldable pub shown_at : Bool → ℕ → ℕ
shown_at phase edges = when phase then edges / 2 else (edges - 1) / 2

-- The level of the output out of reset, by the level before: between characters it stays in phase 0.
unfoldable pub sdo_seen : Settings → Bool → Ledger → Bool
sdo_seen s before l =
    when s.phase || not (is_quiet l.wire) then bit_of (current l) (s.length - 1 - shown_at s.phase (edges_given l.wire))
    else before

-- The output as others see it: nobody drives it in reset, with talk off, and from a slave that is not selected.
abbrev pub level_shown : Bool → Output
level_shown true = High
level_shown false = Low

abbrev pub pin_seen : Ti → Output
pin_seen m =
    when m.reset then Undriven
    else when m.settings.talk then when m.settings.master then level_shown m.engine.pins.sdo
    else when m.engine.pins.select then Undriven
    else level_shown m.engine.pins.sdo
    else Undriven
