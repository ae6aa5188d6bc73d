-- Cases of request Ten that were worked out beforehand, as calls from power-up with what they must answer and show. Levels stand as
-- decimal digits, 1 high, 0 low, 2 undriven. proofs/ExamplesHold.antt runs them.
use Rattle.std.specs.Prelude.{ℕ, ◌-◌, ◌*◌, ◌/◌, ◌%◌, ◌^◌, Bool, true, false, ◌&&◌, List, [], ◌∷◌, eqb, Option, Some, None, option_map, option_to_list}
use Rattle.std.specs.Bool.{beq}
use Rattle.std.specs.Float.{binary64}
use Rattle.std.specs.Float.Ieee.{to_bits}
use Rattle.laws.specs.Same.{same_numbers}
use Rattle.ti_rules.specs.declared.Character.{Character}
use Rattle.ti_rules.specs.declared.Settings.{Settings}
use Rattle.ti_rules.specs.declared.Ti.{Ti}
use Rattle.ti_rules.specs.declared.Answer.{Answer}
use Rattle.ti_rules.specs.declared.Call.{Call}
use Rattle.ti_rules.specs.declared.Call.TheVariants.{Enter, Leave, Mode, Length, Write, Read, Tick, Pin, Clear}
use Rattle.ti_rules.specs.declared.Output.{Output}
use Rattle.ti_rules.specs.declared.Output.TheVariants.{Low, High, Undriven}
use Rattle.ti_rules.specs.Refusals.{said_of}
use Rattle.ti_rules.specs.Settings.{powered_up}
use Rattle.ti_rules.specs.Clock.{rate_of}
use Rattle.ti_rules.specs.Watch.{in_buffer}
use Rattle.ti_rules.specs.Calls.{perform_of, interrupt_of, transmit_full_of, overrun_of, sdo_of}

pub data TiStep : Type 0 where
  -- a call that is done, and one that is refused
  ok : Call → TiStep
  refused : Call → ℕ → TiStep
  -- a read that gives this character
  gives : ℕ → TiStep
  -- a tick that makes an edge: SDI, then SCK and the output after it; and one that makes none: SDI
  edge : ℕ → TiStep
  no_edge : ℕ → TiStep
  -- a pin call: SCK, SDI and select, and the output after it
  pin : ℕ → ℕ → TiStep
  -- the flags: overrun, interrupt, transmit full
  flags : ℕ → TiStep
  -- SCK and the output; what waits, what is in the shift register with its edges, both left-justified, and what is unread
  holds : ℕ → List ℕ → List ℕ → List ℕ → TiStep

-- A digit, the lowest 0, as a level.
abbrev pub digit : ℕ → ℕ → Bool
digit n k = eqb (n / 10 ^ k % 10) 1

abbrev pub level : Bool → ℕ
level true = 1
level false = 0

abbrev pub shown : Output → ℕ
shown Low = 0
shown High = 1
shown Undriven = 2

abbrev pub left : Settings → ℕ → ℕ
left s c = c * 2 ^ (16 - s.length)

abbrev pub left_in : Settings → Option ℕ → List ℕ
left_in s b = option_to_list (option_map (left s) b)

abbrev pub left_shift : Settings → Option Character → List ℕ
left_shift s None = []
left_shift s (Some c) = left s c.bits ∷ c.edges ∷ []

-- An answer has this kind, this refusal number and this value.
abbrev pub says : ℕ → ℕ → ℕ → Answer → Bool
says kind number value a = eqb (said_of a).kind kind && (eqb (said_of a).number number && eqb (said_of a).value value)

abbrev pub mode : ℕ → Call
mode n = Mode (digit n 3) (digit n 2) (digit n 1) (digit n 0)

abbrev pub pin_call : ℕ → Call
pin_call n = Pin (digit n 2) (digit n 1) (digit n 0)

-- Every step holds, one after the other, from a module on.
abbrev pub all_hold : Ti → List TiStep → Bool
all_hold m [] = true
all_hold m (ok c ∷ rest) = says 1 0 0 (perform_of m c).answer && all_hold (perform_of m c).after rest
all_hold m (refused c n ∷ rest) = says 0 n 0 (perform_of m c).answer && all_hold (perform_of m c).after rest
all_hold m (gives v ∷ rest) = says 2 0 v (perform_of m Read).answer && all_hold (perform_of m Read).after rest
all_hold m (edge n ∷ rest) =
    says 4 0 0 (perform_of m (Tick (digit n 2))).answer
    && (beq (perform_of m (Tick (digit n 2))).after.engine.pins.sck (digit n 1)
    && (eqb (shown (sdo_of (perform_of m (Tick (digit n 2))).after)) (n % 10) && all_hold (perform_of m (Tick (digit n 2))).after rest))
all_hold m (no_edge n ∷ rest) = says 3 0 0 (perform_of m (Tick (digit n 0))).answer && all_hold (perform_of m (Tick (digit n 0))).after rest
all_hold m (pin n out ∷ rest) =
    says 1 0 0 (perform_of m (pin_call n)).answer
    && (eqb (shown (sdo_of (perform_of m (pin_call n)).after)) out && all_hold (perform_of m (pin_call n)).after rest)
all_hold m (flags n ∷ rest) =
    beq (overrun_of m) (digit n 2)
    && (beq (interrupt_of m) (digit n 1) && (beq (transmit_full_of m) (digit n 0) && all_hold m rest))
all_hold m (holds n waits shifts unread ∷ rest) =
    beq m.engine.pins.sck (digit n 1)
    && (eqb (shown (sdo_of m)) (n % 10)
    && (same_numbers (left_in m.settings m.engine.waiting) waits
    && (same_numbers (left_shift m.settings m.engine.shift) shifts && (same_numbers (in_buffer m.engine.unread) unread && all_hold m rest))))

-- Refusals.
abbrev pub refusals : List TiStep
refusals =
    refused (Write 0x8000) 2 ∷ refused Read 2 ∷ refused (Tick true) 2 ∷ refused (Length 0) 24 ∷ refused (Length 17) 24
    ∷ ok (Length 16) ∷ ok (Length 5) ∷ ok (mode 1100) ∷ ok Leave ∷ refused (Length 0) 3 ∷ refused (Length 8) 3 ∷ refused Read 6
    ∷ ok (Write 0xA800) ∷ ok (Write 0x5000) ∷ refused (Write 0xF800) 5 ∷ refused (pin_call 110) 7 ∷ ok (mode 1000)
    ∷ refused (mode 100) 3 ∷ flags 1 ∷ ok Enter ∷ flags 0 ∷ holds 2 [] [] [] ∷ []

-- A master: 1 bit, phase 0.
abbrev pub one_bit : List TiStep
one_bit =
    ok (Length 1) ∷ ok (mode 1100) ∷ ok Leave ∷ ok (Write 0x8000) ∷ edge 111 ∷ edge 101 ∷ no_edge 1 ∷ flags 10 ∷ gives 0x0001
    ∷ flags 0 ∷ refused Read 6 ∷ []

-- A master: 5 bits, phase 0.
abbrev pub five_bits : List TiStep
five_bits =
    ok (Length 5) ∷ ok (mode 1100) ∷ ok Leave ∷ ok (Write 0xA800) ∷ edge 111 ∷ edge 101 ∷ edge 10 ∷ edge 0 ∷ edge 111 ∷ edge 101
    ∷ edge 10 ∷ edge 0 ∷ edge 111 ∷ edge 101 ∷ no_edge 1 ∷ flags 10 ∷ gives 0x0015 ∷ flags 0 ∷ refused Read 6 ∷ []

-- A master: 5 bits, phase 1.
abbrev pub five_bits_phase1 : List TiStep
five_bits_phase1 =
    ok (Length 5) ∷ ok (mode 1101) ∷ ok Leave ∷ ok (Write 0xA800) ∷ edge 111 ∷ edge 100 ∷ edge 10 ∷ edge 1 ∷ edge 111 ∷ edge 100
    ∷ edge 10 ∷ edge 1 ∷ edge 111 ∷ edge 100 ∷ no_edge 1 ∷ flags 10 ∷ gives 0x0015 ∷ flags 0 ∷ refused Read 6 ∷ []

-- A master: 8 bits, phase 1.
abbrev pub eight_bits_phase1 : List TiStep
eight_bits_phase1 =
    ok (Length 8) ∷ ok (mode 1101) ∷ ok Leave ∷ ok (Write 0xC300) ∷ edge 111 ∷ edge 101 ∷ edge 11 ∷ edge 0 ∷ edge 110 ∷ edge 100
    ∷ edge 10 ∷ edge 0 ∷ edge 110 ∷ edge 100 ∷ edge 10 ∷ edge 1 ∷ edge 111 ∷ edge 101 ∷ edge 11 ∷ edge 0 ∷ no_edge 1 ∷ flags 10
    ∷ gives 0x00AA ∷ flags 0 ∷ refused Read 6 ∷ []

-- A master: 16 bits, phase 0.
abbrev pub sixteen_bits : List TiStep
sixteen_bits =
    ok (Length 16) ∷ ok (mode 1100) ∷ ok Leave ∷ ok (Write 0x8001) ∷ edge 111 ∷ edge 101 ∷ edge 10 ∷ edge 0 ∷ edge 110 ∷ edge 100
    ∷ edge 10 ∷ edge 0 ∷ edge 110 ∷ edge 100 ∷ edge 10 ∷ edge 0 ∷ edge 110 ∷ edge 100 ∷ edge 10 ∷ edge 0 ∷ edge 110 ∷ edge 100
    ∷ edge 10 ∷ edge 0 ∷ edge 110 ∷ edge 100 ∷ edge 10 ∷ edge 0 ∷ edge 110 ∷ edge 100 ∷ edge 10 ∷ edge 0 ∷ edge 110 ∷ edge 100
    ∷ edge 11 ∷ edge 1 ∷ no_edge 1 ∷ flags 10 ∷ gives 0xAAAA ∷ flags 0 ∷ refused Read 6 ∷ []

-- An unread character is replaced.
abbrev pub replaced : List TiStep
replaced =
    ok (Length 2) ∷ ok (mode 1100) ∷ ok Leave ∷ ok (Write 0x8000) ∷ ok (Write 0x4000) ∷ edge 111 ∷ edge 101 ∷ edge 110 ∷ edge 100
    ∷ flags 10 ∷ holds 0 [] (0x4000 ∷ 0 ∷ []) (0x0003 ∷ []) ∷ edge 10 ∷ edge 0 ∷ edge 11 ∷ edge 1 ∷ flags 110
    ∷ holds 1 [] [] (0x0000 ∷ []) ∷ gives 0x0000 ∷ refused Read 6 ∷ flags 100 ∷ ok Clear ∷ flags 0 ∷ []

-- A slave: paused, and with nothing to send.
abbrev pub paused : List TiStep
paused =
    ok (Length 3) ∷ ok (mode 100) ∷ ok Leave ∷ ok (Write 0xA000) ∷ pin 0 0 ∷ pin 110 1 ∷ pin 10 1 ∷ pin 1 2 ∷ pin 101 2 ∷ pin 1 2
    ∷ pin 0 1 ∷ holds 1 [] (0xA000 ∷ 2 ∷ []) [] ∷ pin 100 0 ∷ pin 0 0 ∷ pin 110 1 ∷ pin 10 1 ∷ flags 10 ∷ gives 0x0005 ∷ pin 110 0
    ∷ holds 10 [] (0x0000 ∷ 1 ∷ []) [] ∷ ok (Write 0xE000) ∷ pin 10 0 ∷ pin 110 0 ∷ pin 10 0 ∷ pin 110 0 ∷ pin 10 0 ∷ gives 0x0007
    ∷ holds 0 [] (0xE000 ∷ 0 ∷ []) [] ∷ []

-- All of them.
abbrev pub run : List (List TiStep) → Bool
run [] = true
run (e ∷ rest) = all_hold powered_up e && run rest

abbrev pub examples : Bool
examples = run (refusals ∷ one_bit ∷ five_bits ∷ five_bits_phase1 ∷ eight_bits_phase1 ∷ sixteen_bits ∷ replaced ∷ paused ∷ [])

-- The rates: SPIBRR, LSPCLK, and the bits of the 64-bit float.
abbrev pub rate : ℕ → ℕ → ℕ → Bool
rate spibrr lspclk bits = eqb (to_bits binary64 (rate_of spibrr lspclk)) bits

abbrev pub rate_examples : Bool
rate_examples =
    rate 0 40000000 0x416312d000000000
    && (rate 2 40000000 0x416312d000000000
    && (rate 3 40000000 0x416312d000000000
    && (rate 4 37500000 0x415c9c3800000000
    && (rate 6 1000000 0x4101704924924925
    && (rate 127 150000000 0x4131e1a300000000
    && (rate 127 1 0x3f80000000000000 && (rate 130 40000000 0x416312d000000000 && rate 5 0 0)))))))
