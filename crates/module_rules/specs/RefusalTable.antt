-- Document 01, "What each refusal number says", with document 02, One, Three, Four and Eleven: the rows in the order of the tests, each in
-- the paper's words and by what a call asks for. specs/Demands.antt says that a call is refused exactly so.
use Rattle.std.specs.Prelude.{ℕ, Bool, not, ◌&&◌, ◌||◌, List, [], ◌∷◌, eqb, ltb, leb, length}
use Rattle.laws.specs.Choice.{when◌then◌else◌}
use Rattle.word_order.specs.Bits.{bit_of}
use Rattle.module_types.specs.declared.Con1.{Con1}
use Rattle.module_types.specs.declared.Module.{Module}
use Rattle.module_types.specs.declared.Call.{Call}
use Rattle.module_types.specs.declared.Call.TheVariants.{Read, Write, Tick, Pin, ClockStep, Clear}
use Rattle.module_rules.specs.InBits.{room, clocks_itself, undivided_clock, cke_without_select}
use Rattle.module_rules.specs.Words.{waiting_in, unread_in}

-- A row: its number, and whether it applies. The first row that applies gives its number, and none gives 0.
pub record Row : Type 0 where
  pub number : ℕ
  pub applies : Bool

abbrev pub row : ℕ → Bool → Row
row number applies = record { number = number; applies = applies }

abbrev pub first_number : List Row → ℕ
first_number [] = 0
first_number (r ∷ rows) = when r.applies then r.number else first_number rows

-- What a call asks for, in numbers: its kind, the register that it names and the value that it carries, 0 if none.
pub record Asks : Type 0 where
  pub kind : ℕ
  pub register : ℕ
  pub value : ℕ

abbrev pub asks : Call → Asks
asks (Read register) = record { kind = 0; register = register; value = 0 }
asks (Write register v) = record { kind = 1; register = register; value = v }
asks (Tick sdi ss) = record { kind = 2; register = 0; value = 0 }
asks (Pin sck sdi ss) = record { kind = 3; register = 0; value = 0 }
asks Clear = record { kind = 4; register = 0; value = 0 }
asks (ClockStep sck sdi ss) = record { kind = 5; register = 0; value = 0 }

abbrev pub reads : ℕ → Call → Bool
reads register c = eqb (asks c).kind 0 && eqb (asks c).register register

abbrev pub writes : ℕ → Call → Bool
writes register c = eqb (asks c).kind 1 && eqb (asks c).register register

abbrev pub is_tick : Call → Bool
is_tick c = eqb (asks c).kind 2

abbrev pub is_pin_call : Call → Bool
is_pin_call c = eqb (asks c).kind 3

abbrev pub is_clear : Call → Bool
is_clear c = eqb (asks c).kind 4

abbrev pub is_clock_step : Call → Bool
is_clock_step c = eqb (asks c).kind 5

-- A STAT write with a 1 for SPIEN at a disabled module.
abbrev pub enables : Module → Call → Bool
enables m c = not m.settings.spien && (writes 0 c && bit_of (asks c).value 15)

-- Register calls test 1, then 2 or 3, then 13, 14 and 15, 5 or 16 and 6; tick and pin calls test 2, then 7, and a clock
-- step tests 2 alone.
abbrev pub rows : Module → Call → List Row
rows m c =
    let con1 : Con1 = m.settings.con1 in
    -- register number above 3
    row 1 (ltb 3 (asks c).register)
    -- module disabled: BUF read or write, tick, pin call, clock step
    ∷ row 2 (not m.settings.spien && (reads 3 c || (writes 3 c || (is_tick c || (is_pin_call c || is_clock_step c)))))
    -- CON1 or CON2 written while SPIEN is 1
    ∷ row 3 (m.settings.spien && (writes 1 c || writes 2 c))
    -- STAT write turns SPIEN from 0 to 1 with MSTEN, without DISSCK and with both prescalers 1:1
    ∷ row 13 (enables m c && undivided_clock m.settings)
    -- with SMP
    ∷ row 14 (enables m c && con1.smp)
    -- for a client with CKE, no SSEN and no FRMEN
    ∷ row 15 (enables m c && cke_without_select m.settings)
    -- BUF write with the transmit buffer full
    ∷ row 5 (writes 3 c && leb (room m.settings) (length (waiting_in m)))
    -- BUF read with the receive buffer marked
    ∷ row 16 (reads 3 c && m.engine.receive.marked)
    -- BUF read with the receive buffer empty
    ∷ row 6 (reads 3 c && eqb (length (unread_in m)) 0)
    -- tick on a module clocked from its pin, pin call on a host with its own clock
    ∷ row 7 ((is_tick c && not (clocks_itself con1)) || (is_pin_call c && clocks_itself con1))
    ∷ []
