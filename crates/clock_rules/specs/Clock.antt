-- Document 01, "The clock report".
use Rattle.std.specs.Prelude.{ℕ, zero, suc, ◌-◌, ◌*◌, ◌/◌, ◌%◌, true, false, not, eqb, pos, Float, Result, Ok, Err}
use Rattle.std.specs.Float.{fin, binary64}
use Rattle.std.specs.Float.Ieee.{div}
use Rattle.floats.specs.Whole.{float_of}
use Rattle.laws.specs.Choice.{when◌then◌else◌}
use Rattle.module_types.specs.declared.Module.{Module}
use Rattle.module_types.specs.declared.Settings.{Settings}
use Rattle.module_types.specs.declared.Refusal.{Refusal}
use Rattle.module_types.specs.declared.Refusal.TheVariants.{NoRate}
use Rattle.module_rules.specs.Settings.{own_clock}
use Rattle.module_rules.specs.Refusals.{number_of}
use Rattle.clock_rules.specs.declared.Rates.{Rates}
use Rattle.clock_rules.specs.declared.Clock.{Clock}
use Rattle.clock_rules.specs.declared.Clock.TheVariants.{Internal, External, None}
use Rattle.clock_rules.specs.declared.ClockSaid.{ClockSaid}

-- A number divided by four, so many times.
unfoldable pub quartered : ℕ → ℕ → ℕ
quartered zero n = n
quartered (suc steps) n = quartered steps (n / 4)

-- Document 02, Two. Primary: from 64, each step of PPRE divides by four. PPRE counts by its two bits.
unfoldable pub primary_of : ℕ → ℕ
primary_of ppre = quartered (ppre % 4) 64

-- Secondary: 8 less SPRE, which counts by its three bits.
unfoldable pub secondary_of : ℕ → ℕ
secondary_of spre = 8 - spre % 8

-- D: the two prescalers together, from 1 to 512.
unfoldable pub divider_of : Settings → ℕ
divider_of s = primary_of s.con1.ppre * secondary_of s.con1.spre

-- The record of the two floats: the rate F / D and the bit time D / F, each one division.
unfoldable pub rates_of : Settings → ℕ → Rates
rates_of s f =
    record {
      rate = div binary64 (float_of f) (float_of (divider_of s));
      bittime = div binary64 (float_of (divider_of s)) (float_of f);
    }

-- Where the clock comes from: none if disabled; internal for a host with its own clock; external for every module that
-- is clocked from its pin, with F as the float that its clock must stay below.
unfoldable pub clock_of : Settings → ℕ → Clock
clock_of s f =
    when not s.spien then None
    else when own_clock s then Internal (rates_of s f)
    else External (float_of f)

-- The report for an instruction rate F. Test 8 comes first: the rate 0 is refused, of a disabled module too.
abbrev pub report_by : Settings → ℕ → Result Clock Refusal
report_by s f = when eqb f 0 then Err NoRate else Ok (clock_of s f)

unfoldable pub report_of : Module → ℕ → Result Clock Refusal
report_of m f = report_by m.settings f

-- What each case of a report says in the paper's numbers. A float that a case does not carry is told as 0.
abbrev pub nought : Float
nought = fin false 0 (pos 0)

-- refused: the number only
abbrev pub said_refused : ℕ → ClockSaid
said_refused n =
    record { number = n; internal = false; external = false; rate = nought; bittime = nought; below = nought }

-- internal: the rate and the bit time
abbrev pub said_internal : Float → Float → ClockSaid
said_internal rate bittime =
    record { number = 0; internal = true; external = false; rate = rate; bittime = bittime; below = nought }

-- external: the float that the clock must stay below
abbrev pub said_external : Float → ClockSaid
said_external f =
    record { number = 0; internal = false; external = true; rate = nought; bittime = nought; below = f }

-- none: no refusal, and no clock
abbrev pub said_none : ClockSaid
said_none =
    record { number = 0; internal = false; external = false; rate = nought; bittime = nought; below = nought }

-- A report in the paper's numbers.
unfoldable pub said_clock : Result Clock Refusal → ClockSaid
said_clock (Err r) = said_refused (number_of r)
said_clock (Ok (Internal x)) = said_internal x.rate x.bittime
said_clock (Ok (External f)) = said_external f
said_clock (Ok None) = said_none
