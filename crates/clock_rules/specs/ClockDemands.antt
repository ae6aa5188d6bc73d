-- The customer's demands on the clock report. The record ClockReports holds every statement, and
-- proofs/ClockDemandsHold.antt proves it.
use Rattle.std.specs.Prelude.{ℕ, ◌-◌, ◌*◌, ◌%◌, ◌^◌, ◌<◌, true, false, [], ◌∷◌, ◌≡◌, get_or, Result}
use Rattle.std.specs.Float.{binary64}
use Rattle.std.specs.Float.Ieee.{round}
use Rattle.floats.specs.Whole.{float_of}
use Rattle.module_types.specs.declared.Settings.{Settings}
use Rattle.module_types.specs.declared.Module.{Module}
use Rattle.module_types.specs.declared.Refusal.{Refusal}
use Rattle.module_rules.specs.InBits.{clocks_itself}
use Rattle.clock_rules.specs.declared.Clock.{Clock}
use Rattle.clock_rules.specs.Clock.{divider_of, nought, report_of, said_refused, said_internal, said_external, said_none, said_clock}

-- Document 01's table of primaries, by PPRE 0 to 3. The rule gives the same divider for every PPRE and SPRE, in range or not
-- (document 02, Two).
abbrev pub tabled : Settings → ℕ
tabled s = get_or (64 ∷ 16 ∷ 4 ∷ 1 ∷ []) (s.con1.ppre % 4) 0 * (8 - s.con1.spre % 8)

-- The report for an instruction rate F of 32 bits. The rate 0 gives 8, of any module. Otherwise a disabled module answers
-- none; a host with its own clock answers internal with F / D and D / F, each the fraction rounded once to a 64-bit float,
-- and where D divides F the rate is the whole quotient; any other module answers external with F. An equation with a
-- function leaves no two answers. A float that a report does not carry is told as 0.
pub record ClockReports : Type 0 where
  pub refused : (m : Module) → said_clock (report_of m 0) ≡ said_refused 8
  pub none : (m : Module) (f : ℕ) → 0 < f → m.settings.spien ≡ false → said_clock (report_of m f) ≡ said_none
  pub internal : (m : Module) (f : ℕ) → 0 < f → f < 2 ^ 32 → m.settings.spien ≡ true → clocks_itself m.settings.con1 ≡ true →
      said_clock (report_of m f)
      ≡ said_internal (round binary64 false f (divider_of m.settings)) (round binary64 false (divider_of m.settings) f)
  pub exact : (m : Module) (f q : ℕ) → f < 2 ^ 32 → f ≡ q * divider_of m.settings →
      round binary64 false f (divider_of m.settings) ≡ float_of q
  pub external : (m : Module) (f : ℕ) → 0 < f → m.settings.spien ≡ true → clocks_itself m.settings.con1 ≡ false →
      said_clock (report_of m f) ≡ said_external (float_of f)
  pub as_tabled : (s : Settings) → divider_of s ≡ tabled s
  pub told_as0 : nought ≡ float_of 0
  pub one_outcome : (m : Module) (f : ℕ) (x y : Result Clock Refusal) → x ≡ report_of m f → y ≡ report_of m f → x ≡ y
