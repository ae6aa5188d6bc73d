-- The floats of the clock report are the paper's fractions, rounded once, and where the divider divides the instruction rate
-- the quotient is the float of a whole number, which is that number exactly.
--     rate_rounds_once, bittime_rounds_once   the two floats of an internal clock
--     rate_exact, rate_reads_back             the rate where D divides F
--     quartered_start, -step, -all            dividing by four, step by step
--     primary_falls_by_four, divider_tabled   the rule of the primary, and the table that it gives
--     rate_0_is_refused, disabled_has_none, own_clock_says, pin_clock_says
--                                             what each module is told, in the paper's numbers
-- Assumes nothing.
use Rattle.std.specs.Prelude.{◌+◌, ◌-◌, ◌*◌, ◌/◌, ◌%◌, ◌^◌, ◌≤◌, ◌<◌, ◌≡◌, ◌∷◌, Ok}
use Rattle.laws.proofs.Common.{ℕ, zero, suc, true, false, not}
use Rattle.laws.proofs.Common.{refl, sym, ap, ◌∙◌, subst, [], mul-le-mul, mul-le-mul_left, le_trans, le_of_eq}
use Rattle.laws.proofs.Common.{lt_of_le_of_lt, arith, lit≤, lit<, get_or, when◌then◌else◌, so, not_so}
use Rattle.laws.proofs.Common.{not_so_eq}
use native.Mathlib.Nat.{mul-one, mul-pos}
use lib.Dec.{le→leb}
use lib.Ieee.{Float, binary64, round, to_unsigned, in_float}
use lib.Ieee.Exact.{HasValue}
use lib.Ieee.Back.{unsigned_back}
use Rattle.floats.specs.Whole.{float_of}
use Rattle.floats.proofs.Quotients.{float_exact, quotient_rounded, whole_fraction}
use Rattle.module_rules.proofs.Types.{Module, Settings}
use Rattle.module_rules.specs.Settings.{own_clock}
use Rattle.module_rules.specs.Refusals.{number_of}
use Rattle.clock_rules.specs.declared.Clock.{Clock}
use Rattle.clock_rules.specs.declared.Clock.TheVariants.{Internal, External, None}
use Rattle.clock_rules.specs.Clock.{quartered, primary_of, secondary_of, divider_of, rates_of, clock_of, report_of, said_refused, said_internal, said_external, said_none, said_clock}
use Rattle.clock_rules.specs.ClockDemands.{tabled}

-- ---- what divides

above_zero : (n : ℕ) → 0 < n → n ≡ 0 → ⊥
above_zero n h e = omega arith

-- 64 divided by four, up to three times: from 1 to 64, a quarter each time, and as the table has it.
steps : (n : ℕ) → n < 4 →
    let x : ℕ = quartered n 64 in
    (0 < x) × (x ≤ 64) × (x * 4 ^ n ≡ 64) × (x ≡ get_or (64 ∷ 16 ∷ 4 ∷ 1 ∷ []) n 0)
unfolding quartered
steps zero h = (lit< tt, lit≤ tt, refl, refl)
steps (suc zero) h = (lit< tt, lit≤ tt, refl, refl)
steps (suc (suc zero)) h = (lit< tt, lit≤ tt, refl, refl)
steps (suc (suc (suc zero))) h = (lit< tt, lit≤ tt, refl, refl)
steps (suc (suc (suc (suc n)))) h = absurd (omega arith)

-- Before the first division by four, at one with some left to do, and with none left.
pub quartered_start : (steps n : ℕ) → quartered (steps - 0) n ≡ quartered steps n
quartered_start steps n =
    let all : steps - 0 ≡ steps = omega arith in
    ap (λ (k : ℕ). quartered k n) all

pub quartered_step : (steps i left n : ℕ) → i < steps → quartered (steps - i) left ≡ quartered steps n →
    quartered (steps - (i + 1)) (left / 4) ≡ quartered steps n
unfolding quartered
quartered_step steps i left n h e =
    let one : suc (steps - (i + 1)) ≡ steps - i = omega arith in
    ap (λ (k : ℕ). quartered k left) one ∙ e

pub quartered_all : (steps i left n : ℕ) → steps ≤ i → quartered (steps - i) left ≡ quartered steps n →
    left ≡ quartered steps n
unfolding quartered
quartered_all steps i left n h e =
    let none : 0 ≡ steps - i = omega arith in
    ap (λ (k : ℕ). quartered k left) none ∙ e

pub primary_bounds : (ppre : ℕ) → (0 < primary_of ppre) × (primary_of ppre ≤ 64)
unfolding primary_of
primary_bounds ppre = let e = steps (ppre % 4) (omega arith) in (e.0, e.1)

-- Each step of PPRE divides by four, from 64.
pub primary_falls_by_four : (ppre : ℕ) → primary_of ppre * 4 ^ (ppre % 4) ≡ 64
unfolding primary_of
primary_falls_by_four ppre = (steps (ppre % 4) (omega arith)).2

-- The divider is the one that the table gave.
pub divider_tabled : (s : Settings) → divider_of s ≡ tabled s
unfolding divider_of primary_of secondary_of
divider_tabled s =
    ap (λ (p : ℕ). p * (8 - s.con1.spre % 8)) (steps (s.con1.ppre % 4) (omega arith)).3

pub secondary_bounds : (spre : ℕ) → (0 < secondary_of spre) × (secondary_of spre ≤ 8)
unfolding secondary_of
secondary_bounds spre = (omega arith, omega arith)

-- D is from 1 to 512.
pub divider_bounds : (s : Settings) → (0 < divider_of s) × (divider_of s ≤ 512)
unfolding divider_of
divider_bounds s =
    let p = primary_bounds s.con1.ppre in
    let q = secondary_bounds s.con1.spre in
    (mul-pos p.0 q.0, mul-le-mul p.1 q.1)

divider_fits : (s : Settings) → divider_of s < 2 ^ 32
divider_fits s = omega (arith, (divider_bounds s).1)

-- ---- the two floats

-- The rate is F / D, rounded once.
pub rate_rounds_once : (s : Settings) (f : ℕ) → f < 2 ^ 32 → (rates_of s f).rate ≡ round binary64 false f (divider_of s)
unfolding rates_of
rate_rounds_once s f h =
    quotient_rounded f (divider_of s) h (divider_fits s) (divider_bounds s).0

-- The bit time is D / F, rounded once.
pub bittime_rounds_once : (s : Settings) (f : ℕ) → 0 < f → f < 2 ^ 32 → (rates_of s f).bittime ≡ round binary64 false (divider_of s) f
unfolding rates_of
bittime_rounds_once s f p h =
    quotient_rounded (divider_of s) f (divider_fits s) h p

-- A quotient is no larger than what was divided.
quotient_small : (s : Settings) (f q : ℕ) → f < 2 ^ 32 → f ≡ q * divider_of s → q < 2 ^ 32
quotient_small s f q h e =
    lt_of_le_of_lt (le_trans (le_of_eq (sym (mul-one q))) (le_trans (mul-le-mul_left q (divider_bounds s).0) (le_of_eq (sym e)))) h

-- Where D divides F, the rate is the whole quotient: its float, with that value.
pub rate_exact : (s : Settings) (f q : ℕ) → f < 2 ^ 32 → f ≡ q * divider_of s → ((rates_of s f).rate ≡ float_of q) × HasValue (rates_of s f).rate false q 1
rate_exact s f q h e =
    let r : (rates_of s f).rate ≡ float_of q =
    rate_rounds_once s f h
    ∙ ap (λ (n : ℕ). round binary64 false n (divider_of s)) e
    ∙ whole_fraction q (divider_of s) (divider_bounds s).0 in
    (r, subst (λ (x : Float). HasValue x false q 1) (sym r) (float_exact q (quotient_small s f q h e)))

-- Read back as a number of 32 bits, such a rate is that quotient.
pub rate_reads_back : (s : Settings) (f q : ℕ) → f < 2 ^ 32 → f ≡ q * divider_of s → to_unsigned 32 (rates_of s f).rate ≡ q
unfolding in_float
rate_reads_back s f q h e =
    let small : q < 2 ^ 32 = quotient_small s f q h e in
    ap (to_unsigned 32) (rate_exact s f q h e).0 ∙ (unsigned_back binary64 32 q (le→leb q (2 ^ 53) (omega arith)) small).1

-- The paper's own: 40,000,000 with PPRE 2 and SPRE 6 is 5,000,000.
pub forty_million : (s : Settings) → s.con1.ppre ≡ 2 → s.con1.spre ≡ 6 → (rates_of s 40000000).rate ≡ float_of 5000000
unfolding divider_of primary_of secondary_of quartered
forty_million s p q =
    let d : divider_of s ≡ 8 = ap (λ (n : ℕ). primary_of n * secondary_of s.con1.spre) p ∙ ap (λ (n : ℕ). primary_of 2 * secondary_of n) q in
    (rate_exact s 40000000 5000000 (lit< tt) (ap (λ (n : ℕ). 5000000 * n) (sym d))).0

-- ---- what each module is told

-- An instruction rate above 0 is answered with the clock.
answered : (m : Module) (f : ℕ) (x : Clock) → 0 < f → x ≡ clock_of m.settings f → said_clock (report_of m f) ≡ said_clock (Ok x)
unfolding report_of
answered m f x p e =
    let r : Ok x ≡ report_of m f = not_so_eq f 0 _ _ (above_zero f p) (ap Ok e) in
    ap said_clock (sym r)

-- Test 8 comes first: the rate 0 is refused with 8, whatever the module.
pub rate_0_is_refused : (m : Module) → said_clock (report_of m 0) ≡ said_refused 8
unfolding report_of said_clock number_of when◌then◌else◌
rate_0_is_refused m = refl

-- A disabled module has no clock, and is not refused.
pub disabled_has_none : (m : Module) (f : ℕ) → 0 < f → m.settings.spien ≡ false → said_clock (report_of m f) ≡ said_none
unfolding clock_of said_clock
disabled_has_none m f p off = answered m f None p (so _ _ _ (ap not off) refl)

-- An enabled host with its own clock is told F / D and D / F, each rounded once.
pub own_clock_says : (m : Module) (f : ℕ) → 0 < f → f < 2 ^ 32 → m.settings.spien ≡ true → own_clock m.settings ≡ true
    → said_clock (report_of m f) ≡ said_internal (round binary64 false f (divider_of m.settings)) (round binary64 false (divider_of m.settings) f)
unfolding clock_of said_clock
own_clock_says m f p h on own =
    answered m f (Internal (rates_of m.settings f)) p (not_so _ _ _ (ap not on) (so _ _ _ own refl))
    ∙ ap (λ (x : Float). said_internal x (rates_of m.settings f).bittime) (rate_rounds_once m.settings f h)
    ∙ ap (λ (x : Float). said_internal (round binary64 false f (divider_of m.settings)) x) (bittime_rounds_once m.settings f p h)

-- Every other enabled module, a client or a DISSCK host, is told F itself.
pub pin_clock_says : (m : Module) (f : ℕ) → 0 < f → m.settings.spien ≡ true → own_clock m.settings ≡ false
    → said_clock (report_of m f) ≡ said_external (float_of f)
unfolding clock_of said_clock
pin_clock_says m f p on pin =
    answered m f (External (float_of f)) p (not_so _ _ _ (ap not on) (not_so _ _ _ pin refl))
