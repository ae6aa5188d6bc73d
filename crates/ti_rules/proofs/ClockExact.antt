-- The rate is LSPCLK over the divider, rounded once, and exact where the divider divides.
--     slow_rate, fast_rate   the rate for SPIBRR 3 to 127, and 0 to 2, by its low seven bits
--     no_rate                of LSPCLK 0
-- Assumes nothing.
use Rattle.std.specs.Prelude.{◌+◌, ◌*◌, ◌%◌, ◌^◌, ◌≤◌, ◌<◌, ◌≡◌}
use Rattle.laws.proofs.Common.{ℕ, false, refl, sym, ap, ◌∙◌, zero-mul, arith, lt-ltb}
use Rattle.laws.proofs.Common.{le-ltb, ltb, when◌then◌else◌, if_keeps}
use lib.Ieee.{binary64, round}
use Rattle.floats.specs.Whole.{float_of}
use Rattle.floats.proofs.Quotients.{quotient_rounded, whole_fraction}
use Rattle.ti_rules.specs.Clock.{divider_of, rate_of}

rate_by : (spibrr lspclk d : ℕ) → divider_of spibrr ≡ d → 1 ≤ d → d ≤ 128 → lspclk < 2 ^ 32 →
    rate_of spibrr lspclk ≡ round binary64 false lspclk d
unfolding rate_of
rate_by spibrr lspclk d e least most h =
    rw e (quotient_rounded lspclk d h (omega arith) least)

module _ (brr more : ℕ) where
  pub slow_rate : (lspclk : ℕ) → brr ≤ 127 → 3 ≤ brr → lspclk < 2 ^ 32 →
      rate_of (brr + 128 * more) lspclk ≡ round binary64 false lspclk (brr + 1)
  unfolding divider_of when◌then◌else◌
  slow_rate lspclk most least h =
      let low : (brr + 128 * more) % 128 ≡ brr = omega arith in
      rate_by (brr + 128 * more) lspclk (brr + 1)
      (rw (low, le-ltb brr 3 least)) (omega arith) (omega arith) h

  pub fast_rate : (lspclk : ℕ) → brr ≤ 2 → lspclk < 2 ^ 32 → rate_of (brr + 128 * more) lspclk ≡ round binary64 false lspclk 4
  unfolding divider_of when◌then◌else◌
  fast_rate lspclk most h =
      let low : (brr + 128 * more) % 128 ≡ brr = omega arith in
      let few : brr < 3 = omega arith in
      rate_by (brr + 128 * more) lspclk 4
      (rw (low, lt-ltb brr 3 few)) (omega arith) (omega arith) h

-- LSPCLK 0 gives the rate 0.
divider_bounds : (spibrr : ℕ) → (1 ≤ divider_of spibrr) × (divider_of spibrr ≤ 128)
unfolding divider_of
divider_bounds spibrr =
    if_keeps (λ (d : ℕ). (1 ≤ d) × (d ≤ 128)) (ltb (spibrr % 128) 3) _ _ (λ e. (omega arith, omega arith)) (λ e. (omega arith, omega arith))

pub no_rate : (spibrr : ℕ) → rate_of spibrr 0 ≡ float_of 0
no_rate spibrr =
    let d : ℕ = divider_of spibrr in
    let b = divider_bounds spibrr in
    rate_by spibrr 0 d refl b.0 b.1 (omega arith)
    ∙ ap (λ (n : ℕ). round binary64 false n d) (sym (zero-mul d))
    ∙ whole_fraction 0 d b.0
