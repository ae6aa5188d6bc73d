-- A test of every number below one.
--     each_below, below_each   it holds of all exactly if it holds of each
--     below_next               one more
--     below_fails              it fails if one does
-- Assumes nothing.
use Rattle.std.specs.Prelude.{◌+◌, ◌<◌, ◌≡◌}
use Rattle.laws.proofs.Common.{ℕ, zero, suc, Bool, true, false, refl, ap, ◌∙◌, arith, ltb-true, ltb-false, ltb}
use Rattle.laws.proofs.Common.{clash, by_test, and_left, and_right, and_both}
use Rattle.trace_rules.specs.Trace.{all_below}

module _ (test : ℕ → Bool) where
  pub each_below : (n : ℕ) → all_below test n ≡ true → (k : ℕ) → k < n → test k ≡ true
  unfolding all_below
  each_below zero all k h = absurd (omega arith)
  each_below (suc n) all k h =
      by_test (ltb k n)
      (λ below. each_below n (and_left (all_below test n) _ all) k (ltb-true k n below))
      (λ last.
      ap test (let same : k ≡ n = omega (arith, h, ltb-false k n last) in same) ∙ and_right (all_below test n) _ all)

  pub below_each : (n : ℕ) → ((k : ℕ) → k < n → test k ≡ true) → all_below test n ≡ true
  unfolding all_below
  below_each zero each = refl
  below_each (suc n) each =
      and_both (all_below test n) _ (below_each n (λ k h. each k (omega arith))) (each n (omega arith))

  pub below_next : (n : ℕ) → all_below test n ≡ true → test n ≡ true → all_below test (n + 1) ≡ true
  unfolding all_below
  below_next n all this =
      ap (all_below test) (let same : n + 1 ≡ suc n = omega arith in same) ∙ and_both (all_below test n) _ all this

  pub below_fails : (n k : ℕ) → k < n → test k ≡ false → all_below test n ≡ false
  below_fails n k h fails =
      by_test (all_below test n) (λ all. clash (test k) (each_below n all k h) fails) (λ none. none)
