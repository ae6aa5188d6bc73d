-- The choices of loading and of the level between words, test by test.
--     busy_waits, none_waits_lem, kept_back, loads    the first waiting word
--     early_stays, begun_stays, rests             the level of SDO
-- Assumes nothing.
use Rattle.std.specs.Prelude.{◌≡◌}
use Rattle.laws.proofs.Common.{ℕ, Bool, true, false, not, refl, ap, ne_eqb, eqb, so, not_so, and_both, and-false}
use Rattle.laws.proofs.Common.{and_first}
use Rattle.module_rules.proofs.Types.{Settings, Engine}
use Rattle.module_rules.specs.Settings.{ssen_client, cke_of}
use Rattle.module_rules.specs.Registers.{is_free}
use Rattle.module_rules.specs.Loading.{can_load, moved, loaded, is_begun, next_top, rested, sdo_at}

module _ (s : Settings) (n : Engine) where
  pub busy_waits : is_free n.shift ≡ false → n ≡ loaded s n
  unfolding can_load loaded
  busy_waits busy = not_so (can_load s n) _ _ (and_first (is_free n.shift) _ busy) refl

  pub none_waits_lem : n.transmit.count ≡ 0 → n ≡ loaded s n
  unfolding can_load loaded
  none_waits_lem none =
      not_so (can_load s n) _ _
      (and-false (is_free n.shift) _ (and-false (not (ssen_client s)) _ (ap (λ (x : ℕ). not (eqb x 0)) none))) refl

  pub kept_back : ssen_client s ≡ true → n ≡ loaded s n
  unfolding can_load loaded
  kept_back client = not_so (can_load s n) _ _ (and-false (is_free n.shift) _ (and_first (not (ssen_client s)) _ (ap not client))) refl

  pub loads : is_free n.shift ≡ true → (n.transmit.count ≡ 0 → ⊥) → ssen_client s ≡ false → moved s n ≡ loaded s n
  unfolding can_load loaded
  loads free some other = so (can_load s n) _ _ (and_both _ _ free (and_both _ _ (ap not other) (ap not (ne_eqb _ _ some)))) refl

  pub early_stays : cke_of s ≡ false → n ≡ rested s n
  unfolding rested sdo_at
  early_stays late = ap (λ (x : Bool). sdo_at x n) (not_so _ _ _ (and_first (cke_of s) _ late) refl)

  pub begun_stays : is_begun n.shift ≡ true → n ≡ rested s n
  unfolding rested sdo_at
  begun_stays begun = ap (λ (x : Bool). sdo_at x n) (not_so _ _ _ (and-false (cke_of s) _ (ap not begun)) refl)

  pub rests : cke_of s ≡ true → is_begun n.shift ≡ false → sdo_at (next_top s n.transmit n.shift) n ≡ rested s n
  unfolding rested
  rests early idle = ap (λ (x : Bool). sdo_at x n) (so _ _ _ (and_both _ _ early (ap not idle)) refl)
