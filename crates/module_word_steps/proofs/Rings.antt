-- A ring with a word more or a word less.
--     pushed_written, popped_departed    the transmit buffer
--     arrived_appended, fetched_taken    the receive buffer
--     full_stays, none_departs, full_keeps, none_taken   buffers that stay as they are
-- Assumes nothing.
use Rattle.std.specs.Prelude.{◌+◌, ◌-◌, ◌<◌, ◌≤◌, ◌≡◌}
use Rattle.laws.proofs.Common.{ℕ, refl, arith, so_le, not_so_le, so_eq, not_so_eq}
use Rattle.module_rules.proofs.Types.{Transmit, Receive}
use Rattle.ring.specs.Ring.{next}
use Rattle.module_rules.specs.Buffers.{written, departed, appended, taken}
use Rattle.module_memory.specs.Memory.{pushed, popped, arrived, fetched}

module _ (depth : ℕ) (b : Transmit) where
  pub pushed_written : (v on count : ℕ) → b.count < depth → on ≡ next depth b.write.0 → count ≡ b.count + 1 →
      pushed v on count b ≡ written depth v b
  unfolding written
  pushed_written v on count h e f = not_so_le depth b.count _ _ h (rw (e, f))

  pub full_stays : (v : ℕ) → depth ≤ b.count → b ≡ written depth v b
  unfolding written
  full_stays v h = so_le depth b.count _ _ h refl

  pub popped_departed : (on count : ℕ) → 0 < b.count → on ≡ next depth b.read.0 → count ≡ b.count - 1 →
      popped on count b ≡ departed depth b
  unfolding departed
  popped_departed on count h e f = not_so_eq b.count 0 _ _ (λ none. omega arith) (rw (e, f))

  pub none_departs : b.count ≤ 0 → b ≡ departed depth b
  unfolding departed
  none_departs h = so_eq b.count 0 _ _ (omega arith) refl

module _ (depth : ℕ) (b : Receive) where
  pub arrived_appended : (v on count : ℕ) → b.count < depth → on ≡ next depth b.write.0 → count ≡ b.count + 1 →
      arrived v on count b ≡ appended depth v b
  unfolding appended
  arrived_appended v on count h e f = not_so_le depth b.count _ _ h (rw (e, f))

  pub full_keeps : (v : ℕ) → depth ≤ b.count → b ≡ appended depth v b
  unfolding appended
  full_keeps v h = so_le depth b.count _ _ h refl

  pub fetched_taken : (on count : ℕ) → 0 < b.count → on ≡ next depth b.read.0 → count ≡ b.count - 1 →
      fetched on count b ≡ taken depth b
  unfolding taken
  fetched_taken on count h e f = not_so_eq b.count 0 _ _ (λ none. omega arith) (rw (e, f))

  pub none_taken : b.count ≤ 0 → b ≡ taken depth b
  unfolding taken
  none_taken h = so_eq b.count 0 _ _ (omega arith) refl
