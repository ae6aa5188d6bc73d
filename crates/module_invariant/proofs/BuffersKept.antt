-- What the buffers keep: a ring that turns within its depth, all cells, and words that fit the width.
--     written_keeps, left_keeps               the transmit buffer after a word is written, or leaves
--     appended_keeps, taken_keeps             the receive buffer after a word is appended, or taken
--     first_waiting_fits                      the first waiting word fits the width
--     first_unread_fits                       the first unread word fits the width
--     first_waiting_stays                     a word written behind others leaves the first as it was
-- Assumes nothing.
use Rattle.std.specs.Prelude.{◌^◌, ◌<◌, ◌≤◌, ◌≡◌}
use Rattle.laws.proofs.Common.{ℕ, refl, arith, leb-false, eqb-false, if_keeps}
use Rattle.ring.proofs.Positions.{write_within}
use Rattle.ring.proofs.Buffer.{buffer_empty, buffer_push, buffer_pop, buffer_first_stays}
use Rattle.module_rules.proofs.Types.{Settings, Transmit, Receive}
use Rattle.module_rules.specs.Buffers.{capacity, cell, full, empty, empty_transmit, empty_receive, first_waiting, first_unread, written, departed, appended, taken}
use Rattle.module_rules.specs.Settings.{width_of, depth_of}
use Rattle.module_rules.proofs.Sizes.{depth_least, depth_most}
use Rattle.module_rules.proofs.BuffersOrder.{cell_within}
use Rattle.module_invariant.proofs.Parts.{TransmitHolds, ReceiveHolds}

-- The empty transmit buffer holds, whatever the settings.
pub empty_transmit_holds : (s : Settings) → TransmitHolds s empty_transmit
unfolding empty_transmit
empty_transmit_holds s = buffer_empty capacity (depth_of s) (width_of s) (depth_least s)

-- The empty receive buffer holds, whatever the settings.
pub empty_receive_holds : (s : Settings) → ReceiveHolds s empty_receive
unfolding empty_receive
empty_receive_holds s = buffer_empty capacity (depth_of s) (width_of s) (depth_least s)

module _ (s : Settings) (t : Transmit) (h : TransmitHolds s t) where
  -- A word that fits is written.
  pub written_keeps : (v : ℕ) → v < 2 ^ width_of s → TransmitHolds s (written (depth_of s) v t)
  unfolding written
  written_keeps v k =
      if_keeps (TransmitHolds s) (full (depth_of s) t.count) t _ (λ e. h)
      (λ e. buffer_push h (cell t.write.0) v k (leb-false (depth_of s) t.count e))

  -- The first waiting word leaves.
  pub left_keeps : TransmitHolds s (departed (depth_of s) t)
  unfolding departed
  left_keeps =
      if_keeps (TransmitHolds s) (empty t.count) t _ (λ e. h)
      (λ e. let some-wait : t.count ≡ 0 → ⊥ = eqb-false t.count 0 e in buffer_pop h (omega arith))

  -- The first waiting word fits the width.
  pub first_waiting_fits : first_waiting t < 2 ^ width_of s
  unfolding first_waiting
  first_waiting_fits = h.fit (cell t.read.0)

  -- A word written behind others leaves the first as it was.
  pub first_waiting_stays : (v : ℕ) → 1 ≤ t.count → first_waiting (written (depth_of s) v t) ≡ first_waiting t
  unfolding first_waiting written
  first_waiting_stays v k =
      if_keeps (λ (u : Transmit). first_waiting u ≡ first_waiting t) (full (depth_of s) t.count) t _ (λ e. refl)
      (λ e.
      rw (
        cell_within (depth_of s) t.write.0 (depth_most s)
            (write_within (depth_of s) t.write.0 t.read.0 t.count h.ring),
        cell_within (depth_of s) t.read.0 (depth_most s) h.ring.within,
      )
      (buffer_first_stays h v k (leb-false (depth_of s) t.count e)))

module _ (s : Settings) (r : Receive) (h : ReceiveHolds s r) where
  -- A word that fits is appended.
  pub appended_keeps : (v : ℕ) → v < 2 ^ width_of s → ReceiveHolds s (appended (depth_of s) v r)
  unfolding appended
  appended_keeps v k =
      if_keeps (ReceiveHolds s) (full (depth_of s) r.count) r _ (λ e. h)
      (λ e. buffer_push h (cell r.write.0) v k (leb-false (depth_of s) r.count e))

  -- The first unread word is taken.
  pub taken_keeps : ReceiveHolds s (taken (depth_of s) r)
  unfolding taken
  taken_keeps =
      if_keeps (ReceiveHolds s) (empty r.count) r _ (λ e. h)
      (λ e. let some_stand : r.count ≡ 0 → ⊥ = eqb-false r.count 0 e in buffer_pop h (omega arith))

  -- The first unread word fits the width.
  pub first_unread_fits : first_unread r < 2 ^ width_of s
  unfolding first_unread
  first_unread_fits = h.fit (cell r.read.0)
