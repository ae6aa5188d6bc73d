-- The two buffers over the ring, by the words that they hold.
--     written_appends, left_takes_first, waiting_length      the transmit buffer
--     appended_appends, taken_takes_first, unread_length     the receive buffer
-- Assumes nothing.
use Rattle.std.specs.Prelude.{◌<◌, ◌≤◌, ◌≡◌, ◌∷◌, ◌++◌}
use Rattle.laws.proofs.Common.{ℕ, false, sym, ap, ◌∙◌, [], arith, lt-leb, ne_eqb, length}
use Rattle.laws.proofs.Common.{if_false}
use Rattle.ring.specs.Ring.{RingHolds}
use Rattle.ring.proofs.Positions.{write_within}
use Rattle.ring.proofs.Contents.{push_appends, pop_takes_first, contents_length, contents_none}
use Rattle.module_rules.proofs.Types.{Transmit, Receive}
use Rattle.module_rules.specs.Buffers.{capacity, cell, full, empty, first_waiting, first_unread, written, departed, appended, taken, waiting, unread}

-- A position within a depth of at most the capacity is the cell that it names.
pub cell_within : (depth at : ℕ) → depth ≤ capacity → at < depth → cell at ≡ at
cell_within depth at h k = omega arith

module _ (depth : ℕ) (t : Transmit) (fits : depth ≤ capacity) (cells : length t.words ≡ capacity)
    (ring : RingHolds depth t.write.0 t.read.0 t.count) where
  -- A word written into a buffer that is not full stands last among those waiting.
  pub written_appends : (v : ℕ) → t.count < depth → waiting depth (written depth v t) ≡ waiting depth t ++ (v ∷ [])
  unfolding waiting written
  written_appends v k =
      let room : full depth t.count ≡ false = lt-leb depth t.count k in
      let inside : t.write.0 < depth = write_within depth t.write.0 t.read.0 t.count ring in
      let here : cell t.write.0 ≡ t.write.0 = cell_within depth t.write.0 fits inside in
      ap (waiting depth) (if_false (full depth t.count) t _ room)
      ∙ rw here (push_appends 0 depth t.words t.write.0 t.read.0 t.count ring v (omega arith) k)

  -- The word that leaves a buffer that is not empty is the first of those waiting.
  pub left_takes_first : 1 ≤ t.count → waiting depth t ≡ first_waiting t ∷ waiting depth (departed depth t)
  unfolding waiting departed first_waiting
  left_takes_first k =
      let some-wait : empty t.count ≡ false = ne_eqb t.count 0 (omega arith) in
      let here : cell t.read.0 ≡ t.read.0 = cell_within depth t.read.0 fits ring.within in
      rw here (pop_takes_first 0 depth t.words t.write.0 t.read.0 t.count ring k)
      ∙ ap (λ (u : Transmit). first_waiting t ∷ waiting depth u) (sym (if_false (empty t.count) t _ some-wait))

-- Nothing waits in a transmit buffer that counts none.
pub none_waiting : (depth : ℕ) (t : Transmit) → t.count ≡ 0 → waiting depth t ≡ []
unfolding waiting
none_waiting depth t e = contents_none 0 depth t.words t.read.0 t.count e

-- As many words wait as the transmit buffer counts.
pub waiting_length : (depth : ℕ) (t : Transmit) → length (waiting depth t) ≡ t.count
unfolding waiting
waiting_length depth t = contents_length 0 depth t.words t.read.0 t.count

module _ (depth : ℕ) (r : Receive) (fits : depth ≤ capacity) (cells : length r.words ≡ capacity)
    (ring : RingHolds depth r.write.0 r.read.0 r.count) where
  -- A word appended to a buffer that is not full stands last among those unread.
  pub appended_appends : (v : ℕ) → r.count < depth → unread depth (appended depth v r) ≡ unread depth r ++ (v ∷ [])
  unfolding unread appended
  appended_appends v k =
      let room : full depth r.count ≡ false = lt-leb depth r.count k in
      let inside : r.write.0 < depth = write_within depth r.write.0 r.read.0 r.count ring in
      let here : cell r.write.0 ≡ r.write.0 = cell_within depth r.write.0 fits inside in
      ap (unread depth) (if_false (full depth r.count) r _ room)
      ∙ rw here (push_appends 0 depth r.words r.write.0 r.read.0 r.count ring v (omega arith) k)

  -- The word taken from a buffer that is not empty is the first of those unread.
  pub taken_takes_first : 1 ≤ r.count → unread depth r ≡ first_unread r ∷ unread depth (taken depth r)
  unfolding unread taken first_unread
  taken_takes_first k =
      let some_stand : empty r.count ≡ false = ne_eqb r.count 0 (omega arith) in
      let here : cell r.read.0 ≡ r.read.0 = cell_within depth r.read.0 fits ring.within in
      rw here (pop_takes_first 0 depth r.words r.write.0 r.read.0 r.count ring k)
      ∙ ap (λ (u : Receive). first_unread r ∷ unread depth u) (sym (if_false (empty r.count) r _ some_stand))

-- Nothing is unread in a receive buffer that counts none.
pub none_unread : (depth : ℕ) (r : Receive) → r.count ≡ 0 → unread depth r ≡ []
unfolding unread
none_unread depth r e = contents_none 0 depth r.words r.read.0 r.count e

-- As many words are unread as the receive buffer counts.
pub unread_length : (depth : ℕ) (r : Receive) → length (unread depth r) ≡ r.count
unfolding unread
unread_length depth r = contents_length 0 depth r.words r.read.0 r.count
