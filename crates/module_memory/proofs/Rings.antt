-- Rings in memory, once for both buffers and for any capacity that their places allow: a look at a cell whose place is
-- computed, and a store there.
--     cell_read        a cell, read at its place
--     cells_all        a list is the list of its cells
--     words_now        the cells of a ring into which a word was put
--     kept             what stands elsewhere then
--     transmit_pushed, receive_arrived   a word put into either buffer
-- Assumes nothing.
use Rattle.std.specs.Prelude.{◌+◌, ◌<◌, ◌≤◌, ◌||◌, ◌∷◌, ◌≡◌}
use Rattle.laws.proofs.Common.{ℕ, zero, suc, Bool, true, false, List, [], refl, ◌∙◌, ap}
use Rattle.laws.proofs.Common.{arith, lt-ltb, eq-eqb, ne_eqb, eqb-true, eqb-false, ltb-true, eqb, ltb, length, set, get_or}
use Rattle.laws.proofs.Common.{when◌then◌else◌, if_keeps, if_false, and_both, or_rest, by_test}
use lib.Dec.{eqb-suc-zero, eqb-zero-suc, eqb-suc-suc}
use Rattle.laws.specs.Writes.{Write, at, writes}
use Rattle.laws.proofs.Stored.{after, within}
use Rattle.module_rules.specs.Buffers.{capacity, cell}
use Rattle.module_rules.specs.Changes.{with_transmit, with_receive}
use Rattle.module_memory.specs.Memory.{bit_in, byte_in, place_in, from, cells_at, settings_at, transmit_at, receive_at, shift_at, pins_at, settings_in, engine_in, pushed, arrived, Steps}
use Rattle.module_memory.proofs.Stored.{engine_step_lem}

-- A list of cells.
pub cell_read : (n : ℕ) (place : ℕ → ℕ) (i : ℕ) → i < n → get_or (cells_at n place) i 0 ≡ place i
cell_read zero place i h = absurd (omega arith)
cell_read (suc n) place zero h = refl
cell_read (suc n) place (suc i) h = cell_read n (λ k. place (suc k)) i (omega arith)

pub cells_all : (n : ℕ) (l : List ℕ) → length l ≡ n → cells_at n (place_in l) ≡ l
cells_all zero [] h = refl
cells_all zero (x ∷ l) h = absurd (omega arith)
cells_all (suc n) [] h = absurd (omega arith)
cells_all (suc n) (x ∷ l) h = ap (λ (rest : List ℕ). x ∷ rest) (cells_all n l (omega arith))

cells_same : (n : ℕ) (f g : ℕ → ℕ) → ((k : ℕ) → k < n → f k ≡ g k) → cells_at n f ≡ cells_at n g
cells_same zero f g h = refl
cells_same (suc n) f g h =
    let rest = cells_same n (λ k. f (suc k)) (λ k. g (suc k)) (λ k below. h (suc k) (omega arith)) in
    λ j. h 0 (omega arith) j ∷ rest j

cell_written : (n : ℕ) (place : ℕ → ℕ) (i v : ℕ) → i < n →
    cells_at n (λ k. when eqb k i then v else place k) ≡ set (cells_at n place) i v
unfolding when◌then◌else◌
cell_written zero place i v h = absurd (omega arith)
cell_written (suc n) place zero v h =
    λ j. v ∷ cells_at n (λ k. ap (λ (b : Bool). when b then v else place (suc k)) (eqb-suc-zero k) j)
cell_written (suc n) place (suc i) v h =
    (λ j.
    ap (λ (b : Bool). when b then v else place 0) (eqb-zero-suc i) j
    ∷ cells_at n (λ k. ap (λ (b : Bool). when b then v else place (suc k)) (eqb-suc-suc k i) j))
    ∙ ap (λ (l : List ℕ). place 0 ∷ l) (cell_written n (λ k. place (suc k)) i v (omega arith))

-- A word, the write position and the count of a ring that stands from a place on.
abbrev pub ring_writes : ℕ → ℕ → ℕ → ℕ → ℕ → List Write
ring_writes base i v x y = at (base + i) v ∷ at (base + 16) x ∷ at (base + 18) y ∷ []

module _ (place : ℕ → ℕ) (base n i v x y : ℕ) (named : i < n) (room : n ≤ 16) where
  abbrev now : ℕ → ℕ
  now = after place (ring_writes base i v x y)

  unwritten : (k : ℕ) → (k ≡ base + i → ⊥) → (k ≡ base + 16 → ⊥) → (k ≡ base + 18 → ⊥) → now k ≡ place k
  unwritten k a b c =
      if_false (eqb k (base + 18)) _ _ (ne_eqb _ _ c)
      ∙ if_false (eqb k (base + 16)) _ _ (ne_eqb _ _ b)
      ∙ if_false (eqb k (base + i)) _ _ (ne_eqb _ _ a)

  -- Before the ring, at its read position, and behind it.
  abbrev elsewhere : ℕ → Bool
  elsewhere k = ltb k base || (eqb k (base + 17) || ltb (base + 18) k)

  stands : (k : ℕ) → elsewhere k ≡ true → now k ≡ place k
  stands k e =
      by_test (ltb k base)
      (λ ahead.
      let h = ltb-true k base ahead in
      unwritten k (λ f. omega arith) (λ f. omega arith) (λ f. omega arith))
      (λ not-ahead.
      let rest = or_rest (ltb k base) _ e not-ahead in
      by_test (eqb k (base + 17))
      (λ read.
      let h = eqb-true k (base + 17) read in
      unwritten k (λ f. omega arith) (λ f. omega arith) (λ f. omega arith))
      (λ not_read.
      let h = ltb-true (base + 18) k (or_rest (eqb k (base + 17)) _ rest not_read) in
      unwritten k (λ f. omega arith) (λ f. omega arith) (λ f. omega arith)))

  pub kept : (k : ℕ) → (when elsewhere k then now k else place k) ≡ place k
  kept k = if_keeps (λ (z : ℕ). z ≡ place k) (elsewhere k) _ _ (stands k) (λ _. refl)

  -- A cell of the ring.
  same-cell : (k : ℕ) → eqb (base + k) (base + i) ≡ eqb k i
  same-cell k = go (eqb k i) refl
    where
      go : (b : Bool) → eqb k i ≡ b → eqb (base + k) (base + i) ≡ b
      go true e = let there = eqb-true k i e in eq-eqb (base + k) (base + i) (omega arith)
      go false e = let apart = eqb-false k i e in ne_eqb (base + k) (base + i) (λ f. apart (omega arith))

  in_cell : (k : ℕ) → k < n → now (base + k) ≡ (when eqb k i then v else place (base + k))
  in_cell k h =
      if_false (eqb (base + k) (base + 18)) _ _ (ne_eqb (base + k) (base + 18) (λ e. omega arith))
      ∙ if_false (eqb (base + k) (base + 16)) _ _ (ne_eqb (base + k) (base + 16) (λ e. omega arith))
      ∙ ap (λ (b : Bool). when b then v else place (base + k)) (same-cell k)

  pub words_now : cells_at n (from base now) ≡ set (cells_at n (from base place)) i v
  words_now = cells_same n _ _ in_cell ∙ cell_written n (from base place) i v named

-- A word put into a buffer of a module in memory.
module _ (w : List ℕ) (whole : length w ≡ 96) (i v x y on count : ℕ) (e : byte_in x ≡ on) (f : byte_in y ≡ count) where
  fit : (base : ℕ) → i < capacity → base + 19 ≤ 96 → within 96 (ring_writes base i v x y) ≡ true
  fit base named room =
      and_both (ltb (base + i) 96) _ (lt-ltb (base + i) 96 (omega arith))
      (and_both (ltb (base + 16) 96) _ (lt-ltb (base + 16) 96 (omega arith))
      (and_both (ltb (base + 18) 96) _ (lt-ltb (base + 18) 96 (omega arith)) refl))

  pub transmit_pushed : i < capacity → i ≡ cell (engine_in w).transmit.write.0 →
      Steps (λ _ n. with_transmit (pushed v on count n.transmit) n) w (writes w (ring_writes 24 i v x y))
  unfolding when◌then◌else◌ settings_in engine_in
  transmit_pushed named there =
      let still = kept (place_in w) 24 capacity i v x y named (omega arith) in
      let words = words_now (place_in w) 24 capacity i v x y named (omega arith) in
      engine_step_lem w (ring_writes 24 i v x y) whole (fit 24 named (omega arith)) (λ j. settings_at (λ k. still k j))
      ((λ j.
      record {
        transmit =
            record {
              words = words j;
              write = record { 0 = e j };
              read = record { 0 = byte_in (still 41 j) };
              count = f j;
            };
        receive = receive_at (from 44 (λ k. still k j)) (bit_in (still 75 j));
        shift = shift_at (λ k. still k j);
        pins = pins_at (λ k. still k j);
        spirov = bit_in (still 72 j);
        interrupt = bit_in (still 73 j);
      })
      ∙ ap (λ (k : ℕ). with_transmit (record { words = set (engine_in w).transmit.words k v; write = record { 0 = on }; read = (engine_in w).transmit.read; count = count }) (engine_in w)) there)

  pub receive_arrived : i < capacity → i ≡ cell (engine_in w).receive.write.0 →
      Steps (λ _ n. with_receive (arrived v on count n.receive) n) w (writes w (ring_writes 44 i v x y))
  unfolding when◌then◌else◌ settings_in engine_in
  receive_arrived named there =
      let still = kept (place_in w) 44 capacity i v x y named (omega arith) in
      let words = words_now (place_in w) 44 capacity i v x y named (omega arith) in
      engine_step_lem w (ring_writes 44 i v x y) whole (fit 44 named (omega arith)) (λ j. settings_at (λ k. still k j))
      ((λ j.
      record {
        transmit = transmit_at (from 24 (λ k. still k j));
        receive =
            record {
              words = words j;
              write = record { 0 = e j };
              read = record { 0 = byte_in (still 61 j) };
              count = f j;
              marked = bit_in (still 75 j);
            };
        shift = shift_at (λ k. still k j);
        pins = pins_at (λ k. still k j);
        spirov = bit_in (still 72 j);
        interrupt = bit_in (still 73 j);
      })
      ∙ ap (λ (k : ℕ). with_receive (record { words = set (engine_in w).receive.words k v; write = record { 0 = on }; read = (engine_in w).receive.read; count = count; marked = (engine_in w).receive.marked }) (engine_in w)) there)
