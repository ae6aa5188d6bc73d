-- A sample more in a ring of memory, and the first one taken.
--     ring_full, ring_room, ring_none   a ring by its count
--     cells_written, cell_read     a cell of a ring
--     push_moves, pop_moves        the step of the engine
-- Assumes nothing.
use Rattle.std.specs.Prelude.{◌+◌, ◌*◌, ◌-◌, ◌%◌, ◌≤◌, ◌<◌, ◌∷◌, ◌++◌, ◌≡◌}
use Rattle.laws.proofs.Common.{ℕ, zero, suc, true, false, List, [], refl, sym, ap, ◌∙◌, arith, length, get_or, set, when◌then◌else◌}
use Rattle.laws.specs.Writes.{at}
use Rattle.laws.proofs.Stored.{after}
use Rattle.card_rules.specs.Edge.{is_full}
use Rattle.card.specs.Memory.{from, cells_at, count_in, samples_at, head_at, engine_at, engine_in, place_in, Moves}
use Rattle.card.specs.Rings.{ring_of, with_ring}
use Rattle.card.proofs.Stored.{alike, moved}
use Rattle.card.proofs.Rings.{below_8, samples_none, samples_full, samples_room, samples_pop, samples_push}

-- The eight cells after one was written are the list with it set.
cells_written : (place : ℕ → ℕ) (i v : ℕ) → i < 8 → cells_at (λ k. get_or (set (cells_at place) i v) k 0) ≡ set (cells_at place) i v
cells_written place i v =
    below_8 (λ (j : ℕ). cells_at (λ k. get_or (set (cells_at place) j v) k 0) ≡ set (cells_at place) j v)
    refl refl refl refl refl refl refl refl i

-- A cell that is read.
cell_read : (place : ℕ → ℕ) (i : ℕ) → i < 8 → get_or (cells_at place) i 0 ≡ place i
cell_read place i small =
    below_8 (λ (j : ℕ). get_or (cells_at place) j 0 ≡ place j) refl refl refl refl refl refl refl refl i small

-- A ring in memory.
abbrev samples_in : ℕ → (ℕ → ℕ) → List ℕ
samples_in ring place = samples_at (place (13 + 2 * ring)) (place (14 + 2 * ring)) (from (24 + 8 * ring) place)

ring_is : (ring : ℕ) (w : List ℕ) → ring < 2 → ring_of ring (engine_in w) ≡ samples_in ring (place_in w)
unfolding engine_in
ring_is zero w small = refl
ring_is (suc zero) w small = refl
ring_is (suc (suc r)) w small = absurd (omega arith)

-- A cell of a ring is written, and then its count.
abbrev Written : (ring : ℕ) (place : ℕ → ℕ) (v count i : ℕ) → Type 0
Written ring place v count i =
    let later : ℕ → ℕ = after place (at (24 + 8 * ring + i) v ∷ at (14 + 2 * ring) count ∷ []) in
    (head_at later ≡ head_at place)
    × (engine_at later
    ≡ with_ring ring (samples_at (place (13 + 2 * ring)) count (λ k. get_or (set (cells_at (from (24 + 8 * ring) place)) i v) k 0)) (engine_at place))

written_there : (ring : ℕ) (place : ℕ → ℕ) (v count i : ℕ) → ring < 2 → i < 8 → Written ring place v count i
unfolding when◌then◌else◌ samples_at
written_there zero place v count i small =
    below_8 (Written 0 place v count) (refl, refl) (refl, refl) (refl, refl) (refl, refl)
    (refl, refl) (refl, refl) (refl, refl) (refl, refl) i
written_there (suc zero) place v count i small =
    below_8 (Written 1 place v count) (refl, refl) (refl, refl) (refl, refl) (refl, refl)
    (refl, refl) (refl, refl) (refl, refl) (refl, refl) i
written_there (suc (suc r)) place v count i small = absurd (omega arith)

-- The position and the count of a ring are written.
abbrev Passed : (ring : ℕ) (place : ℕ → ℕ) (first count : ℕ) → Type 0
Passed ring place first count =
    let later : ℕ → ℕ = after place (at (13 + 2 * ring) first ∷ at (14 + 2 * ring) count ∷ []) in
    (head_at later ≡ head_at place)
    × (engine_at later ≡ with_ring ring (samples_at first count (from (24 + 8 * ring) place)) (engine_at place))

passed_there : (ring : ℕ) (place : ℕ → ℕ) (first count : ℕ) → ring < 2 → Passed ring place first count
unfolding when◌then◌else◌ samples_at
passed_there zero place first count small = (refl, refl)
passed_there (suc zero) place first count small = (refl, refl)
passed_there (suc (suc r)) place first count small = absurd (omega arith)

module _ (ring : ℕ) (w : List ℕ) (n : length w ≡ 40) (small : ring < 2) where
  abbrev p : ℕ → ℕ
  p = place_in w

  abbrev cells : ℕ → ℕ
  cells = from (24 + 8 * ring) p

  pub ring_full : 8 ≤ p (14 + 2 * ring) → is_full (ring_of ring (engine_in w)) ≡ true
  ring_full h = ap is_full (ring_is ring w small) ∙ samples_full (p (13 + 2 * ring)) (p (14 + 2 * ring)) cells h

  pub ring_room : p (14 + 2 * ring) < 8 → is_full (ring_of ring (engine_in w)) ≡ false
  ring_room h = ap is_full (ring_is ring w small) ∙ samples_room (p (13 + 2 * ring)) (p (14 + 2 * ring)) cells h

  pub ring_none : count_in (p (14 + 2 * ring)) ≡ 0 → ring_of ring (engine_in w) ≡ []
  ring_none e = ring_is ring w small ∙ samples_none (p (13 + 2 * ring)) (p (14 + 2 * ring)) cells e

  pub push_moves : (v : ℕ) → p (14 + 2 * ring) < 8 →
      Moves (λ s e. with_ring ring (ring_of ring e ++ (v ∷ [])) e) w
      (set (set w (24 + 8 * ring + (p (13 + 2 * ring) % 8 + p (14 + 2 * ring)) % 8) v) (14 + 2 * ring) (p (14 + 2 * ring) + 1))
  unfolding engine_in
  push_moves v room =
      let i : ℕ = (p (13 + 2 * ring) % 8 + p (14 + 2 * ring)) % 8 in
      let there = written_there ring p v (p (14 + 2 * ring) + 1) i small (omega arith) in
      let pushed = samples_push (p (13 + 2 * ring)) (p (14 + 2 * ring)) v cells (λ k. get_or (set (cells_at cells) i v) k 0) room
      (cells_written cells i v (omega arith)) in
      alike
      (moved w (at (24 + 8 * ring + i) v ∷ at (14 + 2 * ring) (p (14 + 2 * ring) + 1) ∷ []) n
      (omega arith, (omega arith, tt)) {f = λ s. with_ring ring (samples_in ring p ++ (v ∷ []))} there.0 (there.1 ∙ ap (λ (q : List ℕ). with_ring ring q (engine_in w)) pushed))
      (ap (λ (q : List ℕ). with_ring ring (q ++ (v ∷ [])) (engine_in w)) (sym (ring_is ring w small)))

  pub pop_first : (count : ℕ) → count ≡ count_in (p (14 + 2 * ring)) → (count ≡ 0 → ⊥) →
      ring_of ring (engine_in w)
      ≡ p (24 + 8 * ring + p (13 + 2 * ring) % 8) ∷ samples_at ((p (13 + 2 * ring) % 8 + 1) % 8) (count - 1) cells
  pop_first count is some =
      ring_is ring w small
      ∙ rw is (samples_pop (p (13 + 2 * ring)) (p (14 + 2 * ring)) cells (omega arith))
      ∙ ap (λ (v : ℕ). v ∷ samples_at ((p (13 + 2 * ring) % 8 + 1) % 8) (count - 1) cells) (cell_read cells (p (13 + 2 * ring) % 8) (omega arith))

  pub pop_moves : (first count : ℕ) →
      Moves (λ s. with_ring ring (samples_at first count cells)) w (set (set w (13 + 2 * ring) first) (14 + 2 * ring) count)
  unfolding engine_in
  pop_moves first count =
      let there = passed_there ring p first count small in
      moved w (at (13 + 2 * ring) first ∷ at (14 + 2 * ring) count ∷ []) n (omega arith, (omega arith, tt)) there.0 there.1
