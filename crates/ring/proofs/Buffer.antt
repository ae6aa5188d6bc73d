-- What rings of words keep: they turn within their depth, have all their cells, and words that fit the width.
--     set_keeps                               what all cells have, they have after a store
--     buffer_empty, buffer_push, buffer_pop   empty, after a push, after a pop
--     buffer_first_stays                      a push behind others leaves the first word as it was
-- Assumes nothing.
use Rattle.std.specs.Prelude.{◌+◌, ◌-◌, ◌^◌, ◌<◌, ◌≤◌, ◌∷◌, ◌≡◌}
use Rattle.laws.proofs.Common.{ℕ, zero, suc, List, [], refl, sym, ◌∙◌, one-le-pow, arith}
use Rattle.laws.proofs.Common.{get_or, set, replicate, length-set, length-replicate, get_or-set_other}
use Rattle.ring.specs.Ring.{next, BufferHolds}
use Rattle.ring.proofs.Positions.{ring_empty, ring_push, ring_pop, after_apart}

-- What all cells have and a stored value has, all cells have after the store.
pub set_keeps {ℓ} : {A : Type ℓ} (P : A → Type 0) (cells : List A) (at : ℕ) (v none : A) → P v →
    ((i : ℕ) → P (get_or cells i none)) → (i : ℕ) → P (get_or (set cells at v) i none)
set_keeps P [] at v none h k i = k i
set_keeps P (x ∷ xs) zero v none h k zero = h
set_keeps P (x ∷ xs) zero v none h k (suc i) = k (suc i)
set_keeps P (x ∷ xs) (suc at) v none h k zero = k zero
set_keeps P (x ∷ xs) (suc at) v none h k (suc i) = set_keeps P xs at v none h (λ (j : ℕ). k (suc j)) i

-- Every cell of a list of zeros is zero.
zeros : (n i : ℕ) → get_or {A = ℕ} (replicate n 0) i 0 ≡ 0
zeros zero i = refl
zeros (suc n) zero = refl
zeros (suc n) (suc i) = zeros n i

-- An empty buffer holds, at any depth and width.
pub buffer_empty : (capacity depth width : ℕ) → 1 ≤ depth → BufferHolds capacity depth width (replicate capacity 0) 0 0 0
buffer_empty capacity depth width h =
    record {
      ring = ring_empty depth h;
      cells = length-replicate {A = ℕ} capacity 0;
      fit = λ i. omega (arith, zeros capacity i, one-le-pow width 2 (omega arith));
    }

module _ {capacity depth width : ℕ} {words : List ℕ} {write read count : ℕ}
    (b : BufferHolds capacity depth width words write read count) where
  -- A buffer that is not full holds after a push of a word that fits.
  pub buffer_push : (at v : ℕ) → v < 2 ^ width → count < depth →
      BufferHolds capacity depth width (set words at v) (next depth write) read (count + 1)
  buffer_push at v h k =
      record {
        ring = ring_push depth write read count b.ring k;
        cells = length-set words at v ∙ b.cells;
        fit = set_keeps (λ (x : ℕ). x < 2 ^ width) words at v 0 h b.fit;
      }

  -- A buffer that is not empty holds after a pop.
  pub buffer_pop : 1 ≤ count → BufferHolds capacity depth width words write (next depth read) (count - 1)
  buffer_pop k = record { ring = ring_pop depth write read count b.ring k; cells = b.cells; fit = b.fit }

  -- A push behind others leaves the first word as it was.
  pub buffer_first_stays : (v : ℕ) → 1 ≤ count → count < depth → get_or (set words write v) read 0 ≡ get_or words read 0
  buffer_first_stays v some room =
      get_or-set_other words write read v 0
      (λ q. after_apart depth read count b.ring.within some room (sym b.ring.apart ∙ sym q))
