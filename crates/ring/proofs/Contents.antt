-- What a ring holds, for any element type, capacity and depth. A ring turns within its depth (RingHolds) and has at least the depth in
-- cells.
--     contents_length   a ring holds as many words as it counts
--     contents_keep     a ring holds nothing but what its cells hold
--     contents_none     a ring that counts none holds nothing
--     push_appends      a push stands last: what a ring holds is one longer at its end
--     pop_takes_first   a pop takes the first: what a ring holds is that cell, then what it holds after the pop
-- That positions stay in range and the count apart is in proofs/Positions.antt.
-- Assumes nothing.
use Rattle.std.specs.Prelude.{◌+◌, ◌-◌, ◌<◌, ◌≤◌, ◌≡◌, ◌∷◌, ◌++◌}
use Rattle.laws.proofs.Common.{ℕ, zero, suc, refl, sym, ap, ap₂, ◌∙◌, List, [], arith}
use Rattle.laws.proofs.Common.{length, get_or, set, get_or-set_same, get_or-set_other}
use native.Mathlib.Numerals.{add-one}
use Rattle.ring.specs.Ring.{next, contents, after, RingHolds}
use Rattle.ring.proofs.Positions.{next_within, after_none, after_apart, pop_apart}

-- A ring holds as many words as it counts.
pub contents_length {ℓ} : {A : Type ℓ} (none : A) (depth : ℕ) (cells : List A) (at count : ℕ) →
    length (contents none depth cells at count) ≡ count
unfolding contents
contents_length none depth cells at zero = refl
contents_length none depth cells at (suc n) = ap suc (contents_length none depth cells (next depth at) n)

-- What every cell has, and the value for none, all that a ring holds has.
pub contents_keep {ℓ} : {A : Type ℓ} (P : A → Type 0) (none : A) (depth : ℕ) (cells : List A) → P none →
    ((i : ℕ) → P (get_or cells i none)) → (at count i : ℕ) → P (get_or (contents none depth cells at count) i none)
unfolding contents
contents_keep P none depth cells h k at zero i = h
contents_keep P none depth cells h k at (suc n) zero = k at
contents_keep P none depth cells h k at (suc n) (suc i) = contents_keep P none depth cells h k (next depth at) n i

-- A write to the cell that lies the count after the first stands last.
set_appends {ℓ} : {A : Type ℓ} (none v : A) (depth : ℕ) (cells : List A) (write read count : ℕ) →
    depth ≤ length cells → read < depth → count < depth → write ≡ after depth read count →
    contents none depth (set cells write v) read (suc count) ≡ contents none depth cells read count ++ (v ∷ [])
unfolding contents
set_appends none v depth cells write read zero h k l e =
    let there : write ≡ read = e ∙ after_none depth read k in
    ap (λ x. x ∷ []) (rw there (get_or-set_same cells read v none (omega arith)))
set_appends none v depth cells write read (suc n) h k l e =
    let fewer : suc n - 1 ≡ n = omega arith in
    ap₂ ◌∷◌
    (get_or-set_other cells write read v none (λ q. after_apart depth read (suc n) k (omega arith) l (sym e ∙ sym q)))
    (set_appends none v depth cells write (next depth read) n h (next_within depth read (omega arith)) (omega arith)
    (e ∙ sym (rw fewer at (pop_apart depth read (suc n) k (omega arith) (omega arith)))))

module _ {ℓ} {A : Type ℓ} (none : A) (depth : ℕ) (cells : List A) (write read count : ℕ)
    (ring : RingHolds depth write read count) where
  -- A push into a ring that is not full stands last among what it holds.
  pub push_appends : (v : A) → depth ≤ length cells → count < depth →
      contents none depth (set cells write v) read (count + 1) ≡ contents none depth cells read count ++ (v ∷ [])
  push_appends v h k = rw add-one (set_appends none v depth cells write read count h ring.within k ring.apart)

  -- A pop from a ring that is not empty takes the first of what it holds.
  pub pop_takes_first : 1 ≤ count →
      contents none depth cells read count ≡ get_or cells read none ∷ contents none depth cells (next depth read) (count - 1)
  unfolding contents
  pop_takes_first k =
      let more : count ≡ suc (count - 1) = omega arith in
      ap (λ (n : ℕ). contents none depth cells read n) more

-- A ring that counts none holds nothing.
pub contents_none {ℓ} : {A : Type ℓ} (none : A) (depth : ℕ) (cells : List A) (at count : ℕ) → count ≡ 0 →
    contents none depth cells at count ≡ []
unfolding contents
contents_none none depth cells at count e = ap (contents none depth cells at) e
