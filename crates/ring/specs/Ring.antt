-- A ring is a list of cells, the capacity many, of which the first `depth` are used in turn: a word is stored at the write position and
-- taken at the read position.
use Rattle.std.specs.Prelude.{ℕ, zero, suc, ◌+◌, ◌-◌, ◌^◌, ◌<◌, ◌≤◌, List, [], ◌∷◌, ◌≡◌, ltb, length, get_or}
use Rattle.laws.specs.Choice.{when◌then◌else◌}

-- A position moves on by one, and from the last used cell back to the first.
unfoldable pub next : ℕ → ℕ → ℕ
next depth at = when ltb (at + 1) depth then at + 1 else 0

-- The words that a ring holds: `count` of them from the position `at` on, oldest first.
unfoldable pub contents {ℓ} : {A : Type ℓ} → A → ℕ → List A → ℕ → ℕ → List A
contents none depth cells at zero = []
contents none depth cells at (suc n) = get_or cells at none ∷ contents none depth cells (next depth at) n

-- The position that lies `count` after `at`, for a count up to the depth.
unfoldable pub after : ℕ → ℕ → ℕ → ℕ
after depth at count = when ltb (at + count) depth then at + count else at + count - depth

-- A ring turns within its depth: both positions and the count are in range, and the two positions lie the count apart.
pub record RingHolds (depth write read count : ℕ) : Type 0 where
  pub within : read < depth
  pub fits : count ≤ depth
  pub apart : write ≡ after depth read count

-- Every cell holds a word of width w.
abbrev pub CellsHold : ℕ → List ℕ → Type 0
CellsHold w cells = (i : ℕ) → get_or cells i 0 < 2 ^ w

-- A ring of words in so many cells.
pub record BufferHolds (capacity depth width : ℕ) (words : List ℕ) (write read count : ℕ) : Type 0 where
  pub ring : RingHolds depth write read count
  pub cells : length words ≡ capacity
  pub fit : CellsHold width words
