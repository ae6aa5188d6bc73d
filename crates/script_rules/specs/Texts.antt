-- Texts in a buffer that a caller lends.
use Rattle.std.specs.Prelude.{ℕ, ◌+◌, List, [], ◌∷◌, ◌≡◌, length, set}

-- Bytes put into a buffer from a place on; the rest of the buffer keeps its bytes.
unfoldable pub put : List ℕ → ℕ → List ℕ → List ℕ
put buffer place [] = buffer
put buffer place (b ∷ bs) = put (set buffer place b) (place + 1) bs

-- The text stands in the buffer from a place on, and the next place is behind it.
pub record Written (text before : List ℕ) (place : ℕ) (after : List ℕ) (next : ℕ) : Type 0 where
  pub buffer : after ≡ put before place text
  pub behind : next ≡ place + length text
