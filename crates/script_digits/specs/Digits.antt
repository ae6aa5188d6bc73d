-- The digits of a number, and a text that is put into a buffer whole or not at all.
use Rattle.std.specs.Prelude.{ℕ, zero, suc, ◌+◌, ◌/◌, ◌%◌, ◌≤◌, ◌<◌, List, [], ◌∷◌, ◌++◌, ◌≡◌, length}
use Rattle.script_rules.specs.Script.{hex_of}
use Rattle.script_rules.specs.Texts.{Written}

-- So many digits of a number in a base up to 16: those of its quotient, and its last digit.
unfoldable pub digits_of : ℕ → ℕ → ℕ → List ℕ
digits_of base zero n = []
digits_of base (suc places) n = digits_of base places (n / base) ++ (hex_of (n % base) ∷ [])

-- With room, the text stands in the buffer from a place on, and the next place is behind it; without, the buffer and the place
-- are as they were.
pub record PutWhole (text before : List ℕ) (place : ℕ) (after : List ℕ) (next : ℕ) : Type 0 where
  pub fits : place + length text ≤ length before → Written text before place after next
  pub fails : length before < place + length text → (after ≡ before) × (next ≡ place)
