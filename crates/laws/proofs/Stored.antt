-- Single numbers that are written into memory of any size, and what then stands at a place.
--     after             what stands at a place after some writes
--     Within, in_memory their places lie in memory; if the places are numerals, a test (`within`) tells it
--     reads_after       what is read there
-- Assumes nothing.
use Prim.Native.Nat.{ℕ, ◌<◌}
use mathlib.Core.Bool.{Bool, true, ◌&&◌}
use mathlib.Core.List.{List, [], ◌∷◌}
use mathlib.Core.Path.{◌≡◌, refl, ◌∙◌, ap}
use native.Mathlib.Omega.{arith}
use borrow.Author.Tests.{ltb-true, eqb-true, eqb-false}
use lib.Dec.{eqb, ltb}
use lib.ListN.{length, set, get_or, length-set}
use lib.Seq.{get_or-set_same, get_or-set_other}
use Rattle.laws.specs.Choice.{when◌then◌else◌}
use Rattle.laws.specs.Writes.{Write, writes}
use Rattle.laws.proofs.Keeps.{if_keeps, and_left, and_right}

abbrev pub after : (ℕ → ℕ) → List Write → ℕ → ℕ
after place [] = place
after place (x ∷ xs) = after (λ k. when eqb k x.place then x.number else place k) xs

abbrev pub Within : ℕ → List Write → Type 0
Within size [] = Unit {0}
Within size (x ∷ xs) = (x.place < size) × Within size xs

abbrev pub within : ℕ → List Write → Bool
within size [] = true
within size (x ∷ xs) = ltb x.place size && within size xs

pub in_memory : (size : ℕ) (xs : List Write) → within size xs ≡ true → Within size xs
in_memory size [] e = tt
in_memory size (x ∷ xs) e =
    (ltb-true x.place size (and_left (ltb x.place size) _ e), in_memory size xs (and_right (ltb x.place size) _ e))

one_write : (w : List ℕ) (i v k : ℕ) → i < length w → get_or (set w i v) k 0 ≡ (when eqb k i then v else get_or w k 0)
one_write w i v k h =
    if_keeps (λ (x : ℕ). get_or (set w i v) k 0 ≡ x) (eqb k i) _ _
    (λ e. ap (λ (j : ℕ). get_or (set w i v) j 0) (eqb-true k i e) ∙ get_or-set_same w i v 0 h)
    (λ e. get_or-set_other w i k v 0 (eqb-false k i e))

after_same : (f g : ℕ → ℕ) (xs : List Write) → ((k : ℕ) → f k ≡ g k) → (k : ℕ) → after f xs k ≡ after g xs k
after_same f g [] h k = h k
after_same f g (x ∷ xs) h k =
    after_same (λ j. when eqb j x.place then x.number else f j) (λ j. when eqb j x.place then x.number else g j) xs
    (λ j. ap (λ (n : ℕ). when eqb j x.place then x.number else n) (h j)) k

pub reads_after : (size : ℕ) (w : List ℕ) (xs : List Write) → length w ≡ size → Within size xs → (k : ℕ) →
    get_or (writes w xs) k 0 ≡ after (λ j. get_or w j 0) xs k
reads_after size w [] n e k = refl
reads_after size w (x ∷ xs) n e k =
    reads_after size (set w x.place x.number) xs (length-set w x.place x.number ∙ n) e.1 k
    ∙ after_same _ _ xs (λ j. one_write w x.place x.number j (omega (arith, e.0))) k
