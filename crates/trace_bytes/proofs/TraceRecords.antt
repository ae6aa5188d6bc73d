-- The records of a section's bytes.
--     entries_length   one for each four bytes
--     entries_take     those of a beginning
--     entries_all      of whole records, all bytes
--     entry_at_lem         each by its place, as far as it lies in the section and in the file
--     records_many     and how many there are
--     record_same      equal bytes have equal records
-- Assumes nothing.
use Rattle.std.specs.Prelude.{◌+◌, ◌*◌, ◌/◌, ◌%◌, ◌<◌, ◌≤◌, ◌∷◌, ◌≡◌}
use Rattle.laws.proofs.Common.{ℕ, zero, suc, List, [], refl, sym, ap, ◌∙◌, arith}
use Rattle.laws.proofs.Common.{length, take, drop, get_or, length-take, length-drop, take_all, take-take, get_or-drop, get_or-take}
use lib.Seq.{take-nil}
use Rattle.trace_rules.specs.declared.Entry.{Entry}
use Rattle.trace_rules.specs.Trace.{byte_at, half_at, start_of, size_of, body_of, entries_in, entries_of}
use Rattle.trace_rules.specs.TraceDemands.{record_at, records_from}
use Rattle.trace_page.proofs.TracePlaces.{record_spelled, records_from_lem}

pub entries_length : (b : List ℕ) → length (entries_in b) ≡ length b / 4
unfolding entries_in
entries_length [] = refl
entries_length (a ∷ []) = refl
entries_length (a ∷ (b ∷ [])) = refl
entries_length (a ∷ (b ∷ (c ∷ []))) = refl
entries_length (a ∷ (b ∷ (c ∷ (d ∷ rest)))) = omega (arith, entries_length rest)

four_more : (n : ℕ) → 4 * suc n ≡ suc (suc (suc (suc (4 * n))))
four_more n = omega arith

pub entries_take : (n : ℕ) (b : List ℕ) → entries_in (take (4 * n) b) ≡ take n (entries_in b)
unfolding entries_in
entries_take zero b = refl
entries_take (suc n) [] = ap entries_in (take-nil (4 * suc n))
entries_take (suc n) (a ∷ []) = ap (λ (i : ℕ). entries_in (take i (a ∷ []))) (four_more n)
entries_take (suc n) (a ∷ (b ∷ [])) = ap (λ (i : ℕ). entries_in (take i (a ∷ (b ∷ [])))) (four_more n)
entries_take (suc n) (a ∷ (b ∷ (c ∷ []))) = ap (λ (i : ℕ). entries_in (take i (a ∷ (b ∷ (c ∷ []))))) (four_more n)
entries_take (suc n) (a ∷ (b ∷ (c ∷ (d ∷ rest)))) =
    ap (λ (i : ℕ). entries_in (take i (a ∷ (b ∷ (c ∷ (d ∷ rest)))))) (four_more n)
    ∙ (let first : Entry = record { kind = a; argument = b; value = c + 256 * d } in
    ap (λ (es : List Entry). first ∷ es) (entries_take n rest))

pub entries_all : (b : List ℕ) → length b % 4 ≡ 0 → take (4 * length (entries_in b)) b ≡ b
entries_all b whole = take_all (4 * length (entries_in b)) b (omega (arith, entries_length b))

-- Records by their places.
from_at : (f : List ℕ) (n at i : ℕ) (d : Entry) → i < n → get_or (records_from f n at) i d ≡ record_at f (at + 4 * i)
from_at f zero at i d h = absurd (omega arith)
from_at f (suc n) at zero d h = ap (record_at f) (let same : at ≡ at + 4 * 0 = omega arith in same)
from_at f (suc n) at (suc i) d h =
    from_at f n (at + 4) i d (omega arith) ∙ ap (record_at f) (let same : (at + 4) + 4 * i ≡ at + 4 * suc i = omega arith in same)

module _ (f : List ℕ) (k n : ℕ) (section : 4 * n ≤ size_of f k) (file : start_of f k + 4 * n ≤ length f) where
  records_take : take n (entries_of f k) ≡ records_from f n (start_of f k)
  unfolding entries_of body_of
  records_take =
      sym (entries_take n (body_of f k))
      ∙ ap entries_in (take-take (4 * n) (size_of f k) (drop (start_of f k) f) section)
      ∙ records_from_lem f n (start_of f k) file

  pub records_many : n ≤ length (entries_of f k)
  unfolding entries_of body_of
  records_many =
      omega (
        arith,
        entries_length (body_of f k),
        length-take (size_of f k) (drop (start_of f k) f),
        length-drop (start_of f k) f,
      )

  pub entry_at_lem : (i : ℕ) (d : Entry) → i < n → get_or (entries_of f k) i d ≡ record_at f (start_of f k + 4 * i)
  entry_at_lem i d h =
      cc (get_or-take n (entries_of f k) i d h, records_take, from_at f n (start_of f k) i d h)

-- Records of equal bytes.
module _ (a b : List ℕ) (p q n : ℕ) (same : take n (drop p a) ≡ take n (drop q b)) where
  byte_same : (i j l : ℕ) → i < n → p + i ≡ j → q + i ≡ l → byte_at a j ≡ byte_at b l
  unfolding byte_at
  byte_same i j l h x y =
      cc (get_or-drop p a i 0, get_or-take n (drop p a) i 0 h, get_or-take n (drop q b) i 0 h, get_or-drop q b i 0)

  pub record_same : (i : ℕ) → i + 4 ≤ n → record_at a (p + i) ≡ record_at b (q + i)
  unfolding half_at
  record_same i h =
      sym (record_spelled a (p + i))
      ∙ cc (
        byte_same i (p + i) (q + i) (omega arith) refl refl,
        byte_same (i + 1) (p + i + 1) (q + i + 1) (omega arith) (omega arith) (omega arith),
        byte_same (i + 2) (p + i + 2) (q + i + 2) (omega arith) (omega arith) (omega arith),
        byte_same (i + 3) (p + i + 2 + 1) (q + i + 2 + 1) (omega arith) (omega arith) (omega arith),
      )
      ∙ record_spelled b (q + i)
