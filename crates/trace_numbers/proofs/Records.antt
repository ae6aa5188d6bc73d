-- Records by their places: those of a section lie one behind the other from its start on.
--     entries_more, entries_none   the first of some records, and the rest; no record
--     section_at, section_places   where the records of a section lie
-- Assumes nothing.
use Rattle.std.specs.Prelude.{◌+◌, ◌*◌, ◌-◌, ◌/◌, ◌%◌, ◌<◌, ◌≤◌, ◌∷◌, ◌≡◌}
use Rattle.laws.proofs.Common.{ℕ, zero, suc, true, List, [], refl, sym, ap, ap₂}
use Rattle.laws.proofs.Common.{◌∙◌, arith, ltb-true, ltb-false, ltb, length, take, drop, by_test}
use Rattle.trace_rules.specs.declared.Entry.{Entry}
use Rattle.trace_rules.specs.Trace.{section_count, start_of, size_of, place_of, contents_right, body_of, entries_in, entries_of}
use Rattle.trace_rules.specs.TraceDemands.{records_from}
use Rattle.trace_page.proofs.TraceContents.{contents_laid, place_below, section_inside}
use Rattle.trace_page.proofs.TracePlaces.{record_spelled, records_from_lem}
use Rattle.trace_numbers.specs.Places.{entry_at, entries_at}

pub entries_more : (f : List ℕ) (n at : ℕ) → 0 < n → entries_at f n at ≡ entry_at f at ∷ entries_at f (n - 1) (at + 4)
unfolding entries_at
entries_more f zero at h = absurd (omega arith)
entries_more f (suc n) at h = ap (λ (i : ℕ). entry_at f at ∷ entries_at f i (at + 4)) (let same : n ≡ suc n - 1 = omega arith in same)

pub entries_none : (f : List ℕ) (n at : ℕ) → n ≤ 0 → entries_at f n at ≡ []
unfolding entries_at
entries_none f n at h = ap (λ (i : ℕ). entries_at f i at) (let same : n ≡ 0 = omega arith in same)

-- Bytes of whole records are the records at their places.
entries_from : (f : List ℕ) (n at : ℕ) → records_from f n at ≡ entries_at f n at
unfolding entries_at entry_at
entries_from f zero at = refl
entries_from f (suc n) at = ap₂ (λ (e : Entry) (l : List Entry). e ∷ l) (sym (record_spelled f at)) (entries_from f n (at + 4))

pub records_at : (f : List ℕ) (n at : ℕ) → at + 4 * n ≤ length f → entries_in (take (4 * n) (drop at f)) ≡ entries_at f n at
records_at f n at h = records_from_lem f n at h ∙ entries_from f n at

-- Where so many records of a section lie.
pub record SectionAt (f : List ℕ) (k at n : ℕ) : Type 0 where
  pub are : entries_of f k ≡ entries_at f n at
  pub inside : at + 4 * n ≤ length f
  pub short : at + 4 * n ≤ 65535

-- Where a section starts and ends, counted by the bytes of those before it.
pub record SectionPlaces (f : List ℕ) (k at n : ℕ) : Type 0 where
  pub first : at ≡ place_of f k
  pub behind : at + 4 * n ≡ place_of f (k + 1)
  pub aligned : (length f - at) % 4 ≡ 0
  pub inside : at + 4 * n ≤ length f
  pub short : length f ≤ 65535

module _ (f : List ℕ) (right : contents_right f ≡ true) (k : ℕ) (h : k < section_count f) where
  -- It lies in a short file, and has whole records.
  inside : (start_of f k + size_of f k ≤ length f) × (length f ≤ 65535) × (size_of f k % 4 ≡ 0)
  inside = let w = contents_laid f right in (section_inside f w k h, w.size, w.records k h)

  pub section_at : SectionAt f k (start_of f k % 65536) (size_of f k / 4 % 65536)
  unfolding entries_of body_of
  section_at =
      let start : start_of f k ≡ start_of f k % 65536 = omega (arith, inside.0, inside.1) in
      let count : size_of f k ≡ 4 * (size_of f k / 4 % 65536) = omega (arith, inside.0, inside.1, inside.2) in
      record {
        are =
            ap₂ (λ (i j : ℕ). entries_in (take i (drop j f))) count start
            ∙ records_at f (size_of f k / 4 % 65536) (start_of f k % 65536) (omega (arith, inside.0));
        inside = omega (arith, inside.0);
        short = omega (arith, inside.0, inside.1);
      }

  -- There are at most 64 sections.
  pub section_below : k < 256
  section_below = omega (arith, (contents_laid f right).most)

  -- The bytes of sections of whole records.
  below-aligned : (n : ℕ) → k ≤ n → n ≤ section_count f → (place_of f n - place_of f k) % 4 ≡ 0
  below-aligned zero low high = omega (arith, ap (place_of f) (let same : k ≡ 0 = omega arith in same))
  below-aligned (suc n) low high =
      by_test (ltb n k)
      (λ last. omega (arith, ap (place_of f) (let same : k ≡ suc n = omega (arith, ltb-true n k last) in same)))
      (λ below.
      let from : k ≤ n = ltb-false n k below in
      omega (arith, below-aligned n from (omega arith), place_below f n k from, (contents_laid f right).records n (omega arith)))

  pub section_places : SectionPlaces f k (start_of f k % 65536) (size_of f k / 4 % 65536)
  section_places =
      let w = contents_laid f right in
      let next : place_of f (k + 1) ≡ place_of f k + size_of f k = ap (place_of f) (let same : k + 1 ≡ suc k = omega arith in same) in
      record {
        first = omega (arith, inside.0, inside.1, w.starts k h);
        behind = omega (arith, inside.0, inside.1, inside.2, w.starts k h);
        aligned =
            omega (
              arith,
              inside.0,
              inside.1,
              w.starts k h,
              w.ends,
              below-aligned (section_count f) (omega arith) (omega arith),
              place_below f (section_count f) k (omega arith),
            );
        inside = omega (arith, inside.0, inside.1, inside.2);
        short = inside.1;
      }
