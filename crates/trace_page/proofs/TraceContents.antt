-- Right contents, by where the sections must start.
--     table_placed, placed_table   a right table of contents, by where the sections start
--     contents_laid   in right contents each section starts where it must, of whole records, and the last ends the file
--     laid_contents   and the other way round
--     section_inside  such a section lies in the file
-- Assumes nothing.
use Rattle.std.specs.Prelude.{◌+◌, ◌%◌, ◌<◌, ◌≤◌, ◌≡◌}
use Rattle.laws.proofs.Common.{ℕ, zero, suc, true, List, ap, arith, leb-true, le-leb, ltb-true}
use Rattle.laws.proofs.Common.{ltb-false, eqb-true, eq-eqb, eqb, leb, ltb, length, by_test, and_left, and_right, and_both}
use Rattle.trace_rules.specs.Trace.{section_count, table_end, start_of, size_of, place_of, in_fours, table_right, contents_right}
use Rattle.trace_page.proofs.TraceBelow.{each_below, below_each}

-- What a right table of contents says.
pub record Placed (f : List ℕ) : Type 0 where
  pub size : length f ≤ 65535
  pub some : 1 ≤ section_count f
  pub most : section_count f ≤ 64
  pub table : table_end f ≤ length f
  pub starts : (k : ℕ) → k < section_count f → start_of f k ≡ place_of f k

pub record Laid (f : List ℕ) : Type 0 where
  pub some : 1 ≤ section_count f
  pub most : section_count f ≤ 64
  pub starts : (k : ℕ) → k < section_count f → start_of f k ≡ place_of f k
  pub records : (k : ℕ) → k < section_count f → size_of f k % 4 ≡ 0
  pub ends : place_of f (section_count f) ≡ length f
  pub size : length f ≤ 65535

module _ (f : List ℕ) where
  -- A section must start where a later one must, or before.
  pub place_below : (n k : ℕ) → k ≤ n → place_of f k ≤ place_of f n
  place_below zero k h = omega (arith, ap (place_of f) (let same : k ≡ 0 = omega arith in same))
  place_below (suc n) k h =
      by_test (ltb n k)
      (λ last. omega (arith, ap (place_of f) (let same : k ≡ suc n = omega (arith, ltb-true n k last) in same)))
      (λ below. omega (arith, place_below n k (ltb-false n k below)))

  pub table_placed : table_right f ≡ true → Placed f
  unfolding table_right
  table_placed right =
      let a = and_right (leb (length f) 65535) _ right in
      let b = and_right (leb 1 (section_count f)) _ a in
      let c = and_right (leb (section_count f) 64) _ b in
      record {
        size = leb-true (length f) 65535 (and_left (leb (length f) 65535) _ right);
        some = leb-true 1 (section_count f) (and_left (leb 1 (section_count f)) _ a);
        most = leb-true (section_count f) 64 (and_left (leb (section_count f) 64) _ b);
        table = leb-true (table_end f) (length f) (and_left (leb (table_end f) (length f)) _ c);
        starts = λ k h.
            eqb-true (start_of f k) (place_of f k)
            (each_below (λ j. eqb (start_of f j) (place_of f j)) (section_count f) (and_right (leb (table_end f) (length f)) _ c) k h);
      }

  pub placed_table : Placed f → table_right f ≡ true
  unfolding table_right
  placed_table t =
      and_both (leb (length f) 65535) _ (le-leb (length f) 65535 t.size)
      (and_both (leb 1 (section_count f)) _ (le-leb 1 (section_count f) t.some)
      (and_both (leb (section_count f) 64) _ (le-leb (section_count f) 64 t.most)
      (and_both (leb (table_end f) (length f)) _ (le-leb (table_end f) (length f) t.table)
      (below_each (λ j. eqb (start_of f j) (place_of f j)) (section_count f) (λ k h. eq-eqb (start_of f k) (place_of f k) (t.starts k h))))))

  pub contents_laid : contents_right f ≡ true → Laid f
  unfolding contents_right
  contents_laid right =
      let t = table_placed (and_left (table_right f) _ right) in
      let rest = and_right (table_right f) _ right in
      record {
        some = t.some;
        most = t.most;
        starts = t.starts;
        records = λ k h.
            eqb-true (size_of f k % 4) 0
            (each_below (λ j. eqb (size_of f j % 4) 0) (section_count f) (and_left (in_fours f (section_count f)) _ rest) k h);
        ends = eqb-true (place_of f (section_count f)) (length f) (and_right (in_fours f (section_count f)) _ rest);
        size = t.size;
      }

  pub laid_placed : Laid f → Placed f
  laid_placed l =
      let inside : table_end f ≤ length f = omega (arith, l.ends, place_below (section_count f) 0 (omega arith)) in
      record { size = l.size; some = l.some; most = l.most; table = inside; starts = l.starts }

  pub laid_contents : Laid f → contents_right f ≡ true
  unfolding contents_right
  laid_contents l =
      and_both (table_right f) _ (placed_table (laid_placed l))
      (and_both (in_fours f (section_count f)) _
      (below_each (λ j. eqb (size_of f j % 4) 0) (section_count f) (λ k h. eq-eqb (size_of f k % 4) 0 (l.records k h)))
      (eq-eqb (place_of f (section_count f)) (length f) l.ends))

  pub section_inside : Laid f → (k : ℕ) → k < section_count f → start_of f k + size_of f k ≤ length f
  section_inside l k h = omega (arith, l.starts k h, l.ends, place_below (section_count f) (suc k) (omega arith))
