-- The page decides the new file.
--     new_salvage   the file that the rules make meets it
--     one_new       and no other file of bytes does
-- Assumes nothing.
use Rattle.std.specs.Prelude.{◌+◌, ◌*◌, ◌/◌, ◌%◌, ◌<◌, ◌≤◌, ◌≡◌}
use Rattle.laws.proofs.Common.{ℕ, zero, suc, true, false, List, sym, ap, ap₂, ◌∙◌, arith}
use Rattle.laws.proofs.Common.{ltb-true, ltb-false, ltb, length, take, drop, get_or, length-take, length-drop, take-take}
use Rattle.laws.proofs.Common.{by_test, clash}
use Rattle.trace_rules.specs.Trace.{section_count, start_of, size_of, body_of, entries_in, entries_of, section_level, right_record}
use Rattle.trace_rules.specs.TraceBytes.{file, sections_from, Bytes}
use Rattle.trace_rules.specs.TraceDemands.{sections, start, size, fields, record_at, section, Right, AllRight}
use Rattle.trace_page.proofs.TraceContents.{Laid}
use Rattle.trace_page.proofs.TracePlaces.{count_spelled, start_spelled, size_spelled, laid_whole, whole_laid, section_is}
use Rattle.trace_page.proofs.TraceLevels.{level_same}
use Rattle.trace_page.proofs.TraceRight.{in_right}
use Rattle.trace_page.proofs.TraceOrder.{levels_hold, one_level_lem}
use Rattle.trace_page.proofs.TraceDemandsHold.{right_all}
use Rattle.trace_bytes.proofs.TraceRecords.{entry_at_lem, records_many, record_same}
use Rattle.trace_bytes.proofs.TraceFiles.{sections_same, body_length, file_back}
use Rattle.trace_salvage_rules.specs.Salvage.{salvageable, beginning, among, kept_of, salvaged_file}
use Rattle.trace_salvage_rules.specs.SalvageDemands.{part, Keeps, Salvage}
use Rattle.trace_salvage_rules.proofs.SalvageKeeps.{beginning_next}
use Rattle.trace_salvage_rules.proofs.SalvageFile.{kept_is, new_count, new_size, new_body, new_inside, new_level, new_right, new_laid, new_bytes}

-- A section's bytes, as the page reads them.
part_is : (f : List ℕ) (k : ℕ) → body_of f k ≡ part f (start f k) (size f k)
unfolding body_of
part_is f k = ap₂ (λ (n at : ℕ). take n (drop at f)) (size_spelled f k) (start_spelled f k)

-- The file that the rules make.
module _ (f : List ℕ) (ok : salvageable f ≡ true) where
  -- The page's levels.
  level_is : (right : AllRight (salvaged_file f)) (k : ℕ) → k < section_count f → right.level k ≡ section_level (among (kept_of f)) k
  level_is right k h =
      one_level_lem (section (salvaged_file f)) right.level (section_level (section (salvaged_file f))) right.levels (levels_hold (section (salvaged_file f))) k
      ∙ sym (level_same (entries_of (salvaged_file f)) (section (salvaged_file f)) k
      (λ j i. section_is (salvaged_file f) (new_laid f ok) j (omega (arith, new_count f))))
      ∙ new_level f k h

  -- The record behind what a section keeps is wrong.
  next-wrong : (k : ℕ) → k < section_count f → size_of (salvaged_file f) k + 4 ≤ size_of f k →
      start_of f k + (size_of (salvaged_file f) k + 4) ≤ length f →
      right_record (section_count f) (section_level (among (kept_of f)) k) k (record_at f (start_of f k + size_of (salvaged_file f) k)) ≡ false
  next-wrong k h section-room file-room =
      let n : ℕ = length (among (kept_of f) k) in
      let size_is : size_of (salvaged_file f) k ≡ 4 * n = new_size f k h in
      let a : 4 * (n + 1) ≤ size_of f k = omega arith in
      let b : start_of f k + 4 * (n + 1) ≤ length f = omega arith in
      let same : n ≡ length (beginning (section_count f) (section_level (among (kept_of f)) k) k (entries_of f k)) = ap length (kept_is f k h) in
      ap (right_record (section_count f) (section_level (among (kept_of f)) k) k)
      (ap (λ (i : ℕ). record_at f (start_of f k + i)) size_is
      ∙ sym (entry_at_lem f k (n + 1) a b n (fields 0 0 0) (omega arith))
      ∙ ap (λ (i : ℕ). get_or (entries_of f k) i (fields 0 0 0)) same)
      ∙ beginning_next (section_count f) (section_level (among (kept_of f)) k) k (entries_of f k) (fields 0 0 0)
      (omega (arith, same, records_many f k (n + 1) a b))

  keeps : (right : AllRight (salvaged_file f)) (k : ℕ) → k < section_count f → Keeps f (salvaged_file f) right.level k
  unfolding body_of
  keeps right k h =
      record {
        inside = omega (arith, new_inside f k h, size_spelled f k, size_spelled (salvaged_file f) k);
        bytes =
            let few = new_size f k h in
            let within : 4 * length (among (kept_of f) k) ≤ size_of f k = omega (arith, new_inside f k h) in
            cc (
              part_is (salvaged_file f) k,
              new_body f k h,
              size_spelled (salvaged_file f) k,
              start_spelled f k,
              take-take (4 * length (among (kept_of f) k)) (size_of f k) (drop (start_of f k) f) within,
            );
        next = λ a b is.
            clash
            (right_record (section_count f) (section_level (among (kept_of f)) k) k (record_at f (start_of f k + size_of (salvaged_file f) k)))
            (cc (
              in_right (sections f) (right.level k) k (record_at f (start f k + size (salvaged_file f) k)) is,
              count_spelled f,
              level_is right k h,
              start_spelled f k,
              size_spelled (salvaged_file f) k,
            ))
            (next-wrong k h
            (omega (arith, size_spelled f k, size_spelled (salvaged_file f) k))
            (omega (arith, start_spelled f k, size_spelled (salvaged_file f) k)));
      }

  pub new_salvage : Salvage f (salvaged_file f)
  new_salvage =
      record {
        whole = laid_whole (salvaged_file f) (new_laid f ok);
        right = right_all (salvaged_file f) (new_laid f ok) (new_right f);
        same = sym (count_spelled (salvaged_file f)) ∙ new_count f ∙ count_spelled f;
        keeps = λ k h. keeps (right_all (salvaged_file f) (new_laid f ok) (new_right f)) k (omega (arith, count_spelled f));
        bytes = new_bytes f ok;
      }

-- Two new files have the same sections.
module _ (f a b : List ℕ) (p : Salvage f a) (q : Salvage f b) where
  -- What the longer one keeps behind the shorter would be a right record.
  no_longer : (k : ℕ) → k < sections f → p.right.level k ≡ q.right.level k → size b k ≤ size a k
  no_longer k h level =
      by_test (ltb (size a k) (size b k))
      (λ less.
      let more : size a k < size b k = ltb-true (size a k) (size b k) less in
      let x : Keeps f a p.right.level k = p.keeps k h in
      let y : Keeps f b q.right.level k = q.keeps k h in
      let lb : Laid b = whole_laid b q.whole in
      let fours-a : size a k % 4 ≡ 0 = p.whole.fours k (omega (arith, p.same)) in
      let fours-b : size b k % 4 ≡ 0 = q.whole.fours k (omega (arith, q.same)) in
      let full : length (part f (start f k) (size b k)) ≡ size b k =
      ap length (sym y.bytes ∙ sym (part_is b k)) ∙ body_length b lb k (omega (arith, q.same, count_spelled b)) ∙ size_spelled b k in
      let room : start f k + size b k ≤ length f =
      omega (arith, full, length-take (size b k) (drop (start f k) f), length-drop (start f k) f) in
      let at : 4 * (size a k / 4) ≡ size a k = omega arith in
      let there : record_at b (start b k + 4 * (size a k / 4)) ≡ record_at f (start f k + size a k) =
      record_same b f (start b k) (start f k) (size b k) y.bytes (4 * (size a k / 4)) (omega arith)
      ∙ ap (λ (i : ℕ). record_at f (start f k + i)) at in
      let is : Right (sections b) (q.right.level k) k (record_at b (start b k + 4 * (size a k / 4))) =
      q.right.each k (size a k / 4) (omega (arith, q.same)) (omega arith) in
      absurd
      (x.next (omega (arith, y.inside)) (omega arith)
      (rw (there, q.same, ← level) at is)))
      (λ least. ltb-false (size a k) (size b k) least)

-- Levels go by the sections before.
same_levels_lem : (a b : List ℕ) (p : AllRight a) (q : AllRight b) (k : ℕ) → ((j : ℕ) → j < k → section a j ≡ section b j) →
    p.level k ≡ q.level k
same_levels_lem a b p q k same =
    one_level_lem (section a) p.level (section_level (section a)) p.levels (levels_hold (section a)) k
    ∙ level_same (section a) (section b) k same
    ∙ one_level_lem (section b) (section_level (section b)) q.level (levels_hold (section b)) q.levels k

module _ (f a b : List ℕ) (p : Salvage f a) (q : Salvage f b) where
  la : Laid a
  la = whole_laid a p.whole

  lb : Laid b
  lb = whole_laid b q.whole

  same-bodies : (n k : ℕ) → n ≤ sections f → k < n → body_of a k ≡ body_of b k
  unfolding entries_of
  same-bodies zero k most h = absurd (omega arith)
  same-bodies (suc n) k most h =
      let level : p.right.level k ≡ q.right.level k =
      same_levels_lem a b p.right q.right k
      (λ j i.
      sym (section_is a la j (omega (arith, p.same, count_spelled a)))
      ∙ ap entries_in (same-bodies n j (omega arith) (omega arith))
      ∙ section_is b lb j (omega (arith, q.same, count_spelled b))) in
      let one : size a k ≡ size b k =
      omega (
        arith,
        no_longer f a b p q k (omega arith) level,
        no_longer f b a q p k (omega arith) (sym level),
      ) in
      cc (part_is a k, (p.keeps k (omega arith)).bytes, one, (q.keeps k (omega arith)).bytes, part_is b k)

  pub one_new : Bytes f → a ≡ b
  one_new small =
      let count : section_count a ≡ section_count b = count_spelled a ∙ p.same ∙ sym q.same ∙ sym (count_spelled b) in
      file_back a (p.bytes small) la
      ∙ ap file
      (ap (λ (n : ℕ). sections_from (body_of a) n 0) count
      ∙ sections_same (body_of a) (body_of b) (section_count b) 0
      (λ k h. same-bodies (sections f) k (omega arith) (omega (arith, q.same, count_spelled b))))
      ∙ sym (file_back b (q.bytes small) lb)
