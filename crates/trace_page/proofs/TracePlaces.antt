-- The page's numbers and places are those that the rules read.
--     count_spelled, start_spelled, size_spelled   the numbers of the table of contents
--     end_is, places                               where a section must start is where the one before it ends
--     whole_laid, laid_whole                       right contents, by where one section ends and the next starts
--     records_from_lem                                 bytes are the records at their places
--     section_is                                   a section's records
-- Assumes nothing.
use Rattle.std.specs.Prelude.{◌+◌, ◌*◌, ◌/◌, ◌%◌, ◌<◌, ◌≤◌, ◌∷◌, ◌≡◌}
use Rattle.laws.proofs.Common.{ℕ, zero, suc, List, [], refl, sym, ap, ap₂, ◌∙◌, arith}
use Rattle.laws.proofs.Common.{length, take, drop, get_or, get_or-drop, drop-cons}
use Rattle.trace_rules.specs.Trace.{byte_at, half_at, word_at, section_count, table_end, start_of, size_of, place_of, body_of, entries_in, entries_of}
use Rattle.trace_rules.specs.TraceDemands.{spell, number_at, sections, start, size, fields, record_at, records_from, section, end_before, Whole}
use Rattle.trace_page.proofs.TraceContents.{Laid, section_inside}

-- Numbers of one, two and four bytes.
spell_one : (l : List ℕ) → spell (take 1 l) ≡ get_or l 0 0
spell_one [] = refl
spell_one (a ∷ l) = omega arith

spell_two : (l : List ℕ) → spell (take 2 l) ≡ get_or l 0 0 + 256 * get_or l 1 0
spell_two [] = refl
spell_two (a ∷ []) = omega arith
spell_two (a ∷ (b ∷ l)) = omega arith

spell_four : (l : List ℕ) → spell (take 4 l) ≡ (get_or l 0 0 + 256 * get_or l 1 0) + 65536 * (get_or l 2 0 + 256 * get_or l 3 0)
spell_four [] = refl
spell_four (a ∷ []) = omega arith
spell_four (a ∷ (b ∷ [])) = omega arith
spell_four (a ∷ (b ∷ (c ∷ []))) = omega arith
spell_four (a ∷ (b ∷ (c ∷ (d ∷ l)))) = omega arith

module _ (f : List ℕ) where
  -- A byte behind a place.
  byte_behind : (at i j : ℕ) → at + i ≡ j → get_or (drop at f) i 0 ≡ get_or f j 0
  byte_behind at i j e = get_or-drop at f i 0 ∙ ap (λ (k : ℕ). get_or f k 0) e

  pub byte_spelled : (at : ℕ) → byte_at f at ≡ number_at 1 f at
  unfolding byte_at number_at
  byte_spelled at = omega (arith, spell_one (drop at f), byte_behind at 0 at (omega arith))

  pub half_spelled : (at : ℕ) → half_at f at ≡ number_at 2 f at
  unfolding half_at byte_at number_at
  half_spelled at = omega (arith, spell_two (drop at f), byte_behind at 0 at (omega arith), byte_behind at 1 (at + 1) refl)

  word-spelled : (at : ℕ) → word_at f at ≡ number_at 4 f at
  unfolding word_at half_at byte_at number_at
  word-spelled at =
      omega (
        arith,
        spell_four (drop at f),
        byte_behind at 0 at (omega arith),
        byte_behind at 1 (at + 1) refl,
        byte_behind at 2 (at + 2) refl,
        byte_behind at 3 (at + 2 + 1) (omega arith),
      )

  pub count_spelled : section_count f ≡ sections f
  unfolding section_count sections
  count_spelled = half_spelled 0

  pub start_spelled : (k : ℕ) → start_of f k ≡ start f k
  unfolding start_of start
  start_spelled k = word-spelled (2 + 8 * k)

  pub size_spelled : (k : ℕ) → size_of f k ≡ size f k
  unfolding size_of size
  size_spelled k = word-spelled (6 + 8 * k)

  -- Where a section must start is where the one before it ends.
  pub end_is : (n : ℕ) → ((k : ℕ) → k < n → start_of f k ≡ place_of f k) → place_of f n ≡ end_before f n
  unfolding table_end
  end_is zero starts = omega (arith, count_spelled)
  end_is (suc n) starts = omega (arith, starts n (omega arith), start_spelled n, size_spelled n)

  pub places : (n : ℕ) → ((k : ℕ) → k < n → start f k ≡ end_before f k) → (k : ℕ) → k ≤ n → place_of f k ≡ end_before f k
  unfolding table_end
  places n gapless zero h = omega (arith, count_spelled)
  places n gapless (suc k) h = omega (arith, places n gapless k (omega arith), gapless k (omega arith), size_spelled k)

  pub laid_whole : Laid f → Whole f
  laid_whole l =
      record {
        some = omega (arith, l.some, count_spelled);
        most = omega (arith, l.most, count_spelled);
        gapless = λ k h.
            sym (start_spelled k) ∙ l.starts k (omega (arith, count_spelled))
            ∙ end_is k (λ j i. l.starts j (omega (arith, count_spelled)));
        fours = λ k h. ap (λ (n : ℕ). n % 4) (sym (size_spelled k)) ∙ l.records k (omega (arith, count_spelled));
        ends = ap (end_before f) (sym count_spelled) ∙ sym (end_is (section_count f) l.starts) ∙ l.ends;
        short = l.size;
      }

  pub whole_laid : Whole f → Laid f
  whole_laid w =
      let place : (k : ℕ) → k ≤ sections f → place_of f k ≡ end_before f k = places (sections f) w.gapless in
      record {
        some = omega (arith, w.some, count_spelled);
        most = omega (arith, w.most, count_spelled);
        starts = λ k h.
            start_spelled k ∙ w.gapless k (omega (arith, count_spelled)) ∙ sym (place k (omega (arith, count_spelled)));
        records = λ k h. ap (λ (n : ℕ). n % 4) (size_spelled k) ∙ w.fours k (omega (arith, count_spelled));
        ends = ap (place_of f) count_spelled ∙ place (sections f) (omega arith) ∙ w.ends;
        size = w.short;
      }

  -- One byte, and those behind it.
  byte-first : (i j : ℕ) → i < length f → i + 1 ≡ j → drop i f ≡ byte_at f i ∷ drop j f
  unfolding byte_at
  byte-first i j h e = drop-cons f i 0 h ∙ ap (λ (k : ℕ). get_or f i 0 ∷ drop k f) (let same : suc i ≡ j = omega arith in same)

  -- Four bytes, and those behind them.
  four-first : (at : ℕ) → at + 4 ≤ length f →
      drop at f ≡ byte_at f at ∷ (byte_at f (at + 1) ∷ (byte_at f (at + 2) ∷ (byte_at f (at + 2 + 1) ∷ drop (at + 4) f)))
  four-first at h =
      cc (
        byte-first at (at + 1) (omega arith) refl,
        byte-first (at + 1) (at + 2) (omega arith) (omega arith),
        byte-first (at + 2) (at + 2 + 1) (omega arith) refl,
        byte-first (at + 2 + 1) (at + 4) (omega arith) (omega arith),
      )

  pub record_spelled : (at : ℕ) → fields (byte_at f at) (byte_at f (at + 1)) (half_at f (at + 2)) ≡ record_at f at
  unfolding record_at
  record_spelled at = cc (byte_spelled at, byte_spelled (at + 1), half_spelled (at + 2))

  -- Bytes of whole records are the records at their places.
  pub records_from_lem : (n at : ℕ) → at + 4 * n ≤ length f → entries_in (take (4 * n) (drop at f)) ≡ records_from f n at
  unfolding entries_in half_at
  records_from_lem zero at h = refl
  records_from_lem (suc n) at h =
      let same : 4 * suc n ≡ suc (suc (suc (suc (4 * n)))) = omega arith in
      cc (four-first at (omega arith), record_spelled at, records_from_lem n (at + 4) (omega arith))

  pub section_is : Laid f → (k : ℕ) → k < section_count f → entries_of f k ≡ section f k
  unfolding entries_of body_of section
  section_is l k h =
      let count : size_of f k ≡ 4 * (size f k / 4) = omega (arith, size_spelled k, l.records k h) in
      ap₂ (λ (i j : ℕ). entries_in (take i (drop j f))) count (start_spelled k)
      ∙ records_from_lem (size f k / 4) (start f k) (omega (arith, count, start_spelled k, section_inside f l k h))
