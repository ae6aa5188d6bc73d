-- The new file.
--     kept_is                       what a section keeps, by its level in the new file
--     new_count, new_size, new_body, new_records   what the new file says
--     new_laid, new_right, new_bytes               its contents and its records are right, and bytes stay bytes
--     own, twice                    a right file of bytes is its own salvage, and a new file is
-- Assumes nothing.
use Rattle.std.specs.Prelude.{◌*◌, ◌%◌, ◌<◌, ◌≤◌, ◌≡◌}
use Rattle.laws.proofs.Common.{ℕ, zero, suc, true, List, [], sym, ap, subst, ◌∙◌, arith, length}
use Rattle.laws.proofs.Common.{take, drop, get_or, length-take, length-take-le}
use Rattle.trace_rules.specs.declared.Entry.{Entry}
use Rattle.trace_rules.specs.Trace.{section_count, table_end, start_of, size_of, place_of, body_of, entries_in, entries_of, section_level, all_right, all_of, records_right}
use Rattle.trace_rules.specs.TraceBytes.{file, Bytes}
use Rattle.trace_page.proofs.TraceBelow.{below_each}
use Rattle.trace_page.proofs.TraceContents.{Laid}
use Rattle.trace_page.proofs.TraceLevels.{level_same, section_right_lem}
use Rattle.trace_bytes.proofs.TraceNumbers.{bytes_drop, bytes_take}
use Rattle.trace_bytes.proofs.TraceRecords.{entries_length, entries_take, entries_all}
use Rattle.trace_bytes.proofs.TraceFiles.{sections_length, sections_at, sections_same, file_count_lem, file_length, file_size_lem, file_body, file_place, file_laid, bodies, body_length, file_back, file_bodies, bytes_file}
use Rattle.trace_salvage_rules.specs.Salvage.{salvageable, beginning, among, kept_of, cut_body, cut_bodies, salvaged_file}
use Rattle.trace_salvage_rules.proofs.SalvageTables.{table_is, table_end_lem}
use Rattle.trace_salvage_rules.proofs.SalvageKeeps.{beginning_right, beginning_take, beginning_length, kept_at, kept_whole}

-- A new file is made of its own sections.
made_of : (f : List ℕ) → file (bodies (salvaged_file f)) ≡ salvaged_file f
unfolding salvaged_file cut_bodies
made_of f = ap file (file_bodies (cut_body f (kept_of f)) (section_count f))

module _ (f : List ℕ) where
  many : length (cut_bodies f (kept_of f)) ≡ section_count f
  unfolding cut_bodies
  many = sections_length (cut_body f (kept_of f)) (section_count f) 0

  pub new_count : section_count (salvaged_file f) ≡ section_count f
  unfolding salvaged_file
  new_count = file_count_lem (cut_bodies f (kept_of f)) ∙ many

  -- A section.
  module _ (k : ℕ) (h : k < section_count f) where
    pub kept_is : among (kept_of f) k ≡ beginning (section_count f) (section_level (among (kept_of f)) k) k (entries_of f k)
    unfolding kept_of
    kept_is = kept_at (section_count f) (entries_of f) (section_count f) k h

    pub kept_take : take (length (among (kept_of f) k)) (entries_of f k) ≡ among (kept_of f) k
    kept_take =
        ap (λ (es : List Entry). take (length es) (entries_of f k)) kept_is
        ∙ beginning_take (section_count f) (section_level (among (kept_of f)) k) k (entries_of f k)
        ∙ sym kept_is

    kept-right : all_right (section_count f) (section_level (among (kept_of f)) k) k (among (kept_of f) k) ≡ true
    kept-right =
        ap (all_right (section_count f) (section_level (among (kept_of f)) k) k) kept_is
        ∙ beginning_right (section_count f) (section_level (among (kept_of f)) k) k (entries_of f k)

    pub kept_fits : 4 * length (among (kept_of f) k) ≤ length (body_of f k)
    unfolding entries_of
    kept_fits =
        omega (
          arith,
          ap length kept_is,
          beginning_length (section_count f) (section_level (among (kept_of f)) k) k (entries_of f k),
          entries_length (body_of f k),
        )

    cut_is : get_or (cut_bodies f (kept_of f)) k [] ≡ take (4 * length (among (kept_of f) k)) (body_of f k)
    unfolding cut_bodies cut_body
    cut_is = sections_at (cut_body f (kept_of f)) (section_count f) k h

    pub cut_size : length (get_or (cut_bodies f (kept_of f)) k []) ≡ 4 * length (among (kept_of f) k)
    cut_size = ap length cut_is ∙ length-take-le (4 * length (among (kept_of f) k)) (body_of f k) kept_fits

    pub new_size : size_of (salvaged_file f) k ≡ 4 * length (among (kept_of f) k)
    unfolding salvaged_file
    new_size = file_size_lem (cut_bodies f (kept_of f)) k (omega (arith, many)) ∙ cut_size

    pub new_body : body_of (salvaged_file f) k ≡ take (4 * length (among (kept_of f) k)) (body_of f k)
    unfolding salvaged_file
    new_body = file_body (cut_bodies f (kept_of f)) k (omega (arith, many)) ∙ cut_is

    pub new_records : entries_of (salvaged_file f) k ≡ among (kept_of f) k
    unfolding entries_of
    new_records = ap entries_in new_body ∙ entries_take (length (among (kept_of f) k)) (body_of f k) ∙ kept_take

    pub new_inside : size_of (salvaged_file f) k ≤ size_of f k
    unfolding body_of
    new_inside = omega (arith, new_size, kept_fits, length-take (size_of f k) (drop (start_of f k) f))

  -- The level of a section among what is kept is the one that it has in the new file.
  pub new_level : (k : ℕ) → k < section_count f → section_level (entries_of (salvaged_file f)) k ≡ section_level (among (kept_of f)) k
  new_level k h = level_same (entries_of (salvaged_file f)) (among (kept_of f)) k (λ j i. new_records j (omega arith))

  pub new_right : records_right (salvaged_file f) ≡ true
  unfolding records_right
  new_right =
      below_each (λ k. all_of (salvaged_file f) k (entries_of (salvaged_file f) k)) (section_count (salvaged_file f))
      (λ k i.
      let h : k < section_count f = omega (arith, new_count) in
      cc (new_count, new_level k h, new_records k h, kept-right k h))

  -- No section starts farther behind than it did.
  pub new_place : (k : ℕ) → k ≤ section_count f → place_of (salvaged_file f) k ≤ place_of f k
  unfolding table_end
  new_place zero h = omega (arith, new_count)
  new_place (suc k) h = omega (arith, new_place k (omega arith), new_inside k (omega arith))

  pub new_length : length (salvaged_file f) ≡ place_of (salvaged_file f) (section_count f)
  unfolding salvaged_file
  new_length =
      file_length (cut_bodies f (kept_of f))
      ∙ sym (file_place (cut_bodies f (kept_of f)) (length (cut_bodies f (kept_of f))) (omega arith))
      ∙ ap (place_of (file (cut_bodies f (kept_of f)))) many

  module _ (ok : salvageable f ≡ true) where
    pub new_short : length (salvaged_file f) ≤ 65535
    new_short = omega (arith, new_length, new_place (section_count f) (omega arith), table_end_lem f ok)

    pub new_laid : Laid (salvaged_file f)
    unfolding salvaged_file
    new_laid =
        file_laid (cut_bodies f (kept_of f))
        (omega (arith, many, (table_is f ok).some))
        (omega (arith, many, (table_is f ok).most))
        (λ k h. omega (arith, cut_size k (omega (arith, many))))
        new_short

    pub new_bytes : Bytes f → Bytes (salvaged_file f)
    unfolding salvaged_file body_of
    new_bytes small =
        bytes_file (cut_bodies f (kept_of f)) new_short
        (λ k h.
        subst Bytes (sym (cut_is k (omega (arith, many))))
        (bytes_take (4 * length (among (kept_of f) k)) (body_of f k)
        (bytes_take (size_of f k) (drop (start_of f k) f) (bytes_drop (start_of f k) f small))))

  -- A right file keeps all.
  module _ (laid : Laid f) (right : records_right f ≡ true) where
    all_kept_lem : (k : ℕ) → k < section_count f → among (kept_of f) k ≡ entries_of f k
    unfolding kept_of
    all_kept_lem = kept_whole (section_count f) (entries_of f) (section_count f) (section_right_lem f right)

    own-bodies : cut_bodies f (kept_of f) ≡ bodies f
    unfolding cut_bodies cut_body entries_of
    own-bodies =
        sections_same (cut_body f (kept_of f)) (body_of f) (section_count f) 0
        (λ k i.
        let h : k < section_count f = omega arith in
        ap (λ (es : List Entry). take (4 * length es) (body_of f k)) (all_kept_lem k h)
        ∙ entries_all (body_of f k) (ap (λ (n : ℕ). n % 4) (body_length f laid k h) ∙ laid.records k h))

    own-file : salvaged_file f ≡ file (bodies f)
    unfolding salvaged_file
    own-file = ap file own-bodies

    pub own : Bytes f → salvaged_file f ≡ f
    own small = own-file ∙ sym (file_back f small laid)

pub twice : (f : List ℕ) → salvageable f ≡ true → salvaged_file (salvaged_file f) ≡ salvaged_file f
twice f ok = own-file (salvaged_file f) (new_laid f ok) (new_right f) ∙ made_of f
