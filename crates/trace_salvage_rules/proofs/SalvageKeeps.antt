-- What sections keep.
--     begins_right, begins_wrong   by the first record
--     beginning_right, beginning_take, beginning_next   the longest beginning of right records
--     beginning_all                right records are kept whole
--     kept_at                      each section, by its level among all that is kept
--     kept_whole                   right sections are kept whole
-- Assumes nothing.
use Rattle.std.specs.Prelude.{◌<◌, ◌≤◌, ◌∷◌, ◌≡◌}
use Rattle.laws.proofs.Common.{ℕ, zero, suc, true, false, List, [], refl, sym, ap, ◌∙◌, arith, ltb-true}
use Rattle.laws.proofs.Common.{ltb-false, ltb, length, take, get_or, length-append, List·getD-append, when◌then◌else◌, if_true}
use Rattle.laws.proofs.Common.{if_false, and_left, and_right, and_both, by_test}
use lib.Seq.{get_or_at}
use Rattle.trace_rules.specs.declared.Entry.{Entry}
use Rattle.trace_rules.specs.Trace.{section_level, right_record, all_right}
use Rattle.trace_page.proofs.TraceLevels.{level_same}
use Rattle.trace_salvage_rules.specs.Salvage.{beginning, among, with_next, kept_below}

module _ (count level k : ℕ) where
  pub begins_right : (e : Entry) (es : List Entry) → right_record count level k e ≡ true →
      beginning count level k (e ∷ es) ≡ e ∷ beginning count level k es
  unfolding beginning
  begins_right e es right = if_true (right_record count level k e) _ _ right

  pub begins_wrong : (e : Entry) (es : List Entry) → right_record count level k e ≡ false → beginning count level k (e ∷ es) ≡ []
  unfolding beginning
  begins_wrong e es wrong = if_false (right_record count level k e) _ _ wrong

  -- What is kept is right,
  pub beginning_right : (es : List Entry) → all_right count level k (beginning count level k es) ≡ true
  unfolding beginning all_right when◌then◌else◌
  beginning_right [] = refl
  beginning_right (e ∷ es) =
      by_test (right_record count level k e)
      (λ right. rw right (and_both (right_record count level k e) _ right (beginning_right es)))
      (λ wrong. rw wrong)

  -- a beginning,
  pub beginning_take : (es : List Entry) → take (length (beginning count level k es)) es ≡ beginning count level k es
  unfolding beginning when◌then◌else◌
  beginning_take [] = refl
  beginning_take (e ∷ es) =
      by_test (right_record count level k e) (λ right. rw right (ap (λ (kept : List Entry). e ∷ kept) (beginning_take es)))
      (λ wrong. rw wrong)

  pub beginning_length : (es : List Entry) → length (beginning count level k es) ≤ length es
  unfolding beginning when◌then◌else◌
  beginning_length [] = omega arith
  beginning_length (e ∷ es) =
      by_test (right_record count level k e) (λ right. rw right (omega (arith, beginning_length es)))
      (λ wrong. rw wrong (omega arith))

  -- and the next record is wrong.
  pub beginning_next : (es : List Entry) (d : Entry) → length (beginning count level k es) < length es →
      right_record count level k (get_or es (length (beginning count level k es)) d) ≡ false
  unfolding beginning
  beginning_next [] d h = absurd (omega arith)
  beginning_next (e ∷ es) d h =
      by_test (right_record count level k e)
      (λ right. rw (begins_right e es right) (beginning_next es d (omega (arith, ap length (begins_right e es right)))))
      (λ wrong. rw (begins_wrong e es wrong) wrong)

  pub beginning_all : (es : List Entry) → all_right count level k es ≡ true → beginning count level k es ≡ es
  unfolding beginning all_right
  beginning_all [] right = refl
  beginning_all (e ∷ es) right =
      begins_right e es (and_left (right_record count level k e) _ right)
      ∙ ap (λ (kept : List Entry). e ∷ kept) (beginning_all es (and_right (right_record count level k e) _ right))

module _ (count : ℕ) (s : ℕ → List Entry) where
  pub kept_length : (n : ℕ) → length (kept_below count s n) ≡ n
  unfolding kept_below with_next
  kept_length zero = refl
  kept_length (suc n) = omega (arith, length-append (kept_below count s n) (beginning count (section_level (among (kept_below count s n)) n) n (s n) ∷ []), kept_length n)

  -- The next section, and those before it.
  kept_next : (n : ℕ) →
      among (kept_below count s (suc n)) n ≡ beginning count (section_level (among (kept_below count s n)) n) n (s n)
  unfolding kept_below with_next
  kept_next n = get_or_at (kept_below count s n) _ [] [] n (kept_length n)

  kept-before : (n k : ℕ) → k < n → among (kept_below count s (suc n)) k ≡ among (kept_below count s n) k
  unfolding kept_below with_next
  kept-before n k h = List·getD-append (kept_below count s n) _ [] k (omega (arith, kept_length n))

  -- Each section, by its level among all that is kept.
  pub kept_at : (n k : ℕ) → k < n →
      among (kept_below count s n) k ≡ beginning count (section_level (among (kept_below count s n)) k) k (s k)
  kept_at zero k h = absurd (omega arith)
  kept_at (suc n) k h =
      let level : section_level (among (kept_below count s (suc n))) k ≡ section_level (among (kept_below count s n)) k =
      level_same (among (kept_below count s (suc n))) (among (kept_below count s n)) k (λ j i. kept-before n j (omega arith)) in
      by_test (ltb k n)
      (λ below.
      kept-before n k (ltb-true k n below)
      ∙ kept_at n k (ltb-true k n below)
      ∙ ap (λ (l : ℕ). beginning count l k (s k)) (sym level))
      (λ last.
      let same : k ≡ n = omega (arith, ltb-false k n last) in
      rw (level, same) (kept_next n))

  -- Right sections are kept whole.
  pub kept_whole : (n : ℕ) → ((k : ℕ) → k < n → all_right count (section_level s k) k (s k) ≡ true) →
      (k : ℕ) → k < n → among (kept_below count s n) k ≡ s k
  kept_whole zero right k h = absurd (omega arith)
  kept_whole (suc n) right k h =
      by_test (ltb k n)
      (λ below.
      kept-before n k (ltb-true k n below)
      ∙ kept_whole n (λ j i. right j (omega arith)) k (ltb-true k n below))
      (λ last.
      let same : k ≡ n = omega (arith, ltb-false k n last) in
      let level : section_level (among (kept_below count s n)) n ≡ section_level s n =
      level_same (among (kept_below count s n)) s n (kept_whole n (λ j i. right j (omega arith))) in
      rw same (kept_next n ∙ rw level (beginning_all count (section_level s n) n (s n) (right n (omega arith)))))
