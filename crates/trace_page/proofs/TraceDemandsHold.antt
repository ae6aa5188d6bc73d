-- The demands on trace files of specs/TraceDemands.antt, all of them.
--     traces_hold   what the buyer signs for, of trace files
-- Assumes nothing.
use Rattle.std.specs.Prelude.{◌/◌, ◌<◌, ◌≡◌, Result, Ok, Err}
use Rattle.laws.proofs.Common.{ℕ, true, not, List, refl, sym, ap, subst, ◌∙◌, arith, ltb-true, ltb-false, ltb}
use Rattle.laws.proofs.Common.{when◌then◌else◌, if_true, if_false, clash, by_test}
use Rattle.module_rules.proofs.Types.{Module, Call, Eight}
use Rattle.module_rules.specs.Calls.{powered_up, after_calls}
use Rattle.module_rules.specs.Lives.{power_up, begins, life}
use Rattle.module_rules.proofs.LivesReach.{watched_reaches}
use Rattle.trace_rules.specs.declared.Fault.TheVariants.{BadContents, BadRecord, TooManyCalls}
use Rattle.trace_rules.specs.declared.Fault.{Fault}
use Rattle.trace_rules.specs.Trace.{section_count, contents_right, entries_of, section_level, all_right, all_of, records_right, file_calls, file_count, fault_number_of, played_of, is_made, played_module}
use Rattle.trace_rules.specs.TraceDemands.{sections, start, size, section, Levels, AllRight, Outcome, wrong_contents, wrong_record, too_many_calls, played, number_in, count_in, Traces}
use Rattle.trace_rules.proofs.TraceExamplesHold.{trace_examples_hold}
use Rattle.trace_page.proofs.TraceBelow.{below_each}
use Rattle.trace_page.proofs.TraceContents.{Laid, contents_laid, laid_contents}
use Rattle.trace_page.proofs.TracePlaces.{count_spelled, laid_whole, whole_laid, section_is}
use Rattle.trace_page.proofs.TraceLevels.{level_same, section_right_lem}
use Rattle.trace_page.proofs.TraceRight.{each_right, right_each}
use Rattle.trace_page.proofs.TraceOrder.{levels_hold, one_level_lem}
use Rattle.trace_page.proofs.TraceRuns.{runs_hold, one_run_lem}

module _ (f : List ℕ) (laid : Laid f) where
  -- The page's levels are the file's.
  level_is : (k : ℕ) → k < section_count f → section_level (entries_of f) k ≡ section_level (section f) k
  level_is k h = level_same (entries_of f) (section f) k (λ j below. section_is f laid j (omega arith))

  -- The records of a section are right exactly if they are so at their places.
  all-is : (level : ℕ → ℕ) → Levels (section f) level → (k : ℕ) → k < section_count f →
      all_of f k (entries_of f k) ≡ all_right (sections f) (level k) k (section f k)
  all-is level levels k h =
      let same : section_level (entries_of f) k ≡ level k =
      level_is k h ∙ one_level_lem (section f) (section_level (section f)) level (levels_hold (section f)) levels k in
      cc (same, count_spelled f, section_is f laid k h)

  pub right_all : records_right f ≡ true → AllRight f
  unfolding section
  right_all right =
      record {
        level = section_level (section f);
        levels = levels_hold (section f);
        each = λ k i h inside.
            let below : k < section_count f = omega (arith, count_spelled f) in
            each_right (sections f) (section_level (section f) k) k f (size f k / 4) (start f k)
            (sym (all-is (section_level (section f)) (levels_hold (section f)) k below) ∙ section_right_lem f right k below) i inside;
      }

  pub all_right_lem : AllRight f → records_right f ≡ true
  unfolding records_right section
  all_right_lem all =
      below_each (λ k. all_of f k (entries_of f k)) (section_count f)
      (λ k h.
      all-is all.level all.levels k h
      ∙ right_each (sections f) (all.level k) k f (size f k / 4) (start f k)
      (λ i inside. all.each k i (omega (arith, count_spelled f)) inside))

-- Playing a file has the outcome that the page says.
module _ (m : Module) (f : List ℕ) where
  outcome_is : (p : Result ℕ Fault) → played_of f ≡ p → Outcome m f (number_in p) (count_in p) (when is_made p then after_calls powered_up (file_calls f) else m) →
      Outcome m f (number_in (played_of f)) (count_in (played_of f)) (played_module m f)
  unfolding played_module
  outcome_is p e =
      subst (λ (q : Result ℕ Fault). Outcome m f (number_in q) (count_in q) (when is_made q then after_calls powered_up (file_calls f) else m)) (sym e)

  answers : Outcome m f (number_in (played_of f)) (count_in (played_of f)) (played_module m f)
  unfolding played_of fault_number_of when◌then◌else◌
  answers =
      by_test (contents_right f)
      (λ right.
      let laid : Laid f = contents_laid f right in
      let to-18 = if_false (not (contents_right f)) (Err BadContents) _ (ap not right) in
      by_test (records_right f)
      (λ records.
      let all : AllRight f = right_all f laid records in
      let run = runs_hold f laid records in
      let to-19 = to-18 ∙ if_false (not (records_right f)) (Err BadRecord) _ (ap not records) in
      by_test (ltb 65535 (file_count f))
      (λ many.
      outcome_is (Err TooManyCalls) (to-19 ∙ if_true (ltb 65535 (file_count f)) _ (Ok (file_count f)) many)
      (too_many_calls (laid_whole f laid) all run (ltb-true 65535 (file_count f) many)))
      (λ few.
      outcome_is (Ok (file_count f)) (to-19 ∙ if_false (ltb 65535 (file_count f)) (Err TooManyCalls) _ few)
      (subst (Outcome m f 0 (file_count f)) (watched_reaches (file_calls f) (begins (power_up Eight)))
      (played (laid_whole f laid) all run (ltb-false 65535 (file_count f) few)))))
      (λ wrong.
      outcome_is (Err BadRecord) (to-18 ∙ if_true (not (records_right f)) (Err BadRecord) _ (ap not wrong))
      (wrong_record (laid_whole f laid) (λ all. clash (records_right f) (all_right_lem f laid all) wrong))))
      (λ wrong.
      outcome_is (Err BadContents) (if_true (not (contents_right f)) (Err BadContents) _ (ap not wrong))
      (wrong_contents (λ whole. clash (contents_right f) (laid_contents f (whole_laid f whole)) wrong)))

  -- Two outcomes are the same one.
  pub one_outcome_lem : {a b x y : ℕ} {u v : Module} → Outcome m f a x u → Outcome m f b y v → (a ≡ b) × (x ≡ y) × (u ≡ v)
  one_outcome_lem (wrong_contents n) (wrong_contents o) = (refl, refl, refl)
  one_outcome_lem (wrong_contents n) (wrong_record w o) = absurd (n w)
  one_outcome_lem (wrong_contents n) (too_many_calls w r s o) = absurd (n w)
  one_outcome_lem (wrong_contents n) (played w r s o) = absurd (n w)
  one_outcome_lem (wrong_record w n) (wrong_contents o) = absurd (o w)
  one_outcome_lem (wrong_record w n) (wrong_record x o) = (refl, refl, refl)
  one_outcome_lem (wrong_record w n) (too_many_calls x r s o) = absurd (n r)
  one_outcome_lem (wrong_record w n) (played x r s o) = absurd (n r)
  one_outcome_lem (too_many_calls w r s n) (wrong_contents o) = absurd (o w)
  one_outcome_lem (too_many_calls w r s n) (wrong_record x o) = absurd (o r)
  one_outcome_lem (too_many_calls w r s n) (too_many_calls x t q o) = (refl, refl, refl)
  one_outcome_lem (too_many_calls w r s n) (played x t q o) = absurd (omega (arith, (one_run_lem (section f) (section f 0) _ _ _ _ s q).1))
  one_outcome_lem (played w r s n) (wrong_contents o) = absurd (o w)
  one_outcome_lem (played w r s n) (wrong_record x o) = absurd (o r)
  one_outcome_lem (played w r s n) (too_many_calls x t q o) = absurd (omega (arith, (one_run_lem (section f) (section f 0) _ _ _ _ s q).1))
  one_outcome_lem (played w r s n) (played x t q o) =
      let same = one_run_lem (section f) (section f 0) _ _ _ _ s q in
      (refl, same.1, ap (λ (cs : List Call). (life (power_up Eight) cs).now) same.0)

pub traces_hold : Traces
traces_hold =
    record {
      paper_examples = trace_examples_hold;
      answers = answers;
      one_outcome = one_outcome_lem;
      levels = levels_hold;
      one_level = one_level_lem;
    }
