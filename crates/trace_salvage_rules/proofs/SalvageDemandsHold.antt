-- The demands on salvaged traces of specs/SalvageDemands.antt, all of them.
--     salvages_hold   what the buyer signs for, of salvaged traces
-- Assumes nothing.
use Rattle.std.specs.Prelude.{◌-◌, ◌<◌, ◌≤◌, ◌++◌, Result, Ok, Err, is_ok, ◌≡◌}
use Rattle.laws.proofs.Common.{ℕ, zero, suc, true, false, not, List, refl, sym, ap, ap₂, subst, ◌∙◌}
use Rattle.laws.proofs.Common.{arith, ltb-true, ltb-false, lt-ltb, le-ltb, ltb, length, take, drop, when◌then◌else◌, if_true}
use Rattle.laws.proofs.Common.{if_false, clash, by_test}
use Rattle.trace_rules.specs.Trace.{section_count, size_of}
use Rattle.trace_rules.specs.TraceBytes.{Bytes, placed}
use Rattle.trace_rules.specs.TraceDemands.{sections, Whole, AllRight}
use Rattle.trace_page.proofs.TraceContents.{Laid, laid_placed}
use Rattle.trace_page.proofs.TracePlaces.{count_spelled, size_spelled, whole_laid}
use Rattle.trace_page.proofs.TraceDemandsHold.{all_right_lem}
use Rattle.trace_bytes.proofs.TraceFiles.{placed_file, placed_behind, placed_length}
use Rattle.trace_salvage_rules.specs.declared.Salvaged.{Salvaged}
use Rattle.trace_salvage_rules.specs.declared.SalvageFault.{SalvageFault}
use Rattle.trace_salvage_rules.specs.declared.SalvageFault.TheVariants.{BadContents, NoRoom}
use Rattle.trace_salvage_rules.specs.Salvage.{salvageable, salvaged_file, sum_below, fell_in, sections_cut, bytes_lost, told, answer_with, salvaged_of, salvage_number_of, buffer_after}
use Rattle.trace_salvage_rules.specs.SalvageDemands.{Tabled, fell, lengths, Outcome, wrong_contents, no_room, salvaged, cut_in, lost_in, length_in, Salvages}
use Rattle.trace_salvage_rules.proofs.SalvageExamplesHold.{salvage_examples_hold}
use Rattle.trace_salvage_rules.proofs.SalvageTables.{table_is, table_end_lem, is_table, table_tabled, tabled_table}
use Rattle.trace_salvage_rules.proofs.SalvageFile.{new_laid, own, twice}
use Rattle.trace_salvage_rules.proofs.SalvageOne.{new_salvage, one_new}

-- The page's sums are the rules'.
cut_is : (f new : List ℕ) (n : ℕ) → sum_below (fell_in f new) n ≡ fell f new n
unfolding sum_below fell_in
cut_is f new zero = refl
cut_is f new (suc n) = cc (cut_is f new n, size_spelled f n, size_spelled new n)

lengths_are : (f : List ℕ) (n : ℕ) → sum_below (size_of f) n ≡ lengths f n
unfolding sum_below
lengths_are f zero = refl
lengths_are f (suc n) = cc (lengths_are f n, size_spelled f n)

module _ (f new : List ℕ) where
  pub cut_spelled : sections_cut f new ≡ fell f new (sections f)
  unfolding sections_cut
  cut_spelled = cut_is f new (section_count f) ∙ ap (fell f new) (count_spelled f)

  pub lost_spelled : bytes_lost f new ≡ lengths f (sections f) - lengths new (sections f)
  unfolding bytes_lost
  lost_spelled = cc (lengths_are f (section_count f), lengths_are new (section_count f), count_spelled f)

-- What the rules answer, by their tests.
module _ (f : List ℕ) (room : ℕ) where
  answers_17 : salvageable f ≡ false → salvaged_of f room ≡ Err BadContents
  unfolding salvaged_of
  answers_17 wrong = if_true (not (salvageable f)) (Err BadContents) _ (ap not wrong)

  module _ (ok : salvageable f ≡ true) where
    by-room : salvaged_of f room ≡ answer_with f (salvaged_file f) room
    unfolding salvaged_of
    by-room = if_false (not (salvageable f)) (Err BadContents) _ (ap not ok)

    answers-20 : room < length (salvaged_file f) → salvaged_of f room ≡ Err NoRoom
    unfolding answer_with
    answers-20 small = by-room ∙ if_true (ltb room (length (salvaged_file f))) (Err NoRoom) _ (lt-ltb room (length (salvaged_file f)) small)

    pub answers_new : length (salvaged_file f) ≤ room →
        salvaged_of f room ≡ Ok (told (sections_cut f (salvaged_file f)) (bytes_lost f (salvaged_file f)) (length (salvaged_file f)))
    unfolding answer_with
    answers_new fits = by-room ∙ if_false (ltb room (length (salvaged_file f))) (Err NoRoom) _ (le-ltb room (length (salvaged_file f)) fits)

pub after_is : (f buffer : List ℕ) → salvageable f ≡ true → length (salvaged_file f) ≤ length buffer →
    buffer_after f buffer ≡ placed (salvaged_file f) buffer
unfolding buffer_after
after_is f buffer ok fits =
    if_true (is_ok (salvaged_of f (length buffer))) _ buffer (ap is_ok (answers_new f (length buffer) ok fits))

-- Salvaging has the outcome that the page says.
module _ (f buffer : List ℕ) where
  outcome_is : (a : Result Salvaged SalvageFault) → salvaged_of f (length buffer) ≡ a →
      Outcome f buffer (salvage_number_of a) (cut_in a) (lost_in a) (length_in a) (when is_ok a then placed (salvaged_file f) buffer else buffer) →
      let b = salvaged_of f (length buffer) in Outcome f buffer (salvage_number_of b) (cut_in b) (lost_in b) (length_in b) (buffer_after f buffer)
  unfolding buffer_after
  outcome_is a e =
      subst
      (λ (b : Result Salvaged SalvageFault). Outcome f buffer (salvage_number_of b) (cut_in b) (lost_in b) (length_in b) (when is_ok b then placed (salvaged_file f) buffer else buffer))
      (sym e)

  answers : let a = salvaged_of f (length buffer) in Outcome f buffer (salvage_number_of a) (cut_in a) (lost_in a) (length_in a) (buffer_after f buffer)
  unfolding salvage_number_of when◌then◌else◌
  answers =
      by_test (salvageable f)
      (λ ok.
      let tabled : Tabled f = table_tabled f (table_is f ok) (table_end_lem f ok) in
      by_test (ltb (length buffer) (length (salvaged_file f)))
      (λ small.
      let short : length buffer < length (salvaged_file f) = ltb-true (length buffer) (length (salvaged_file f)) small in
      outcome_is (Err NoRoom) (answers-20 f (length buffer) ok short) (no_room tabled (new_salvage f ok) short))
      (λ large.
      let fits : length (salvaged_file f) ≤ length buffer = ltb-false (length buffer) (length (salvaged_file f)) large in
      outcome_is _ (answers_new f (length buffer) ok fits)
      (rw (cut_spelled f (salvaged_file f), lost_spelled f (salvaged_file f)) (salvaged tabled (new_salvage f ok) fits))))
      (λ wrong.
      outcome_is (Err BadContents) (answers_17 f (length buffer) wrong)
      (wrong_contents (λ t. clash (salvageable f) (tabled_table f t) wrong)))

  -- Two outcomes are the same one.
  one_outcome_lem : Bytes f → {a b c d x y z w : ℕ} {u v : List ℕ} → Outcome f buffer a b c d u → Outcome f buffer x y z w v →
      (a ≡ x) × (b ≡ y) × (c ≡ z) × (d ≡ w) × (u ≡ v)
  one_outcome_lem small (wrong_contents n) (wrong_contents o) = (refl, refl, refl, refl, refl)
  one_outcome_lem small (wrong_contents n) (no_room t s o) = absurd (n t)
  one_outcome_lem small (wrong_contents n) (salvaged t s o) = absurd (n t)
  one_outcome_lem small (no_room t s n) (wrong_contents o) = absurd (o t)
  one_outcome_lem small (no_room t s n) (no_room r q o) = (refl, refl, refl, refl, refl)
  one_outcome_lem small (no_room {new = g} t s n) (salvaged {new = h} r q o) = absurd (omega (arith, ap length (one_new f g h s q small)))
  one_outcome_lem small (salvaged t s n) (wrong_contents o) = absurd (o t)
  one_outcome_lem small (salvaged {new = g} t s n) (no_room {new = h} r q o) = absurd (omega (arith, ap length (one_new f g h s q small)))
  one_outcome_lem small (salvaged {new = g} t s n) (salvaged {new = h} r q o) =
      let same : g ≡ h = one_new f g h s q small in (
        refl,
        ap (λ (new : List ℕ). fell f new (sections f)) same,
        ap (λ (new : List ℕ). lengths f (sections f) - lengths new (sections f)) same,
        ap length same,
        ap (λ (new : List ℕ). new ++ drop (length new) buffer) same,
      )

-- A file that is its own salvage loses nothing.
none_fell : (f : List ℕ) (n : ℕ) → sum_below (fell_in f f) n ≡ 0
unfolding sum_below fell_in
none_fell f zero = refl
none_fell f (suc n) =
    omega (arith, none_fell f n, if_false {A = ℕ} (ltb (size_of f n) (size_of f n)) 1 0 (le-ltb (size_of f n) (size_of f n) (omega arith)))

nothing_lost : (f : List ℕ) (room : ℕ) → salvageable f ≡ true → salvaged_file f ≡ f → length f ≤ room →
    salvaged_of f room ≡ Ok (told 0 0 (length f))
unfolding sections_cut bytes_lost
nothing_lost f room ok same fits =
    let cut : sections_cut f f ≡ 0 = none_fell f (section_count f) in
    let lost : bytes_lost f f ≡ 0 = omega arith in
    answers_new f room ok (omega (arith, ap length same))
    ∙ cc (same, cut, lost)

right_salvageable : (f : List ℕ) → Laid f → salvageable f ≡ true
right_salvageable f l = is_table f (laid_placed f l) (omega (arith, l.ends, l.size))

own_holds : (f buffer : List ℕ) → Bytes f → Whole f → AllRight f → length f ≤ length buffer →
    (salvaged_of f (length buffer) ≡ Ok (told 0 0 (length f))) × (buffer_after f buffer ≡ f ++ drop (length f) buffer)
own_holds f buffer small whole right fits =
    let laid : Laid f = whole_laid f whole in
    let ok : salvageable f ≡ true = right_salvageable f laid in
    let same : salvaged_file f ≡ f = own f laid (all_right_lem f laid right) small in (
      nothing_lost f (length buffer) ok same fits,
      after_is f buffer ok (omega (arith, ap length same)) ∙ ap (λ (new : List ℕ). placed new buffer) same,
    )

-- What is salvaged could be, and had room.
module _ (f : List ℕ) (room : ℕ) (cut lost n : ℕ) (e : salvaged_of f room ≡ Ok (told cut lost n)) where
  was_right : salvageable f ≡ true
  was_right =
      by_test (salvageable f)
      (λ ok. ok)
      (λ wrong. clash (is_ok (salvaged_of f room)) (ap is_ok e) (ap is_ok (answers_17 f room wrong)))

  had-room : length (salvaged_file f) ≤ room
  had-room =
      by_test (ltb room (length (salvaged_file f)))
      (λ small.
      clash (is_ok (salvaged_of f room)) (ap is_ok e)
      (ap is_ok (answers-20 f room was_right (ltb-true room (length (salvaged_file f)) small))))
      (λ large. ltb-false room (length (salvaged_file f)) large)

  length_is : n ≡ length (salvaged_file f)
  length_is = sym (ap length_in e) ∙ ap length_in (answers_new f room was_right had-room)

twice_holds : (f buffer : List ℕ) (cut lost n : ℕ) → salvaged_of f (length buffer) ≡ Ok (told cut lost n) →
    let new = take n (buffer_after f buffer) in
    (salvaged_of new (length buffer) ≡ Ok (told 0 0 n)) × (buffer_after new (buffer_after f buffer) ≡ buffer_after f buffer)
twice_holds f buffer cut lost n e =
    let ok : salvageable f ≡ true = was_right f (length buffer) cut lost n e in
    let fits : length (salvaged_file f) ≤ length buffer = had-room f (length buffer) cut lost n e in
    let many : n ≡ length (salvaged_file f) = length_is f (length buffer) cut lost n e in
    let after : buffer_after f buffer ≡ placed (salvaged_file f) buffer = after_is f buffer ok fits in
    let new_is : take n (buffer_after f buffer) ≡ salvaged_file f =
    ap₂ (λ (i : ℕ) (b : List ℕ). take i b) many after ∙ placed_file (salvaged_file f) buffer in
    let again : salvageable (salvaged_file f) ≡ true = right_salvageable (salvaged_file f) (new_laid f ok) in
    let same : salvaged_file (salvaged_file f) ≡ salvaged_file f = twice f ok in
    let whole : length (placed (salvaged_file f) buffer) ≡ length buffer = placed_length (salvaged_file f) buffer fits in (
      cc (new_is, many, nothing_lost (salvaged_file f) (length buffer) again same fits),
      cc (
        new_is,
        after,
        same,
        placed_behind (salvaged_file f) buffer,
        after_is (salvaged_file f) (placed (salvaged_file f) buffer) again (omega (arith, ap length same)),
      ),
    )

pub salvages_hold : Salvages
salvages_hold =
    record {
      paper_examples = salvage_examples_hold;
      answers = answers;
      one_outcome = one_outcome_lem;
      own = own_holds;
      twice = twice_holds;
    }
