-- Counts that stop at 65,536.
--     counted_is               what records count, if the counts of the sections that they play are right up to the cap
--     count_full               what a section of a right file counts, with all its levels, by what its records play with all theirs
--     Counting                 what holds of the loop over a section's records
--     counting_first, counting_on, counting_same, counting_ends
--     counts_first, counts_next   the counts of the sections, before any and with one more
--     by_count, refused_first     what playing answers, of a right file by its count, of another by what is found wrong first
-- Assumes nothing.
use Rattle.std.specs.Prelude.{◌+◌, ◌*◌, ◌-◌, ◌/◌, ◌%◌, ◌<◌, ◌≤◌, ◌&&◌, ◌||◌, ◌∷◌, ◌≡◌, Result, Ok, Err}
use Rattle.laws.proofs.Common.{ℕ, zero, suc, min, Bool, true, or-true, List}
use Rattle.laws.proofs.Common.{[], refl, sym, ap, ap₂, subst, ◌∙◌, suc-mul, zero-mul, mul-le-mul_left, arith, leb-true}
use Rattle.laws.proofs.Common.{leb-false, eq-eqb, leb, eqb, get_or, set, length-set, replicate, length-replicate, if_both}
use Rattle.laws.proofs.Common.{if_true, if_false, by_test, and_both, false, not, ltb, not_so, clash, when◌then◌else◌}
use Rattle.trace_rules.specs.declared.Entry.{Entry}
use Rattle.trace_rules.specs.declared.Fault.{Fault}
use Rattle.trace_rules.specs.declared.Fault.TheVariants.{TooManyCalls}
use Rattle.trace_rules.specs.Trace.{section_level, section_count, start_of, size_of, contents_right, entries_of, is_play, plays_any, records_right, count_by, play_count, file_count, played_of}
use Rattle.trace_page.proofs.TraceContents.{contents_laid}
use Rattle.trace_page.proofs.TraceLevels.{PlaysUp, plays_up, level_least, stable, counts_same}
use Rattle.trace_numbers.specs.Places.{entry_at, entries_at}
use Rattle.trace_right.specs.Judged.{judged_of}
use Rattle.trace_counts.specs.Counts.{capped, weight_by, CountsFrom}
use Rattle.trace_numbers.proofs.Records.{entries_more, entries_none, section_at}
use Rattle.trace_numbers.proofs.Tables.{set_each}

-- A count stops at the cap.
pub capped_is : (n : ℕ) → capped n ≡ min n 65536
unfolding capped
capped_is n =
    by_test (leb n 65536)
    (λ low. if_true (leb n 65536) n 65536 low ∙ omega (arith, leb-true n 65536 low))
    (λ high. if_false (leb n 65536) n 65536 high ∙ omega (arith, leb-false n 65536 high))

-- A sum of capped numbers, and so many times a capped number, are the same up to the cap.
capped_sum : (a b c d : ℕ) → capped a ≡ capped b → capped c ≡ capped d → capped (a + c) ≡ capped (b + d)
capped_sum a b c d e h =
    omega (arith, capped_is a, capped_is b, capped_is c, capped_is d, capped_is (a + c), capped_is (b + d))

capped_times : (v s : ℕ) → capped (v * (1 + capped s)) ≡ capped (v * (1 + s))
capped_times zero s = ap capped (zero-mul (1 + capped s) ∙ sym (zero-mul (1 + s)))
capped_times (suc w) s =
    by_test (leb s 65536)
    (λ low. ap (λ (x : ℕ). capped (suc w * (1 + x))) (omega (arith, capped_is s, leb-true s 65536 low)))
    (λ high.
    omega (
      arith,
      capped_is s,
      leb-false s 65536 high,
      suc-mul w (1 + capped s),
      suc-mul w (1 + s),
      capped_is (suc w * (1 + capped s)),
      capped_is (suc w * (1 + s)),
    ))

-- So many times a count is far from overflowing.
pub product_most : (v x : ℕ) → v ≤ 65535 → x ≤ 4294967295 → v * (1 + x) ≤ 281470681743360
product_most v x h k = omega (arith, mul-le-mul_left v (let most : 1 + x ≤ 4294967296 = omega arith in most))

-- One record, and some, if the counts of the sections that they play are right up to the cap.
weight_is : (counts : List ℕ) (sub : ℕ → ℕ) (e : Entry) →
    (is_play e ≡ true → get_or counts e.argument 0 ≡ capped (sub e.argument)) →
    capped (weight_by (λ j. get_or counts j 0) e) ≡ capped (weight_by sub e)
unfolding weight_by
weight_is counts sub e h =
    if_both (λ (x y : ℕ). capped x ≡ capped y) (is_play e) (is_play e) _ _ _ _ refl
    (λ play. ap (λ (x : ℕ). capped (e.value * (1 + x))) (h play) ∙ capped_times e.value (sub e.argument))
    (λ call. refl)

pub counted_is : (counts : List ℕ) (sub : ℕ → ℕ) (es : List Entry) →
    ((j : ℕ) → plays_any es j ≡ true → get_or counts j 0 ≡ capped (sub j)) →
    capped (count_by (λ j. get_or counts j 0) es) ≡ capped (count_by sub es)
unfolding count_by weight_by plays_any
counted_is counts sub [] h = refl
counted_is counts sub (e ∷ es) h =
    capped_sum (weight_by (λ j. get_or counts j 0) e) (weight_by sub e) (count_by (λ j. get_or counts j 0) es) (count_by sub es)
    (weight_is counts sub e
    (λ play.
    h e.argument
    (ap (λ (x : Bool). x || plays_any es e.argument) (and_both (is_play e) _ play (eq-eqb e.argument e.argument refl)))))
    (counted_is counts sub es
    (λ j plays. h j (ap (λ (x : Bool). (is_play e && eqb e.argument j) || x) plays ∙ or-true (is_play e && eqb e.argument j))))

pub count_full : (f : List ℕ) → records_right f ≡ true → (k : ℕ) → k < section_count f →
    count_by (play_count f 8) (entries_of f k) ≡ play_count f 8 k
unfolding play_count
count_full f right k h = stable f right count_by counts_same (play_count f) (λ l k. refl) 7 k h (omega (arith, level_least (entries_of f) k))

-- What holds of the loop over a section's records, from the last one on: those behind the place reached are counted.
pub record Counting (f : List ℕ) (k : ℕ) (sub : ℕ → ℕ) (left at total : ℕ) : Type 0 where
  pub few : left ≤ size_of f k / 4 % 65536
  pub here : at ≡ start_of f k % 65536 + 4 * left
  pub counted : total ≡ count_by sub (entries_at f (size_of f k / 4 % 65536 - left) at)
  pub low : total ≤ 281470681743360 * (size_of f k / 4 % 65536 - left)

pub counting_first : (f : List ℕ) (k : ℕ) (sub : ℕ → ℕ) {left at : ℕ} → left ≡ size_of f k / 4 % 65536 → at ≡ start_of f k % 65536 + 4 * left →
    Counting f k sub left at 0
unfolding count_by
counting_first f k sub counts starts =
    record {
      few = omega arith;
      here = starts;
      counted = sym (ap (count_by sub) (entries_none f _ _ (omega arith)));
      low = omega arith;
    }

module _ {f : List ℕ} {k left at total : ℕ} {sub : ℕ → ℕ} (c : Counting f k sub left at total) where
  pub counting_on : {e : Entry} {w : ℕ} → 0 < left → e ≡ entry_at f (at - 4) → w ≡ weight_by sub e → w ≤ 281470681743360 →
      Counting f k sub (left - 1) (at - 4) (total + w)
  unfolding count_by weight_by
  counting_on more reads is small =
      let n = size_of f k / 4 % 65536 in
      let fewer : n - left ≡ n - (left - 1) - 1 = omega (arith, c.few) in
      let back : at ≡ at - 4 + 4 = omega (arith, c.here) in
      record {
        few = omega (arith, c.few);
        here = omega (arith, c.here);
        counted =
            omega (
              arith,
              is ∙ ap (weight_by sub) reads,
              c.counted ∙ ap₂ (λ (i j : ℕ). count_by sub (entries_at f i j)) fewer back,
              ap (count_by sub) (entries_more f (n - (left - 1)) (at - 4) (omega (arith, c.few))),
            );
        low = omega (arith, c.low, c.few);
      }

  -- The same place in other words.
  pub counting_same : {place : ℕ} → at ≡ place → Counting f k sub left place total
  counting_same here = subst (λ (i : ℕ). Counting f k sub left i total) here c

  pub counting_ends : contents_right f ≡ true → k < section_count f → left ≤ 0 → total ≡ count_by sub (entries_of f k)
  counting_ends contents h none =
      c.counted
      ∙ ap₂ (λ (i j : ℕ). count_by sub (entries_at f i j))
      (let all : size_of f k / 4 % 65536 - left ≡ size_of f k / 4 % 65536 = omega arith in all)
      (let first : at ≡ start_of f k % 65536 = omega (arith, c.here) in first)
      ∙ ap (count_by sub) (sym (section_at f contents k h).are)

-- Before any section, and with one more.
pub counts_first : (f : List ℕ) (k : ℕ) → section_count f ≤ k → CountsFrom f k (replicate 256 0)
counts_first f k h = record { all = length-replicate {A = ℕ} 256 0; each = λ j from below. absurd (omega arith) }

pub counts_next : (f : List ℕ) → contents_right f ≡ true → records_right f ≡ true → (k : ℕ) → k < section_count f →
    (counts : List ℕ) (n : ℕ) {m : ℕ} → CountsFrom f m counts → m ≤ k + 1 →
    n ≡ capped (count_by (λ j. get_or counts j 0) (entries_of f k)) → CountsFrom f k (set counts k n)
counts_next f contents right k h counts n from next is =
    let total : n ≡ capped (play_count f 8 k) =
    is
    ∙ counted_is counts (play_count f 8) (entries_of f k)
    (λ j plays.
    let up : PlaysUp (section_count f) (section_level (entries_of f) k) k j = plays_up f right k j h plays in
    from.each j (omega (arith, up.up)) up.there)
    ∙ ap capped (count_full f right k h) in
    record {
      all = length-set counts k n ∙ from.all;
      each = λ j reached below.
          set_each (λ (i m : ℕ). k ≤ i → i < section_count f → m ≡ capped (play_count f 8 i)) counts k n (λ _ _. total)
          (λ i other up there. from.each i (omega arith) there) j (omega (arith, from.all, (contents_laid f contents).most))
          reached below;
    }

-- A right file is refused only where it counts too many.
pub by_count : (f : List ℕ) {r : Result ℕ Fault} → (contents_right f ≡ true) × (records_right f ≡ true) →
    r ≡ (when ltb 65535 (file_count f) then Err TooManyCalls else Ok (file_count f)) → r ≡ played_of f
unfolding played_of
by_count f right is = not_so _ _ _ (ap not right.0) (not_so _ _ _ (ap not right.1) is)

-- What of a file is found wrong first, before its calls are counted, is why it is not played.
pub refused_first : (f : List ℕ) (fault : Fault) → Err fault ≡ judged_of f → Err fault ≡ played_of f
unfolding judged_of played_of when◌then◌else◌
refused_first f fault is =
    by_test (contents_right f)
    (λ contents.
    by_test (records_right f)
    (λ records. clash false (ap found (rw (contents, records) at is)) refl)
    (λ wrong. rw (contents, wrong) (cc (rw (contents, wrong) at is))))
    (λ wrong. rw wrong (cc (rw wrong at is)))
  where
    found : Result (Unit {0}) Fault → Bool
    found (Ok x) = true
    found (Err w) = false
