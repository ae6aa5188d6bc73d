-- The table of contents, test by test.
--     too_long_lem, no_section, too_many, no_table, only_gapless   where the last section ends, one test after the other
--     all_in_range          each number of a range is every number below its end
--     ended_zero, ended_some, ended_is, ended_none   an end that is one, and what is told as one
--     no_end, some_end      a table that is wrong, and one that is whole and gapless
--     other_end, own_end    right contents, by where the last section ends
-- Assumes nothing.
use Rattle.std.specs.Prelude.{Some, None, ◌+◌, ◌*◌, ◌<◌, ◌≤◌, ◌&&◌, ◌≡◌}
use Rattle.std.specs.List.{list_all, range_with_len}
use Rattle.laws.proofs.Common.{ℕ, zero, suc, Bool, true, false, and-true, List, refl, sym, ap, ap₂, ◌∙◌, arith}
use Rattle.laws.proofs.Common.{eq-eqb, ne_eqb, eqb, leb, length, when◌then◌else◌, so_le, not_so_le, if_true, if_false, by_test}
use Rattle.laws.proofs.Common.{and-false}
use Rattle.trace_rules.specs.Trace.{section_count, all_below, table_end, place_of, in_fours, table_right, contents_right}
use Rattle.trace_page.proofs.TraceContents.{place_below}
use Rattle.trace_right.specs.Ends.{gapless_end, stated_end, ended}

-- A conjunction whose first part is true is its second.
pub and_skip : (a b : Bool) → a ≡ true → (a && b) ≡ b
and_skip a b e = rw e

-- A test of each number of a range is one of every number below its end.
and-regrouped : (a b c : Bool) → (a && (b && c)) ≡ ((a && b) && c)
and-regrouped true b c = refl
and-regrouped false b c = refl

one-more : (test : ℕ → Bool) (from n : ℕ) →
    list_all test (range_with_len from (suc n)) ≡ (list_all test (range_with_len from n) && test (from + n))
one-more test from zero = and-true (test from) ∙ ap test (omega arith)
one-more test from (suc n) =
    ap (λ (b : Bool). test from && b) (one-more test (from + 1) n ∙ ap (λ (j : ℕ). list_all test (range_with_len (from + 1) n) && test j) (omega arith))
    ∙ and-regrouped (test from) (list_all test (range_with_len (from + 1) n)) (test (from + suc n))

pub all_in_range : (test : ℕ → Bool) (n : ℕ) → list_all test (range_with_len 0 n) ≡ all_below test n
unfolding all_below
all_in_range test zero = refl
all_in_range test (suc n) = one-more test 0 n ∙ ap₂ (λ (b : Bool) (j : ℕ). b && test j) (all_in_range test n) (omega arith)

-- A choice by a conjunction is a choice after a choice.
if_and : (a b : Bool) (x y : ℕ) → (when a && b then x else y) ≡ (when a then when b then x else y else y)
unfolding when◌then◌else◌
if_and true b x y = refl
if_and false b x y = refl

-- An end that is one, and what is told as one.
pub ended_zero : {n : ℕ} → 0 ≡ n → None ≡ ended n
unfolding ended
ended_zero is = ap ended is

pub ended_some : (n : ℕ) → 1 ≤ n → Some n ≡ ended n
unfolding ended
ended_some zero some = absurd (omega (arith, some))
ended_some (suc n) some = refl

pub ended_is : (n m : ℕ) → Some m ≡ ended n → (m ≡ n) × (n ≡ 0 → ⊥)
unfolding ended
ended_is zero m is = absurd (cc is)
ended_is (suc n) m is = (cc is, λ none. absurd (omega (arith, none)))

pub ended_none : (n : ℕ) → None ≡ ended n → n ≡ 0
unfolding ended
ended_none zero is = refl
ended_none (suc n) is = absurd (cc is)

module _ (f : List ℕ) where
  by_tests : {z : ℕ} →
      z
      ≡ (when leb (length f) 65535 then when leb 1 (section_count f) then when leb (section_count f) 64 then
      when leb (2 + 8 * section_count f) (length f) then gapless_end f (section_count f) else 0 else 0 else 0 else 0) →
      z ≡ stated_end f
  unfolding stated_end table_right table_end
  by_tests e = simp if_and e

  pub too_long_lem : 65535 < length f → 0 ≡ stated_end f
  too_long_lem a = by_tests (not_so_le _ _ _ _ a refl)

  pub no_section : length f ≤ 65535 → section_count f < 1 → 0 ≡ stated_end f
  no_section a b = by_tests (so_le _ _ _ _ a (not_so_le _ _ _ _ b refl))

  pub too_many : length f ≤ 65535 → 1 ≤ section_count f → 64 < section_count f → 0 ≡ stated_end f
  too_many a b c = by_tests (so_le _ _ _ _ a (so_le _ _ _ _ b (not_so_le _ _ _ _ c refl)))

  module _ (a : length f ≤ 65535) (b : 1 ≤ section_count f) (c : section_count f ≤ 64) where
    pub no_table : length f < 2 + 8 * section_count f → 0 ≡ stated_end f
    no_table d = by_tests (so_le _ _ _ _ a (so_le _ _ _ _ b (so_le _ _ _ _ c (not_so_le _ _ _ _ d refl))))

    pub only_gapless : 2 + 8 * section_count f ≤ length f → gapless_end f (section_count f) ≡ stated_end f
    only_gapless d = by_tests (so_le _ _ _ _ a (so_le _ _ _ _ b (so_le _ _ _ _ c (so_le _ _ _ _ d refl))))

  -- A table that is right ends behind its own bytes.
  pub no_end : stated_end f ≡ 0 → table_right f ≡ false
  unfolding stated_end table_end
  no_end none =
      by_test (table_right f)
      (λ right. absurd (omega (arith, sym (if_true (table_right f) _ _ right) ∙ none, place_below f (section_count f) 0 (omega arith))))
      (λ wrong. wrong)

  module _ (some : stated_end f ≡ 0 → ⊥) where
    pub some_end : (table_right f ≡ true) × (stated_end f ≡ place_of f (section_count f))
    unfolding stated_end
    some_end =
        by_test (table_right f)
        (λ right. (right, if_true (table_right f) _ _ right))
        (λ wrong. absurd (some (if_false (table_right f) _ _ wrong)))

    by_end : contents_right f ≡ (in_fours f (section_count f) && eqb (stated_end f) (length f))
    unfolding contents_right
    by_end =
        and_skip (table_right f) _ some_end.0
        ∙ ap (λ (end : ℕ). in_fours f (section_count f) && eqb end (length f)) (sym some_end.1)

    pub other_end : (stated_end f ≡ length f → ⊥) → false ≡ contents_right f
    other_end other = sym (by_end ∙ and-false (in_fours f (section_count f)) _ (ne_eqb (stated_end f) (length f) other))

    pub own_end : stated_end f ≡ length f → in_fours f (section_count f) ≡ contents_right f
    own_end ends =
        sym (by_end ∙ ap (λ (b : Bool). in_fours f (section_count f) && b) (eq-eqb (stated_end f) (length f) ends) ∙ and-true _)
