-- The demands of specs/RateDemands.antt, all of them.
--     rate_demands
--     best_next, best_all   the walk over the settings, at one and behind the last
-- Assumes nothing.
use Rattle.std.specs.Prelude.{◌+◌, ◌-◌, ◌*◌, ◌/◌, ◌%◌, ◌≤◌, ◌<◌, ◌&&◌, ◌∷◌, ◌≡◌}
use Rattle.laws.proofs.Common.{ℕ, zero, suc, true, [], refl, sym}
use Rattle.laws.proofs.Common.{ap, ◌∙◌, subst, mul-le-mul, mul-le-mul_left, le_of_eq, le_trans, arith, leb-true, ltb-true}
use Rattle.laws.proofs.Common.{ltb-false, le-leb, eqb-true, eqb-false, eq-eqb, ne_eqb, eqb, ltb, lit≤, lit<, get_or}
use Rattle.laws.proofs.Common.{if_true, if_false, if_keeps, by_test, and_left, and_right, and_rest}
use Rattle.clock_rules.specs.Clock.{quartered, primary_of, secondary_of}
use Rattle.clock_rate_rules.specs.Rate.{divider_at, fits, to_beat, better, best_of, in_con1, prescalers_for}
use Rattle.clock_rate_rules.specs.RateDemands.{tabled, RateDemands}

-- ---- the dividers

-- A primary by its table, from 1 to 64.
primary_tabled : (p : ℕ) → p < 4 → (primary_of p ≡ get_or (64 ∷ 16 ∷ 4 ∷ 1 ∷ []) p 0) × (primary_of p ≤ 64)
unfolding primary_of quartered
primary_tabled zero h = (refl, lit≤ tt)
primary_tabled (suc zero) h = (refl, lit≤ tt)
primary_tabled (suc (suc zero)) h = (refl, lit≤ tt)
primary_tabled (suc (suc (suc zero))) h = (refl, lit≤ tt)
primary_tabled (suc (suc (suc (suc p)))) h = absurd (omega arith)

-- No divider is above 512.
at_most_512 : (k : ℕ) → k < 32 → divider_at k ≤ 512
unfolding divider_at secondary_of
at_most_512 k h =
    mul-le-mul {n₂ = 64} {m₂ = 8} (primary_tabled (k / 8) (omega arith)).1 (omega arith)

-- PPRE in CON1's bits.
its_ppre : (k : ℕ) → k < 32 → (k % 8 * 4 + k / 8) % 4 ≡ k / 8
its_ppre k h = omega arith

-- A setting in CON1's bits divides by what the table says, and each of the bits' settings is one of the numbers.
con1_divides : (k : ℕ) → k < 32 → divider_at k ≡ tabled (k % 8 * 4 + k / 8)
unfolding divider_at secondary_of
con1_divides k h =
    let low = its_ppre k h in
    let above : (k % 8 * 4 + k / 8) / 4 ≡ k % 8 = omega arith in
    let cut : k % 8 % 8 ≡ k % 8 = omega arith in
    let high : 8 - (k % 8 * 4 + k / 8) / 4 ≡ 8 - k % 8 % 8 = ap (λ (x : ℕ). 8 - x) (above ∙ sym cut) in
    ap (λ (x : ℕ). x * (8 - k % 8 % 8)) (primary_tabled (k / 8) (omega arith)).0
    ∙ ap (λ (p : ℕ). get_or (64 ∷ 16 ∷ 4 ∷ 1 ∷ []) p 0 * (8 - k % 8 % 8)) (sym low)
    ∙ ap (λ (s : ℕ). get_or (64 ∷ 16 ∷ 4 ∷ 1 ∷ []) ((k % 8 * 4 + k / 8) % 4) 0 * s) (sym high)

-- ---- the best of so many settings

-- What is found among the settings below a number is none or one that fits, and none that fits divides less, or as much and comes
-- before it.
record Best (f wanted n found : ℕ) : Type 0 where
  one : (found ≡ 32 → ⊥) → (found < n) × (fits f wanted found ≡ true)
  least : (k : ℕ) → k < n → fits f wanted k ≡ true → to_beat found ≤ divider_at k
  first : (k : ℕ) → k < n → fits f wanted k ≡ true → to_beat found ≡ divider_at k → found ≤ k

none_to_beat : (found : ℕ) → found ≡ 32 → to_beat found ≡ 513
unfolding to_beat
none_to_beat found e = if_true (eqb found 32) _ _ (eq-eqb _ _ e)

one_to_beat : (found : ℕ) → (found ≡ 32 → ⊥) → to_beat found ≡ divider_at found
unfolding to_beat
one_to_beat found some = if_false (eqb found 32) _ _ (ne_eqb _ _ some)

-- Where something fits, something is found.
is_found : (f wanted n found k : ℕ) → Best f wanted n found → k < n → n < 32 → fits f wanted k ≡ true → found ≡ 32 → ⊥
is_found f wanted n found k h under few fit e =
    let most = at_most_512 k (omega arith) in
    let beaten = h.least k under fit in
    let beats = none_to_beat found e in
    omega arith

-- One setting more, which is better or is not.
takes_it : (f wanted n found : ℕ) → Best f wanted n found → n < 31 → fits f wanted n ≡ true → divider_at n < to_beat found →
    Best f wanted (suc n) n
takes_it f wanted n found h few fit less =
    let itself : to_beat n ≡ divider_at n = one_to_beat n (λ e. omega arith) in
    record {
      one = λ some. (omega arith, fit);
      least = λ k under also.
          by_test (ltb k n)
          (λ e. let under' = ltb-true k n e in let before = h.least k under' also in omega arith)
          (λ e. let over = ltb-false k n e in let same : k ≡ n = omega arith in le_of_eq (itself ∙ ap divider_at (sym same)));
      first = λ k under also alike.
          by_test (ltb k n)
          (λ e. let under' = ltb-true k n e in let before = h.least k under' also in absurd (omega arith))
          (λ e. ltb-false k n e);
    }

leaves_it : (f wanted n found : ℕ) → Best f wanted n found → n < 31 → (fits f wanted n ≡ true → to_beat found ≤ divider_at n) →
    Best f wanted (suc n) found
leaves_it f wanted n found h few beaten =
    record {
      one = λ some. let x = h.one some in let under = x.0 in (omega arith, x.1);
      least = λ k under also.
          by_test (ltb k n)
          (λ e. h.least k (ltb-true k n e) also)
          (λ e.
          let over = ltb-false k n e in
          let same : k ≡ n = omega arith in
          subst (λ (x : ℕ). to_beat found ≤ divider_at x) (sym same) (beaten (subst (λ (x : ℕ). fits f wanted x ≡ true) same also)));
      first = λ k under also alike.
          by_test (ltb k n)
          (λ e. h.first k (ltb-true k n e) also alike)
          (λ e.
          let over = ltb-false k n e in
          by_test (eqb found 32)
          (λ e'.
          let beats = none_to_beat found (eqb-true _ _ e') in
          let most = at_most_512 k (omega arith) in
          absurd (omega arith))
          (λ e'. let under'' = (h.one (eqb-false _ _ e')).0 in omega arith));
    }

best_of_lem : (f wanted n : ℕ) → n ≤ 31 → Best f wanted n (best_of f wanted n)
unfolding best_of better
best_of_lem f wanted zero few =
    record {
      one = λ some. absurd (some refl);
      least = λ k under also. absurd (omega arith);
      first = λ k under also alike. absurd (omega arith);
    }
best_of_lem f wanted (suc n) few =
    let found = best_of f wanted n in
    let h = best_of_lem f wanted n (omega arith) in
    let fewer : n < 31 = omega arith in
    if_keeps
    (Best f wanted (suc n))
    (fits f wanted n && ltb (divider_at n) (to_beat found))
    n
    found
    (λ e. takes_it f wanted n found h fewer (and_left (fits f wanted n) _ e) (ltb-true _ _ (and_right (fits f wanted n) _ e)))
    (λ e. leaves_it f wanted n found h fewer (λ fit. ltb-false _ _ (and_rest (fits f wanted n) _ e fit)))

-- At a setting, and behind the last.
pub best_next : (f wanted k found r : ℕ) → found ≡ best_of f wanted k → r ≡ better f wanted k found → r ≡ best_of f wanted (k + 1)
unfolding best_of
best_next f wanted k found r e h =
    let after : suc k ≡ k + 1 = omega arith in
    h ∙ ap (better f wanted k) e ∙ ap (best_of f wanted) after

pub best_all : (f wanted k found r : ℕ) → k ≤ 31 → 31 ≤ k → found ≡ best_of f wanted k → r ≡ in_con1 found →
    r ≡ prescalers_for f wanted
unfolding prescalers_for
best_all f wanted k found r most least e h =
    let last : k ≡ 31 = omega arith in
    h ∙ ap in_con1 (e ∙ ap (best_of f wanted) last)

-- ---- the demands

best_31 : (f wanted : ℕ) → Best f wanted 31 (best_of f wanted 31)
best_31 f wanted = best_of_lem f wanted 31 (lit≤ tt)

does_fit : (f wanted k d : ℕ) → divider_at k ≡ d → f ≤ wanted * d → fits f wanted k ≡ true
unfolding fits
does_fit f wanted k d e h = le-leb f (wanted * divider_at k) (subst (λ (x : ℕ). f ≤ wanted * x) (sym e) h)

fits_below : (f wanted k : ℕ) → fits f wanted k ≡ true → f ≤ wanted * divider_at k
unfolding fits
fits_below f wanted k e = leb-true _ _ e

slowest : divider_at 0 ≡ 512
unfolding divider_at primary_of secondary_of quartered
slowest = refl

-- A setting that fits, in CON1's bits, as a number.
numbered : ℕ → ℕ
numbered c = c % 4 * 8 + c / 4

numbered_divides : (c : ℕ) → c < 31 → (numbered c < 31) × (divider_at (numbered c) ≡ tabled c)
unfolding numbered
numbered_divides c h =
    let back : (c % 4 * 8 + c / 4) % 8 * 4 + (c % 4 * 8 + c / 4) / 8 ≡ c = omega arith in
    (omega arith, con1_divides (numbered c) (omega arith) ∙ ap tabled back)

-- Where something is found, the answer is it.
answer_is : (f wanted : ℕ) → (best_of f wanted 31 ≡ 32 → ⊥) →
    let b = best_of f wanted 31 in
    (prescalers_for f wanted ≡ b % 8 * 4 + b / 8) × (b < 31) × (divider_at b ≡ tabled (prescalers_for f wanted)) × (to_beat b ≡ divider_at b)
unfolding prescalers_for in_con1
answer_is f wanted some =
    let b = best_of f wanted 31 in
    let under : b < 31 = ((best_31 f wanted).one some).0 in
    let said : prescalers_for f wanted ≡ b % 8 * 4 + b / 8 = if_false (eqb b 32) _ _ (ne_eqb _ _ some) in
    (said, under, con1_divides b (omega arith) ∙ ap tabled (sym said), one_to_beat b some)

found_if : (f wanted : ℕ) → f ≤ wanted * 512 → best_of f wanted 31 ≡ 32 → ⊥
found_if f wanted h = is_found f wanted 31 _ 0 (best_31 f wanted) (lit< tt) (lit< tt) (does_fit f wanted 0 512 slowest h)

is_none : (f wanted : ℕ) → wanted * 512 < f → prescalers_for f wanted ≡ 32
unfolding prescalers_for in_con1
is_none f wanted h =
    let b = best_of f wanted 31 in
    by_test (eqb b 32)
    (λ e. if_true (eqb b 32) _ _ e)
    (λ e.
    let x = (best_31 f wanted).one (eqb-false _ _ e) in
    let under = x.0 in
    let below = le_trans (fits_below f wanted b x.1) (mul-le-mul_left wanted (at_most_512 b (omega arith))) in
    absurd (omega arith))

is_some : (f wanted : ℕ) → f ≤ wanted * 512 → prescalers_for f wanted < 31
is_some f wanted h =
    let b = best_of f wanted 31 in
    let x = answer_is f wanted (found_if f wanted h) in
    let said = x.0 in
    let under = x.1 in
    omega arith

is_within : (f wanted : ℕ) → f ≤ wanted * 512 → f ≤ wanted * tabled (prescalers_for f wanted)
is_within f wanted h =
    let b = best_of f wanted 31 in
    let some = found_if f wanted h in
    subst (λ (x : ℕ). f ≤ wanted * x) (answer_is f wanted some).2 (fits_below f wanted b ((best_31 f wanted).one some).1)

is_highest : (f wanted c : ℕ) → c < 31 → f ≤ wanted * tabled c → tabled (prescalers_for f wanted) ≤ tabled c
is_highest f wanted c few h =
    let n = numbered_divides c few in
    let fit = does_fit f wanted (numbered c) (tabled c) n.1 h in
    let some = is_found f wanted 31 _ (numbered c) (best_31 f wanted) n.0 (lit< tt) fit in
    let x = answer_is f wanted some in
    let least = (best_31 f wanted).least (numbered c) n.0 fit in
    let found = x.2 in
    let beat = x.3 in
    let is = n.1 in
    omega arith

-- A number that is no greater has no greater PPRE.
no_later : (k c : ℕ) → c < 31 → k ≤ c % 4 * 8 + c / 4 → k / 8 ≤ c % 4
no_later k c few h = omega arith

is_smallest : (f wanted c : ℕ) → c < 31 → f ≤ wanted * tabled c → tabled (prescalers_for f wanted) ≡ tabled c →
    prescalers_for f wanted % 4 ≤ c % 4
unfolding numbered
is_smallest f wanted c few h alike =
    let b = best_of f wanted 31 in
    let n = numbered_divides c few in
    let fit = does_fit f wanted (numbered c) (tabled c) n.1 h in
    let some = is_found f wanted 31 _ (numbered c) (best_31 f wanted) n.0 (lit< tt) fit in
    let x = answer_is f wanted some in
    let before : b ≤ c % 4 * 8 + c / 4 =
    (best_31 f wanted).first (numbered c) n.0 fit (x.3 ∙ x.2 ∙ alike ∙ sym n.1) in
    le_trans (le_of_eq (ap (λ (a : ℕ). a % 4) x.0 ∙ its_ppre b (let under = x.1 in omega arith))) (no_later b c few before)

pub rate_demands : RateDemands
rate_demands =
    record {
      none = is_none;
      some = is_some;
      within = is_within;
      highest = is_highest;
      smallest = is_smallest;
    }
