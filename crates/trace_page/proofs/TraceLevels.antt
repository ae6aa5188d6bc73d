-- Levels: a section that is played stands higher than the one that plays it, so that eight levels are enough for a right file.
--     played_higher   a section stands above each that plays it
--     plays_up        a right file plays upwards only, from below level 8
--     level_same      levels go by the records of the lower-numbered sections alone
--     stable          what goes by a right file's plays is the same with one level more
-- Assumes nothing.
use Rattle.std.specs.Prelude.{◌+◌, ◌*◌, ◌<◌, ◌≤◌, ◌&&◌, ◌||◌, ◌∷◌, ◌++◌, ◌≡◌}
use Rattle.laws.proofs.Common.{ℕ, zero, suc, Bool, true, false, or-true, List, []}
use Rattle.laws.proofs.Common.{refl, sym, ap, ap₂, ◌∙◌, le_refl, le_trans, arith, leb-true, leb-false, ltb-true}
use Rattle.laws.proofs.Common.{ltb-false, eqb-true, eq-eqb, eqb, leb, ltb, length, length-append, get_or, List·getD-append}
use Rattle.laws.proofs.Common.{when◌then◌else◌, if_keeps, if_true, if_false, clash, by_test, and_left, and_right, and_both}
use Rattle.laws.proofs.Common.{or_rest}
use lib.Seq.{get_or-append_seam}
use Rattle.trace_rules.specs.declared.Entry.{Entry}
use Rattle.trace_rules.specs.Trace.{section_count, entries_of, is_play, plays_any, higher, highest_player, levels_below, section_level, right_record, all_right, all_of, records_right, count_by}
use Rattle.trace_page.proofs.TraceBelow.{each_below}

-- The higher of two is at least each.
higher_left : (a b : ℕ) → a ≤ higher a b
unfolding higher
higher_left a b = if_keeps (λ (k : ℕ). a ≤ k) (leb a b) _ _ (λ e. leb-true a b e) (λ e. le_refl a)

higher_right : (a b : ℕ) → b ≤ higher a b
unfolding higher
higher_right a b = if_keeps (λ (k : ℕ). b ≤ k) (leb a b) _ _ (λ e. le_refl b) (λ e. omega (arith, leb-false a b e))

module _ (s : ℕ → List Entry) where
  -- The levels of the sections below one.
  pub levels_length : (n : ℕ) → length (levels_below s n) ≡ n
  unfolding levels_below
  levels_length zero = refl
  levels_length (suc n) =
      length-append (levels_below s n) _ ∙ ap (λ (k : ℕ). k + 1) (levels_length n) ∙ omega arith

  pub level_below : (n k : ℕ) → k < n → get_or (levels_below s n) k 0 ≡ section_level s k
  unfolding levels_below section_level
  level_below zero k h = absurd (omega arith)
  level_below (suc n) k h =
      by_test (ltb k n)
      (λ below.
      let inside : k < n = ltb-true k n below in
      List·getD-append (levels_below s n) _ 0 k (omega (arith, inside, levels_length n)) ∙ level_below n k inside)
      (λ last.
      let at : k ≡ n = omega (arith, h, ltb-false k n last) in
      ap (λ (i : ℕ). get_or (levels_below s n ++ ((1 + highest_player s (levels_below s n) n n) ∷ [])) i 0) (at ∙ sym (levels_length n))
      ∙ get_or-append_seam (levels_below s n) (1 + highest_player s (levels_below s n) n n) [] 0
      ∙ ap (λ (i : ℕ). 1 + highest_player s (levels_below s i) i i) (sym at))

  -- A player's level is among those looked at.
  player-counts : (levels : List ℕ) (k j n : ℕ) → j < n → plays_any (s j) k ≡ true →
      get_or levels j 0 ≤ highest_player s levels k n
  unfolding highest_player
  player-counts levels k j zero h plays = absurd (omega arith)
  player-counts levels k j (suc n) h plays =
      by_test (ltb j n)
      (λ below.
      le_trans (player-counts levels k j n (ltb-true j n below) plays) (higher_left (highest_player s levels k n) _))
      (λ last.
      let at : j ≡ n = omega (arith, h, ltb-false j n last) in
      le_trans
      (omega (
        arith,
        ap (λ (i : ℕ). get_or levels i 0) at,
        if_true (plays_any (s n) k) (get_or levels n 0) 0 (ap (λ (i : ℕ). plays_any (s i) k) (sym at) ∙ plays),
      ))
      (higher_right (highest_player s levels k n) (when plays_any (s n) k then get_or levels n 0 else 0)))

  -- A section that is played stands higher.
  pub played_higher : (j k : ℕ) → j < k → plays_any (s j) k ≡ true → section_level s j + 1 ≤ section_level s k
  unfolding section_level
  played_higher j k h plays =
      let counts : get_or (levels_below s k) j 0 ≤ highest_player s (levels_below s k) k k =
      player-counts (levels_below s k) k j k h plays in
      omega (arith, counts, level_below k j h)

  pub level_least : (k : ℕ) → 1 ≤ section_level s k
  unfolding section_level
  level_least k = omega arith

-- A play record that is right names a higher-numbered section that exists, and stands below level 8.
pub play_right : (count level k : ℕ) (e : Entry) → is_play e ≡ true →
    right_record count level k e ≡ (ltb k e.argument && (ltb e.argument count && ltb level 8))
unfolding right_record is_play when◌then◌else◌
play_right count level k e play =
    ap (λ (n : ℕ). right_record count level k (record { kind = n; argument = e.argument; value = e.value }))
    (eqb-true e.kind 5 play)

pub record PlaysUp (count level k j : ℕ) : Type 0 where
  pub up : k < j
  pub there : j < count
  pub below : level < 8

all_plays : (count level k j : ℕ) (es : List Entry) → all_right count level k es ≡ true → plays_any es j ≡ true → PlaysUp count level k j
unfolding all_right plays_any
all_plays count level k j [] right plays = clash false plays refl
all_plays count level k j (e ∷ es) right plays =
    by_test (is_play e && eqb e.argument j)
    (λ this.
    let named : e.argument ≡ j = eqb-true e.argument j (and_right (is_play e) _ this) in
    let is = sym (play_right count level k e (and_left (is_play e) _ this)) ∙ and_left (right_record count level k e) _ right in
    let up : k < e.argument = ltb-true k e.argument (and_left (ltb k e.argument) _ is) in
    let rest = and_right (ltb k e.argument) _ is in
    let there : e.argument < count = ltb-true e.argument count (and_left (ltb e.argument count) _ rest) in
    record {
      up = omega (arith, up, named);
      there = omega (arith, there, named);
      below = ltb-true level 8 (and_right (ltb e.argument count) _ rest);
    })
    (λ other.
    all_plays count level k j es (and_right (right_record count level k e) _ right) (or_rest (is_play e && eqb e.argument j) _ plays other))

-- The records of each section of a right file are right.
pub section_right_lem : (f : List ℕ) → records_right f ≡ true → (k : ℕ) → k < section_count f → all_of f k (entries_of f k) ≡ true
unfolding records_right
section_right_lem f right = each_below (λ j. all_of f j (entries_of f j)) (section_count f) right

-- Levels go by the records of the lower-numbered sections alone.
highest_same : (a b : ℕ → List Entry) (levels : List ℕ) (k n : ℕ) → ((j : ℕ) → j < n → a j ≡ b j) →
    highest_player a levels k n ≡ highest_player b levels k n
unfolding highest_player
highest_same a b levels k zero same = refl
highest_same a b levels k (suc n) same =
    cc (highest_same a b levels k n (λ j h. same j (omega arith)), same n (omega arith))

levels_same : (a b : ℕ → List Entry) (n : ℕ) → ((j : ℕ) → j < n → a j ≡ b j) → levels_below a n ≡ levels_below b n
unfolding levels_below
levels_same a b zero same = refl
levels_same a b (suc n) same =
    let before : levels_below a n ≡ levels_below b n = levels_same a b n (λ j h. same j (omega arith)) in
    let this : highest_player a (levels_below a n) n n ≡ highest_player b (levels_below a n) n n =
    highest_same a b (levels_below a n) n n (λ j h. same j (omega arith)) in
    cc

pub level_same : (a b : ℕ → List Entry) (k : ℕ) → ((j : ℕ) → j < k → a j ≡ b j) → section_level a k ≡ section_level b k
unfolding section_level
level_same a b k same =
    let before : levels_below a k ≡ levels_below b k = levels_same a b k same in
    let this : highest_player a (levels_below a k) k k ≡ highest_player b (levels_below a k) k k = highest_same a b (levels_below a k) k k same in
    cc

module _ (f : List ℕ) (right : records_right f ≡ true) where
  pub plays_up : (k j : ℕ) → k < section_count f → plays_any (entries_of f k) j ≡ true → PlaysUp (section_count f) (section_level (entries_of f) k) k j
  plays_up k j h plays =
      all_plays (section_count f) (section_level (entries_of f) k) k j (entries_of f k) (section_right_lem f right k h) plays

  -- What goes by a section's records, and by itself at the sections that they play with one level fewer, is the same with one
  -- level more, once the levels left reach to level 8.
  module _ {X : Type 0} (by : (ℕ → X) → List Entry → X)
      (same : (a b : ℕ → X) (es : List Entry) → ((j : ℕ) → plays_any es j ≡ true → a j ≡ b j) → by a es ≡ by b es)
      (g : ℕ → ℕ → X) (step : (l k : ℕ) → g (suc l) k ≡ by (g l) (entries_of f k)) where
    pub stable : (l k : ℕ) → k < section_count f → 8 ≤ l + section_level (entries_of f) k → g (suc (suc l)) k ≡ g (suc l) k
    stable zero k h reach =
        step 1 k
        ∙ same (g 1) (g 0) (entries_of f k) (λ j plays. absurd (omega (arith, reach, (plays_up k j h plays).below)))
        ∙ sym (step 0 k)
    stable (suc l) k h reach =
        step (suc (suc l)) k
        ∙ same (g (suc (suc l))) (g (suc l)) (entries_of f k)
        (λ j plays.
        let p : PlaysUp (section_count f) (section_level (entries_of f) k) k j = plays_up k j h plays in
        stable l j p.there (omega (arith, reach, played_higher (entries_of f) k j p.up plays)))
        ∙ sym (step (suc l) k)

-- Counts are such.
pub counts_same : (a b : ℕ → ℕ) (es : List Entry) → ((j : ℕ) → plays_any es j ≡ true → a j ≡ b j) → count_by a es ≡ count_by b es
unfolding count_by plays_any
counts_same a b [] h = refl
counts_same a b (e ∷ es) h =
    ap₂ (λ (x y : ℕ). x + y)
    (by_test (is_play e)
    (λ play.
    ap (λ (k : ℕ). when is_play e then e.value * (1 + k) else 1)
    (h e.argument
    (ap (λ (x : Bool). x || plays_any es e.argument) (and_both (is_play e) _ play (eq-eqb e.argument e.argument refl)))))
    (λ call. if_false (is_play e) _ _ call ∙ sym (if_false (is_play e) _ _ call)))
    (counts_same a b es (λ j plays. h j (ap (λ (x : Bool). (is_play e && eqb e.argument j) || x) plays ∙ or-true (is_play e && eqb e.argument j))))
