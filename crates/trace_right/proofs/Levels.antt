-- Levels, record by record.
--     levels_first_lem, levels_next   before any section, and behind one more
--     Looking                     what holds of the loop over a section's records
--     looking_first, looking_on, looking_same, looking_wrong, looking_ends
--     play_low                    a right play record stands below level 8
--     record_right_lem                each record of a right file is right
-- Assumes nothing.
use Rattle.std.specs.Prelude.{◌+◌, ◌*◌, ◌-◌, ◌/◌, ◌%◌, ◌<◌, ◌≤◌, ◌&&◌, ◌||◌, ◌∷◌, ◌++◌, ◌≡◌}
use Rattle.laws.proofs.Common.{ℕ, zero, suc, Bool, true, false, List, []}
use Rattle.laws.proofs.Common.{refl, sym, ap, ap₂, subst, ◌∙◌, arith, ltb-true, leb-true, leb-false, eq-eqb, ne_eqb, eqb}
use Rattle.laws.proofs.Common.{leb, ltb, length, get_or, set, length-set, List·getD-append, replicate, length-replicate}
use Rattle.laws.proofs.Common.{get_or-replicate, when◌then◌else◌, so, not_so, so_eq, not_so_eq, if_keeps, if_true, if_false}
use Rattle.laws.proofs.Common.{by_test, and_left, and_right, and_both, and_first, and-false}
use Prim.Native.Nat.{max}
use lib.Seq.{set-get_or}
use Rattle.trace_rules.specs.declared.Entry.{Entry}
use Rattle.trace_rules.specs.Trace.{section_count, start_of, size_of, contents_right, entries_of, is_play, plays_any, higher, highest_player, levels_below, section_level, right_record, right_of, all_right, all_of, records_right}
use Rattle.trace_page.proofs.TraceLevels.{levels_length, level_below, play_right, section_right_lem}
use Rattle.trace_numbers.specs.Places.{entry_at, entries_at}
use Rattle.trace_right.specs.Levels.{raised_one, raised_by, LevelsAt}
use Rattle.trace_numbers.proofs.Records.{entries_more, entries_none, section_at}
use Rattle.trace_numbers.proofs.Tables.{set_each}
use Rattle.trace_right.proofs.Contents.{and_skip}

-- The higher of two.
higher_is : (a b : ℕ) → higher a b ≡ max a b
unfolding higher
higher_is a b =
    by_test (leb a b)
    (λ low. if_true (leb a b) b a low ∙ omega (arith, leb-true a b low))
    (λ high. if_false (leb a b) b a high ∙ omega (arith, leb-false a b high))

-- What one record does to the levels: it raises the section that it plays, and no other.
module _ (level : ℕ) (ls : List ℕ) (e : Entry) where
  pub raised_call : (e.kind ≡ 5 → ⊥) → ls ≡ raised_one level ls e
  unfolding raised_one is_play
  raised_call h = not_so_eq e.kind 5 _ _ h refl

  pub raised_kept : level < get_or ls e.argument 0 → ls ≡ raised_one level ls e
  unfolding raised_one
  raised_kept h =
      if_keeps (λ (l : List ℕ). ls ≡ l) (is_play e) _ _
      (λ play.
      sym (set-get_or ls e.argument 0)
      ∙ ap (set ls e.argument) (omega (arith, higher_is (get_or ls e.argument 0) (level + 1))))
      (λ call. refl)

  pub raised_new : e.kind ≡ 5 → get_or ls e.argument 0 ≤ level → set ls e.argument (level + 1) ≡ raised_one level ls e
  unfolding raised_one is_play
  raised_new play h =
      so_eq e.kind 5 _ _ play (ap (set ls e.argument) (omega (arith, higher_is (get_or ls e.argument 0) (level + 1))))

  one_length : length (raised_one level ls e) ≡ length ls
  unfolding raised_one
  one_length = if_keeps (λ (l : List ℕ). length l ≡ length ls) (is_play e) _ _ (λ play. length-set ls e.argument _) (λ call. refl)

  one_at : (j : ℕ) → j < length ls →
      get_or (raised_one level ls e) j 0 ≡ (when is_play e && eqb e.argument j then higher (get_or ls j 0) (level + 1) else get_or ls j 0)
  unfolding raised_one
  one_at j h =
      if_keeps
      (λ (l : List ℕ). get_or l j 0 ≡ (when is_play e && eqb e.argument j then higher (get_or ls j 0) (level + 1) else get_or ls j 0))
      (is_play e) _ _
      (λ play.
      set_each (λ (i m : ℕ). m ≡ (when is_play e && eqb e.argument i then higher (get_or ls i 0) (level + 1) else get_or ls i 0)) ls
      e.argument _
      (so _ _ _ (and_both (is_play e) _ play (eq-eqb e.argument e.argument refl)) refl)
      (λ i other. not_so _ _ _ (and-false (is_play e) _ (ne_eqb e.argument i (λ same. other (sym same)))) refl)
      j h)
      (λ call. not_so _ _ _ (and_first (is_play e) _ call) refl)

-- Raised twice by one level is raised once.
twice : (x y : Bool) (a b : ℕ) →
    (when y then higher (when x then higher a b else a) b else (when x then higher a b else a)) ≡ (when x || y then higher a b else a)
unfolding when◌then◌else◌
twice true true a b = omega (arith, higher_is a b, higher_is (higher a b) b)
twice true false a b = refl
twice false true a b = refl
twice false false a b = refl

-- Records raise the sections that any of them plays.
raised_length : (level : ℕ) (ls : List ℕ) (es : List Entry) → length (raised_by level ls es) ≡ length ls
unfolding raised_by
raised_length level ls [] = refl
raised_length level ls (e ∷ es) = raised_length level (raised_one level ls e) es ∙ one_length level ls e

raised_at : (level : ℕ) (ls : List ℕ) (es : List Entry) (j : ℕ) → j < length ls →
    get_or (raised_by level ls es) j 0 ≡ (when plays_any es j then higher (get_or ls j 0) (level + 1) else get_or ls j 0)
unfolding raised_by plays_any
raised_at level ls [] j h = sym (if_false false _ _ refl)
raised_at level ls (e ∷ es) j h =
    raised_at level (raised_one level ls e) es j (omega (arith, one_length level ls e))
    ∙ ap (λ (x : ℕ). when plays_any es j then higher x (level + 1) else x) (one_at level ls e j h)
    ∙ twice (is_play e && eqb e.argument j) (plays_any es j) (get_or ls j 0) (level + 1)

-- One above the highest player, with one more that may play.
above : (b : Bool) (x y : ℕ) → 1 + higher x (when b then y else 0) ≡ (when b then higher (1 + x) (y + 1) else 1 + x)
unfolding when◌then◌else◌
above true x y = omega (arith, higher_is x y, higher_is (1 + x) (y + 1))
above false x y = omega (arith, higher_is x 0)

module _ (s : ℕ → List Entry) where
  -- Levels behind those looked at do not count.
  players_same : (ls more : List ℕ) (j n : ℕ) → n ≤ length ls → highest_player s (ls ++ more) j n ≡ highest_player s ls j n
  unfolding highest_player
  players_same ls more j zero h = refl
  players_same ls more j (suc n) h =
      ap₂ (λ (a b : ℕ). higher a (when plays_any (s n) j then b else 0))
      (players_same ls more j n (omega arith))
      (List·getD-append ls more 0 n (omega arith))

  -- One section more.
  player-next : (k j : ℕ) →
      1 + highest_player s (levels_below s (suc k)) j (suc k)
      ≡ (when plays_any (s k) j then higher (1 + highest_player s (levels_below s k) j k) (section_level s k + 1)
      else 1 + highest_player s (levels_below s k) j k)
  unfolding highest_player levels_below
  player-next k j =
      ap₂ (λ (x y : ℕ). 1 + higher x (when plays_any (s k) j then y else 0))
      (players_same (levels_below s k) _ j k (omega (arith, levels_length s k)))
      (level_below s (suc k) k (omega arith))
      ∙ above (plays_any (s k) j) (highest_player s (levels_below s k) j k) (section_level s k)

  pub levels_first_lem : LevelsAt s 0 (replicate 256 1)
  unfolding highest_player levels_below
  levels_first_lem = record { all = length-replicate {A = ℕ} 256 1; each = λ j h. get_or-replicate {A = ℕ} 256 j 1 0 h }

  pub levels_next : (k : ℕ) (ls : List ℕ) → LevelsAt s k ls → LevelsAt s (k + 1) (raised_by (section_level s k) ls (s k))
  levels_next k ls at =
      record {
        all = raised_length (section_level s k) ls (s k) ∙ at.all;
        each = λ j h.
            raised_at (section_level s k) ls (s k) j (omega (arith, at.all))
            ∙ ap (λ (x : ℕ). when plays_any (s k) j then higher x (section_level s k + 1) else x) (at.each j h)
            ∙ sym (player-next k j)
            ∙ ap (λ (i : ℕ). 1 + highest_player s (levels_below s i) j i) (let same : suc k ≡ k + 1 = omega arith in same);
      }

  -- A section's own level.
  pub level_here : (k : ℕ) (ls : List ℕ) → LevelsAt s k ls → k < 256 → get_or ls k 0 ≡ section_level s k
  unfolding section_level
  level_here k ls at h = at.each k h

-- What holds of the loop over a section's records: those left decide, and with the levels so far they give the levels behind the section.
pub record Looking (f : List ℕ) (k level : ℕ) (first levels : List ℕ) (at left : ℕ) : Type 0 where
  pub levelled : level ≡ section_level (entries_of f) k
  pub inside : at + 4 * left ≤ length f
  pub decides : all_of f k (entries_of f k) ≡ all_of f k (entries_at f left at)
  pub raises : raised_by level first (entries_of f k) ≡ raised_by level levels (entries_at f left at)

pub looking_first : {f first : List ℕ} {k level at left : ℕ} → contents_right f ≡ true → k < section_count f →
    level ≡ section_level (entries_of f) k → at ≡ start_of f k % 65536 → left ≡ size_of f k / 4 % 65536 →
    Looking f k level first first at left
looking_first {f} {first} {k} {level} contents h is starts counts =
    let s = section_at f contents k h in
    let are = s.are ∙ ap₂ (entries_at f) (sym counts) (sym starts) in
    record {
      levelled = is;
      inside = omega (arith, s.inside, starts, counts);
      decides = ap (all_of f k) are;
      raises = ap (raised_by level first) are;
    }

module _ {f first levels : List ℕ} {k level at left : ℕ} (g : Looking f k level first levels at left) where
  pub looking_ends : left ≤ 0 →
      (true ≡ all_of f k (entries_of f k)) × (levels ≡ raised_by (section_level (entries_of f) k) first (entries_of f k))
  unfolding all_right raised_by
  looking_ends h =
      let none = entries_none f left at h in (
        sym (g.decides ∙ ap (all_of f k) none),
        sym (ap (λ (l : ℕ). raised_by l first (entries_of f k)) (sym g.levelled) ∙ g.raises ∙ ap (raised_by level levels) none),
      )

  -- The next record, whether it is right, and the levels behind it.
  module _ {e : Entry} {r : Bool} {next : List ℕ} (more : 0 < left) (reads : e ≡ entry_at f at)
      (is : r ≡ right_record (section_count f) level k e) (after : next ≡ (when r then raised_one level levels e else levels)) where
    here : entries_at f left at ≡ e ∷ entries_at f (left - 1) (at + 4)
    here = entries_more f left at more ∙ ap (λ (x : Entry). x ∷ entries_at f (left - 1) (at + 4)) (sym reads)

    right-here : right_of f k e ≡ r
    right-here = ap (λ (l : ℕ). right_record (section_count f) l k e) (sym g.levelled) ∙ sym is

    pub looking_wrong : r ≡ false → false ≡ all_of f k (entries_of f k)
    unfolding all_right
    looking_wrong wrong = sym (g.decides ∙ ap (all_of f k) here ∙ and_first (right_of f k e) _ (right-here ∙ wrong))

    pub looking_on : r ≡ true → Looking f k level first next (at + 4) (left - 1)
    unfolding all_right raised_by
    looking_on right =
        record {
          levelled = g.levelled;
          inside = omega (arith, g.inside);
          decides = g.decides ∙ ap (all_of f k) here ∙ and_skip (right_of f k e) _ (right-here ∙ right);
          raises =
              g.raises
              ∙ ap (raised_by level levels) here
              ∙ ap (λ (l : List ℕ). raised_by level l (entries_at f (left - 1) (at + 4))) (sym (after ∙ if_true r _ _ right));
        }

-- The same place and number of records, in other words.
pub looking_same : {f first levels : List ℕ} {k level at left place more : ℕ} → Looking f k level first levels at left → at ≡ place →
    left ≡ more → Looking f k level first levels place more
looking_same {f} {first} {levels} {k} {level} {at} {left} {place} {more} g here few =
    subst (λ (j : ℕ). Looking f k level first levels place j) few (subst (λ (i : ℕ). Looking f k level first levels i left) here g)

-- A right play record stands below level 8.
pub play_low : (count level k : ℕ) (e : Entry) → right_record count level k e ≡ true → is_play e ≡ true → level < 8
play_low count level k e right play =
    let is = sym (play_right count level k e play) ∙ right in
    ltb-true level 8 (and_right (ltb e.argument count) _ (and_right (ltb k e.argument) _ is))

-- Each of so many right records is right.
right_one : (f : List ℕ) (k n at i : ℕ) → all_of f k (entries_at f n at) ≡ true → i < n → right_of f k (entry_at f (at + 4 * i)) ≡ true
unfolding all_right entries_at
right_one f k zero at i right h = absurd (omega arith)
right_one f k (suc n) at zero right h =
    ap (λ (j : ℕ). right_of f k (entry_at f j)) (let same : at + 4 * 0 ≡ at = omega arith in same)
    ∙ and_left (right_of f k (entry_at f at)) _ right
right_one f k (suc n) at (suc i) right h =
    ap (λ (j : ℕ). right_of f k (entry_at f j)) (let same : at + 4 * suc i ≡ at + 4 + 4 * i = omega arith in same)
    ∙ right_one f k n (at + 4) i (and_right (right_of f k (entry_at f at)) _ right) (omega arith)

-- Each record of a right file is right.
pub record_right_lem : (f : List ℕ) → contents_right f ≡ true → records_right f ≡ true → (k : ℕ) → k < section_count f →
    (i : ℕ) → i < size_of f k / 4 % 65536 → right_of f k (entry_at f (start_of f k % 65536 + 4 * i)) ≡ true
record_right_lem f contents right k h i below =
    right_one f k (size_of f k / 4 % 65536) (start_of f k % 65536) i
    (ap (all_of f k) (sym (section_at f contents k h).are)
    ∙ section_right_lem f right k h)
    below
