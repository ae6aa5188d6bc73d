-- Levels, as the relation of the page.
--     levels_hold   the levels of the rules are such
--     one_level_lem     there are no others
-- Assumes nothing.
use Rattle.std.specs.Prelude.{◌+◌, ◌<◌, ◌≤◌, ◌&&◌, ◌||◌, ◌∷◌, ◌≡◌}
use Rattle.laws.proofs.Common.{ℕ, zero, suc, Bool, true, false, List, [], refl, sym, ap}
use Rattle.laws.proofs.Common.{arith, eqb-true, eq-eqb, eqb, leb, get_or, when◌then◌else◌, if_keeps, clash, by_test, and_left}
use Rattle.laws.proofs.Common.{and_right, and_both, or_rest}
use Rattle.trace_rules.specs.declared.Entry.{Entry}
use Rattle.trace_rules.specs.Trace.{is_play, plays_any, higher, highest_player, levels_below, section_level}
use Rattle.trace_rules.specs.TraceDemands.{Plays, here, later, LevelFrom, first, next, Levels}
use Rattle.trace_page.proofs.TraceLevels.{level_below, played_higher}
use Rattle.trace_page.proofs.TraceRight.{with_fields}

-- Plays.
plays_in : (k : ℕ) (es : List Entry) → plays_any es k ≡ true → Plays k es
unfolding plays_any is_play
plays_in k [] plays = clash false plays refl
plays_in k (e ∷ es) plays =
    by_test (eqb e.kind 5 && eqb e.argument k)
    (λ this.
    here e.value
    (with_fields e 5 k e.value (eqb-true e.kind 5 (and_left (eqb e.kind 5) _ this))
    (eqb-true e.argument k (and_right (eqb e.kind 5) _ this)) refl))
    (λ other. later (plays_in k es (or_rest (eqb e.kind 5 && eqb e.argument k) _ plays other)))

pub or_second : (a b : Bool) → b ≡ true → (a || b) ≡ true
or_second true b e = refl
or_second false b e = e

pub in_plays : (k : ℕ) (es : List Entry) → Plays k es → plays_any es k ≡ true
unfolding plays_any is_play
in_plays k [] p = elim p [ ]
in_plays k (e ∷ es) (here v is) =
    ap (λ (x : Bool). x || plays_any es k)
    (and_both (eqb e.kind 5) _ (eq-eqb e.kind 5 (ap (λ (x : Entry). x.kind) is)) (eq-eqb e.argument k (ap (λ (x : Entry). x.argument) is)))
in_plays k (e ∷ es) (later p) = or_second (eqb e.kind 5 && eqb e.argument k) (plays_any es k) (in_plays k es p)

-- The highest player is 0, or the level of a player.
data Highest (s : ℕ → List Entry) (levels : List ℕ) (k n h : ℕ) : Type 0 where
  nobody : h ≡ 0 → Highest s levels k n h
  someone : (j : ℕ) → j < n → Plays k (s j) → h ≡ get_or levels j 0 → Highest s levels k n h

module _ (s : ℕ → List Entry) where
  one_more_lem : (levels : List ℕ) (k n h : ℕ) → Highest s levels k n h → Highest s levels k (suc n) h
  one_more_lem levels k n h (nobody z) = nobody z
  one_more_lem levels k n h (someone j i p e) = someone j (omega arith) p e

  highest : (levels : List ℕ) (k n : ℕ) → Highest s levels k n (highest_player s levels k n)
  unfolding highest_player higher
  highest levels k zero = nobody refl
  highest levels k (suc n) =
      let before : Highest s levels k (suc n) (highest_player s levels k n) = one_more_lem levels k n _ (highest levels k n) in
      if_keeps (λ (h : ℕ). Highest s levels k (suc n) h) (leb (highest_player s levels k n) (when plays_any (s n) k then get_or levels n 0 else 0)) _ _
      (λ up. if_keeps (λ (h : ℕ). Highest s levels k (suc n) h) (plays_any (s n) k) _ _
      (λ plays. someone n (omega arith) (plays_in k (s n) plays) refl)
      (λ none. nobody refl))
      (λ stay. before)

  level-from : (k h : ℕ) → section_level s k ≡ 1 + h → Highest s (levels_below s k) k k h → LevelFrom s (section_level s) k
  level-from k h e (nobody z) = first (omega (arith, e, z))
  level-from k h e (someone j i p g) = next j i p (omega (arith, e, g, level_below s k j i))

  pub levels_hold : Levels s (section_level s)
  unfolding section_level
  levels_hold =
      record {
        above = λ j k h p. omega (arith, played_higher s j k h (in_plays k (s j) p));
        from = λ k. level-from k (highest_player s (levels_below s k) k k) refl (highest (levels_below s k) k k);
      }

  -- The relation decides the levels.
  least : (a : ℕ → ℕ) (k : ℕ) → LevelFrom s a k → 1 ≤ a k
  least a k (first e) = omega arith
  least a k (next j h p e) = omega arith

  no_lower : (a b : ℕ → ℕ) → Levels s a → Levels s b → (k : ℕ) → ((j : ℕ) → j < k → a j ≡ b j) → LevelFrom s a k → a k ≤ b k
  no_lower a b u v k same (first e) = omega (arith, least b k (v.from k))
  no_lower a b u v k same (next j h p e) = omega (arith, same j h, v.above j k h p)

  both_ways : (a b : ℕ → ℕ) → Levels s a → Levels s b → (n k : ℕ) → k < n → a k ≡ b k
  both_ways a b u v zero k h = absurd (omega arith)
  both_ways a b u v (suc n) k h =
      let below : (j : ℕ) → j < k → a j ≡ b j = λ j i. both_ways a b u v n j (omega arith) in
      omega (
        arith,
        no_lower a b u v k below (u.from k),
        no_lower b a v u k (λ j i. sym (below j i)) (v.from k),
      )

  pub one_level_lem : (a b : ℕ → ℕ) → Levels s a → Levels s b → (k : ℕ) → a k ≡ b k
  one_level_lem a b u v k = both_ways a b u v (suc k) k (omega arith)
