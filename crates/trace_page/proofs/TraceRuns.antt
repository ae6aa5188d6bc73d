-- The calls of a right file and what counts, as the relation of the page.
--     runs_hold   they are those of its sections, played one within the other
--     one_run_lem     there are no others
-- Assumes nothing.
use Rattle.std.specs.Prelude.{◌+◌, ◌*◌, ◌<◌, ◌≤◌, ◌&&◌, ◌||◌, ◌∷◌, ◌++◌, ◌≡◌}
use Rattle.laws.proofs.Common.{ℕ, zero, suc, Bool, true, false, List, []}
use Rattle.laws.proofs.Common.{refl, sym, ap, ap₂, subst, ◌∙◌, arith, eq-eqb, ne_eqb, eqb, when◌then◌else◌, and_left, and_right}
use Rattle.laws.proofs.Common.{and_both}
use Rattle.module_types.specs.declared.Call.{Call}
use Rattle.trace_rules.specs.declared.Entry.{Entry}
use Rattle.trace_rules.specs.Trace.{section_count, entries_of, is_play, plays_any, section_level, right_record, all_right, records_right, call_of, times, calls_by, play_calls, count_by, play_count, file_calls, file_count}
use Rattle.trace_rules.specs.TraceDemands.{section, Right, call, play, again, Runs, done, calls, plays, LevelFrom, first, next}
use Rattle.trace_page.proofs.TraceContents.{Laid}
use Rattle.trace_page.proofs.TracePlaces.{section_is}
use Rattle.trace_page.proofs.TraceLevels.{plays_up, played_higher, level_least, section_right_lem}
use Rattle.trace_page.proofs.TraceRight.{with_fields, makes_call, makes_kind, right_in}
use Rattle.trace_page.proofs.TraceOrder.{levels_hold, in_plays, or_second}

again_is : (n : ℕ) (cs : List Call) → times n cs ≡ again n cs
unfolding times
again_is zero cs = refl
again_is (suc n) cs = ap (λ (l : List Call). cs ++ l) (again_is n cs)

module _ (s : ℕ → List Entry) (sub : ℕ → List Call) (counts : ℕ → ℕ) where
  -- One right record, before others.
  run_one : (count level k : ℕ) (e : Entry) (es : List Entry) (cs : List Call) (n : ℕ) →
      ((j : ℕ) → (is_play e && eqb e.argument j) ≡ true → Runs s (s j) (sub j) (counts j)) → Right count level k e → Runs s es cs n →
      Runs s (e ∷ es) ((when is_play e then times e.value (sub e.argument) else call_of e ∷ []) ++ cs)
      ((when is_play e then e.value * (1 + counts e.argument) else 1) + n)
  unfolding is_play when◌then◌else◌
  run_one count level k e es cs n played (call c makes) rest =
      let other : eqb e.kind 5 ≡ false = ne_eqb e.kind 5 (λ five. omega (arith, five, makes_kind e c makes)) in
      rw (other, makes_call e c makes) (calls makes rest)
  run_one count level k e es cs n played (play j v is up there low) rest =
      let this : eqb e.kind 5 ≡ true = eq-eqb e.kind 5 (ap (λ (x : Entry). x.kind) is) in
      let here : Runs s (s e.argument) (sub e.argument) (counts e.argument) =
      played e.argument (and_both (eqb e.kind 5) _ this (eq-eqb e.argument e.argument refl)) in
      rw (this, again_is e.value (sub e.argument))
      (plays e.argument e.value
      (with_fields e 5 e.argument e.value (ap (λ (x : Entry). x.kind) is) refl refl) here rest)

  runs_by : (count level k : ℕ) (es : List Entry) → all_right count level k es ≡ true →
      ((j : ℕ) → plays_any es j ≡ true → Runs s (s j) (sub j) (counts j)) → Runs s es (calls_by sub es) (count_by counts es)
  unfolding calls_by count_by plays_any all_right
  runs_by count level k [] right played = done
  runs_by count level k (e ∷ es) right played =
      run_one count level k e es (calls_by sub es) (count_by counts es)
      (λ j this. played j (ap (λ (x : Bool). x || plays_any es j) this))
      (right_in count level k e (and_left (right_record count level k e) _ right))
      (runs_by count level k es (and_right (right_record count level k e) _ right)
      (λ j p. played j (or_second (is_play e && eqb e.argument j) (plays_any es j) p)))

module _ (f : List ℕ) (laid : Laid f) (right : records_right f ≡ true) where
  -- No section of a right file stands above level 8.
  most_from : (k : ℕ) → k < section_count f → LevelFrom (entries_of f) (section_level (entries_of f)) k → section_level (entries_of f) k ≤ 8
  most_from k h (first e) = omega arith
  most_from k h (next j i p e) =
      omega (arith, e, (plays_up f right j k (omega arith) (in_plays k (entries_of f j) p)).below)

  runs_of : (left k : ℕ) → k < section_count f → 9 ≤ left + section_level (entries_of f) k →
      Runs (section f) (section f k) (play_calls f left k) (play_count f left k)
  unfolding play_calls play_count
  runs_of zero k h reach = absurd (omega (arith, reach, most_from k h ((levels_hold (entries_of f)).from k)))
  runs_of (suc left) k h reach =
      subst (λ (es : List Entry). Runs (section f) es (play_calls f (suc left) k) (play_count f (suc left) k)) (section_is f laid k h)
      (runs_by (section f) (play_calls f left) (play_count f left) (section_count f) (section_level (entries_of f) k) k (entries_of f k) (section_right_lem f right k h)
      (λ j p.
      let up = plays_up f right k j h p in
      runs_of left j up.there (omega (arith, reach, played_higher (entries_of f) k j up.up p))))

  pub runs_hold : Runs (section f) (section f 0) (file_calls f) (file_count f)
  unfolding file_calls file_count
  runs_hold = runs_of 8 0 laid.some (omega (arith, level_least (entries_of f) 0))

-- Records have one run.
pub one_run_lem : (s : ℕ → List Entry) (es : List Entry) (a b : List Call) (n m : ℕ) → Runs s es a n → Runs s es b m → (a ≡ b) × (n ≡ m)
one_run_lem s es a b n m done done = (refl, refl)
one_run_lem s es a b n m (calls {e = e} {c = c} c0 r) (calls {c = d} c1 q) =
    let rest = one_run_lem s _ _ _ _ _ r q in
    (ap₂ (λ (x : Call) (l : List Call). x ∷ l) (sym (makes_call e c c0) ∙ makes_call e d c1) rest.0, ap (λ (x : ℕ). 1 + x) rest.1)
one_run_lem s es a b n m (calls {e = e} {c = c} c0 r) (plays j v is q t) =
    absurd (omega (arith, makes_kind e c c0, ap (λ (x : Entry). x.kind) is))
one_run_lem s es a b n m (plays j v is q t) (calls {e = e} {c = c} c0 r) =
    absurd (omega (arith, makes_kind e c c0, ap (λ (x : Entry). x.kind) is))
one_run_lem s es a b n m (plays {e = e} {ds = ds} {cs = cs} {d = d} {n = x} j v is r t) (plays {ds = ds2} {cs = cs2} {d = d2} {n = y} i w is2 q u) =
    let same-section : i ≡ j = sym (ap (λ (x : Entry). x.argument) is2) ∙ ap (λ (x : Entry). x.argument) is in
    let same-times : v ≡ w = sym (ap (λ (x : Entry). x.value) is) ∙ ap (λ (x : Entry). x.value) is2 in
    let inner = one_run_lem s (s j) ds ds2 d d2 r (subst (λ (k : ℕ). Runs s (s k) ds2 d2) same-section q) in
    let rest = one_run_lem s _ cs cs2 x y t u in (
      cc (same-times, inner.0, rest.0),
      cc (same-times, inner.1, rest.1),
    )
