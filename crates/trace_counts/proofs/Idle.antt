-- Records that make no call may be passed.
--     landing_step, landing_end   one record more, and none
--     lands                       where the next record that is not idle may lie
--     passed_first, passed_next   the table, before any record and with one more
--     passed_all                  the table of all records
--     passing                     records that are passed make no call
-- Assumes nothing.
use Rattle.std.specs.Prelude.{◌+◌, ◌*◌, ◌-◌, ◌/◌, ◌%◌, ◌≤◌, ◌∷◌, ◌++◌, ◌≡◌}
use Rattle.laws.proofs.Common.{ℕ, zero, suc, true, false, List, [], refl, sym}
use Rattle.laws.proofs.Common.{ap, ◌∙◌, arith, eqb-true, eqb-false, eqb, length, get_or, set, length-set, when◌then◌else◌}
use Rattle.laws.proofs.Common.{if_keeps, if_true, clash, by_test, and_left, and_right}
use Rattle.module_types.specs.declared.Call.{Call}
use Rattle.trace_rules.specs.declared.Entry.{Entry}
use Rattle.trace_rules.specs.Trace.{is_play, call_of, times, calls_by}
use Rattle.trace_numbers.specs.Places.{entry_at, entries_at}
use Rattle.trace_numbers.proofs.Tables.{set_each}
use Rattle.trace_counts.specs.Idle.{idle, landing, landing_of, PassedFrom}

module _ (f : List ℕ) where
  -- Where the next record lies that is not idle.
  pub landing_step : (at : ℕ) → at + 4 ≤ length f →
      landing_of f at ≡ (when idle (entry_at f at) then landing_of f (at + 4) else at)
  unfolding landing_of landing
  landing_step at h =
      ap (λ (n : ℕ). landing f n at) (let same : (length f - at) / 4 ≡ suc ((length f - (at + 4)) / 4) = omega arith in same)

  pub landing_end : landing_of f (length f) ≡ length f
  unfolding landing_of landing
  landing_end = ap (λ (n : ℕ). landing f n (length f)) (let same : (length f - length f) / 4 ≡ 0 = omega arith in same)

  -- The table, before any record and with one more.
  pub passed_first : (next : List ℕ) → length next ≡ 16384 → PassedFrom f (length f) next
  passed_first next h = record { all = h; each = λ i from below aligned is. absurd (omega arith) }

  module _ (at : ℕ) (next : List ℕ) (inside : at + 4 ≤ length f) (short : length f ≤ 65535) (aligned : (length f - at) % 4 ≡ 0)
      (from : PassedFrom f (at + 4) next) where
    passed-kept : idle (entry_at f at) ≡ false → PassedFrom f at next
    passed-kept not =
        record {
          all = from.all;
          each = λ i reached below whole is.
              by_test (eqb i at)
              (λ here. clash (idle (entry_at f i)) is (ap (λ (j : ℕ). idle (entry_at f j)) (eqb-true i at here) ∙ not))
              (λ other.
              let apart : i ≡ at → ⊥ = eqb-false i at other in
              from.each i (omega arith) below whole is);
        }

    passed-set : (to : ℕ) → to ≡ landing_of f at → PassedFrom f at (set next (at / 4) to)
    passed-set to lands =
        record {
          all = length-set next (at / 4) to ∙ from.all;
          each = λ i reached below whole is.
              set_each (λ (j x : ℕ). i / 4 ≡ j → x ≡ landing_of f i) next (at / 4) to
              (λ same. lands ∙ ap (landing_of f) (omega (arith, same, whole, reached, below)))
              (λ j other same.
              ap (λ (m : ℕ). get_or next m 0) (sym same) ∙ from.each i (omega (arith, below, reached, whole, other, same)) below whole is)
              (i / 4) (omega (arith, from.all, below)) refl;
        }

    pub passed_next : (to : ℕ) → to ≡ landing_of f (at + 4) →
        PassedFrom f at (when idle (entry_at f at) then set next (at / 4) to else next)
    passed_next to lands =
        if_keeps (PassedFrom f at) (idle (entry_at f at)) _ _
        (λ is. passed-set to (lands ∙ sym (landing_step at inside ∙ if_true (idle (entry_at f at)) _ _ is)))
        passed-kept

  -- From the first place on that lies in fours before the end, the table has all records.
  pub passed_all : (at : ℕ) (next : List ℕ) → at ≤ 3 → at ≤ length f → (length f - at) % 4 ≡ 0 → PassedFrom f at next → PassedFrom f 0 next
  passed_all at next low inside aligned from =
      record { all = from.all; each = λ i reached below whole is. from.each i (omega arith) below whole is }

  lands-some : (n at : ℕ) → (at ≤ landing f n at) × (landing f n at ≤ at + 4 * n) × ((landing f n at - at) % 4 ≡ 0)
  unfolding landing
  lands-some zero at = (omega arith, omega arith, omega arith)
  lands-some (suc n) at =
      let rest = lands-some n (at + 4) in
      if_keeps (λ (to : ℕ). (at ≤ to) × (to ≤ at + 4 * suc n) × ((to - at) % 4 ≡ 0)) (idle (entry_at f at)) _ _
      (λ is. (omega (arith, rest.0), omega (arith, rest.1), omega (arith, rest.0, rest.2)))
      (λ not. (omega arith, omega arith, omega arith))

-- The next record that is not idle lies no earlier, in the file, and so many whole records further.
pub record Lands (f : List ℕ) (at to : ℕ) : Type 0 where
  pub least : at ≤ to
  pub inside : to ≤ length f
  pub whole : (to - at) % 4 ≡ 0

pub lands : (f : List ℕ) (at : ℕ) → at ≤ length f → Lands f at (landing_of f at)
unfolding landing_of
lands f at h =
    let some = lands-some f ((length f - at) / 4) at in
    record { least = some.0; inside = omega (arith, some.1); whole = some.2 }

-- An idle record makes no call.
idle_calls : (sub : ℕ → List Call) (e : Entry) → idle e ≡ true →
    (when is_play e then times e.value (sub e.argument) else call_of e ∷ []) ≡ []
unfolding idle times
idle_calls sub e is =
    if_true (is_play e) _ _ (and_left (is_play e) _ is)
    ∙ ap (λ (n : ℕ). times n (sub e.argument)) (eqb-true e.value 0 (and_right (is_play e) _ is))

pass_some : (f : List ℕ) (sub : ℕ → List Call) (total n at : ℕ) → n ≤ total →
    calls_by sub (entries_at f n at) ≡ calls_by sub (entries_at f (n - (landing f total at - at) / 4) (landing f total at))
unfolding landing entries_at calls_by
pass_some f sub total zero at h =
    ap (λ (i : ℕ). calls_by sub (entries_at f i (landing f total at)))
    (let same : 0 ≡ 0 - (landing f total at - at) / 4 = omega arith in same)
pass_some f sub zero (suc n) at h = absurd (omega arith)
pass_some f sub (suc total) (suc n) at h =
    let on = landing f total (at + 4) in
    if_keeps (λ (to : ℕ). calls_by sub (entries_at f (suc n) at) ≡ calls_by sub (entries_at f (suc n - (to - at) / 4) to))
    (idle (entry_at f at)) _ _
    (λ is.
    ap (λ (cs : List Call). cs ++ calls_by sub (entries_at f n (at + 4))) (idle_calls sub (entry_at f at) is)
    ∙ pass_some f sub total n (at + 4) (omega arith)
    ∙ ap (λ (i : ℕ). calls_by sub (entries_at f i on))
    (let same : n - (on - (at + 4)) / 4 ≡ suc n - (on - at) / 4 = omega (arith, (lands-some f total (at + 4)).0) in same))
    (λ not. ap (λ (i : ℕ). calls_by sub (entries_at f i at)) (let same : suc n ≡ suc n - (at - at) / 4 = omega arith in same))

-- The calls of so many records are those from the first on that is not idle.
pub passing : (f : List ℕ) (sub : ℕ → List Call) (n at : ℕ) → at + 4 * n ≤ length f →
    calls_by sub (entries_at f n at) ≡ calls_by sub (entries_at f (n - (landing_of f at - at) / 4) (landing_of f at))
unfolding landing_of
passing f sub n at h = pass_some f sub ((length f - at) / 4) n at (omega arith)
