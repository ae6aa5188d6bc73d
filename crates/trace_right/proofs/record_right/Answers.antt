-- `trace_right::record_right` meets its contract, kind by kind. Where argument and value stand in one number, it is below 256 only if the value
-- is 0. Assumes nothing.
use Rattle.std.specs.Prelude.{◌+◌, ◌*◌, ◌<◌, ◌≤◌, ◌&&◌, ◌≡◌}
use Rattle.laws.proofs.Common.{ℕ, zero, suc, arith, lt-leb, le-ltb, ne_eqb}
use Rattle.laws.proofs.Common.{Bool, false, not, and-true, refl, sym, ap, ◌∙◌, eqb, ltb, leb, when◌then◌else◌}
use Rattle.laws.proofs.Common.{so_eq, not_so_eq, and_first, and-false}
use Rattle.trace_rules.specs.Trace.{right_record, is_play, wire_in}
use Rattle.trace_right.proofs.record_right.Goals as goal

-- A test of the argument, with a value of 0, is one of both in one number, if the test fails from 256 on.
in_one : (P : ℕ → Bool) → ((n : ℕ) → 256 ≤ n → P n ≡ false) → (a v : ℕ) → P (a + 256 * v) ≡ (P a && eqb v 0)
in_one P high a zero = ap P (omega arith) ∙ sym (and-true (P a))
in_one P high a (suc v) = high (a + 256 * suc v) (omega arith) ∙ sym (and-false (P a) (eqb (suc v) 0) (ne_eqb (suc v) 0 (λ e. omega (arith, e))))

-- The tests fail there.
most : (m n : ℕ) → m < 256 → 256 ≤ n → leb n m ≡ false
most m n low high = lt-leb n m (omega arith)

less : (m n : ℕ) → m ≤ 256 → 256 ≤ n → ltb n m ≡ false
less m n low high = le-ltb n m (omega arith)

-- A record from kind 4 on is none of the first four kinds.
later : (k : ℕ) (p q r s t z : Bool) → 4 ≤ k → z ≡ t →
    z ≡ (when eqb k 0 then p else when eqb k 1 then q else when eqb k 2 then r else when eqb k 3 then s else t)
later k p q r s t z h same =
    other 0 _ _ (omega arith) (other 1 _ _ (omega arith) (other 2 _ _ (omega arith) (other 3 _ _ (omega arith) same)))
  where
    other : (n : ℕ) (x y : Bool) → n < 4 → z ≡ y → z ≡ (when eqb k n then x else y)
    other n x y low = not_so_eq k n x y (λ is. omega (arith, h, is, low))

pub returns-then-kind-eq0 : goal.returns-then-kind-eq0
unfolding right_record is_play wire_in
returns-then-kind-eq0 c = so_eq _ _ _ _ c.if-kind-eq0.true refl

pub returns-then-kind-lt2 : goal.returns-then-kind-lt2
unfolding right_record is_play wire_in
returns-then-kind-lt2 c =
    not_so_eq _ _ _ _ c.if-kind-eq0.false
    (so_eq c.args.e.kind 1 _ _ (omega arith) (in_one (λ n. leb n 3) (λ n. most 3 n (omega arith)) c.args.e.argument c.args.e.value))

pub returns-then-kind-eq2 : goal.returns-then-kind-eq2
unfolding right_record is_play wire_in
returns-then-kind-eq2 c =
    not_so_eq c.args.e.kind 0 _ _ (λ is. omega arith)
    (not_so_eq c.args.e.kind 1 _ _ (λ is. omega arith)
    (so_eq c.args.e.kind 2 _ _ (omega arith)
    (in_one (λ n. ltb n 8 && not (wire_in n 2)) (λ n high. and_first _ _ (less 8 n (omega arith) high)) c.args.e.argument c.args.e.value)))

pub returns-then-kind-lt4 : goal.returns-then-kind-lt4
unfolding right_record is_play wire_in
returns-then-kind-lt4 c =
    not_so_eq c.args.e.kind 0 _ _ (λ is. omega arith)
    (not_so_eq c.args.e.kind 1 _ _ (λ is. omega arith)
    (not_so_eq c.args.e.kind 2 _ _ (λ is. omega arith)
    (so_eq c.args.e.kind 3 _ _ (omega arith) (in_one (λ n. ltb n 8) (λ n. less 8 n (omega arith)) c.args.e.argument c.args.e.value))))

pub returns-then-kind-eq4 : goal.returns-then-kind-eq4
unfolding right_record is_play wire_in
returns-then-kind-eq4 c =
    later c.args.e.kind _ _ _ _ _ _ c.if-kind-lt4.false
    (so_eq c.args.e.kind 4 _ _ c.if-kind-eq4.true
    (in_one (λ n. eqb n 0) (λ n high. ne_eqb n 0 (λ is. omega (arith, high, is))) c.args.e.argument c.args.e.value))

pub returns-then-kind-eq5 : goal.returns-then-kind-eq5
unfolding right_record is_play wire_in
returns-then-kind-eq5 c =
    later _ _ _ _ _ _ _ c.if-kind-lt4.false (not_so_eq _ _ _ _ c.if-kind-eq4.false (so_eq _ _ _ _ c.if-kind-eq5.true (cc)))

pub returns : goal.returns
unfolding right_record is_play wire_in
returns c = later _ _ _ _ _ _ _ c.if-kind-lt4.false (not_so_eq _ _ _ _ c.if-kind-eq4.false (not_so_eq _ _ _ _ c.if-kind-eq5.false refl))
