-- Right records and their calls, field by field.
--     makes_call             the call of a record that makes one
--     right_in, in_right     a record is right exactly as the page says
--     each_right             the records at places, one by one
-- Assumes nothing.
use Rattle.std.specs.Prelude.{◌+◌, ◌*◌, ◌<◌, ◌≤◌, ◌&&◌, ◌≡◌}
use Rattle.laws.proofs.Common.{ℕ, zero, suc, Bool, true, false, not, List, refl, sym, ap}
use Rattle.laws.proofs.Common.{subst, ◌∙◌, arith, leb-true, le-leb, ltb-true, lt-ltb, eqb-true, not-true, eqb, leb, ltb}
use Rattle.laws.proofs.Common.{when◌then◌else◌, if_false, clash, by_test, and_left, and_right, and_both}
use Rattle.module_types.specs.declared.Call.{Call}
use Rattle.trace_rules.specs.declared.Entry.{Entry}
use Rattle.trace_rules.specs.Trace.{is_play, wire_in, right_record, all_right, call_of}
use Rattle.trace_rules.specs.TraceDemands.{fields, record_at, records_from, wires, Makes, write, read, tick, pins, clear, Right, call, play}

-- An argument below 8 is its three wires, and the wires of such an argument are its bits.
wires_back : (a : ℕ) → a < 8 → a ≡ wires (wire_in a 1) (wire_in a 2) (wire_in a 4)
unfolding wire_in when◌then◌else◌
wires_back zero h = refl
wires_back (suc zero) h = refl
wires_back (suc (suc zero)) h = refl
wires_back (suc (suc (suc zero))) h = refl
wires_back (suc (suc (suc (suc zero)))) h = refl
wires_back (suc (suc (suc (suc (suc zero))))) h = refl
wires_back (suc (suc (suc (suc (suc (suc zero)))))) h = refl
wires_back (suc (suc (suc (suc (suc (suc (suc zero))))))) h = refl
wires_back (suc (suc (suc (suc (suc (suc (suc (suc n)))))))) h = absurd (omega arith)

record Wires (a : ℕ) (sdi sck ss : Bool) : Type 0 where
  below : ltb a 8 ≡ true
  sdi-is : wire_in a 1 ≡ sdi
  sck_is : wire_in a 2 ≡ sck
  ss-is : wire_in a 4 ≡ ss

wires_are : (sdi sck ss : Bool) → Wires (wires sdi sck ss) sdi sck ss
unfolding wire_in when◌then◌else◌
wires_are true true true = record { below = refl; sdi-is = refl; sck_is = refl; ss-is = refl }
wires_are true true false = record { below = refl; sdi-is = refl; sck_is = refl; ss-is = refl }
wires_are true false true = record { below = refl; sdi-is = refl; sck_is = refl; ss-is = refl }
wires_are true false false = record { below = refl; sdi-is = refl; sck_is = refl; ss-is = refl }
wires_are false true true = record { below = refl; sdi-is = refl; sck_is = refl; ss-is = refl }
wires_are false true false = record { below = refl; sdi-is = refl; sck_is = refl; ss-is = refl }
wires_are false false true = record { below = refl; sdi-is = refl; sck_is = refl; ss-is = refl }
wires_are false false false = record { below = refl; sdi-is = refl; sck_is = refl; ss-is = refl }

-- The call of a record that makes one.
pub makes_call : (e : Entry) (c : Call) → Makes e c → call_of e ≡ c
unfolding call_of when◌then◌else◌
makes_call e c (write register v low is) = ap call_of is
makes_call e c (read register low is) = ap call_of is
makes_call e c (tick sdi ss is) = let w = wires_are sdi false ss in ap call_of is ∙ cc (w.sdi-is, w.ss-is)
makes_call e c (pins sck sdi ss is) = let w = wires_are sdi sck ss in ap call_of is ∙ cc (w.sdi-is, w.sck_is, w.ss-is)
makes_call e c (clear is) = ap call_of is

-- It is no play.
pub makes_kind : (e : Entry) (c : Call) → Makes e c → e.kind ≤ 4
makes_kind e c (write register v low is) = omega (arith, ap (λ (x : Entry). x.kind) is)
makes_kind e c (read register low is) = omega (arith, ap (λ (x : Entry). x.kind) is)
makes_kind e c (tick sdi ss is) = omega (arith, ap (λ (x : Entry). x.kind) is)
makes_kind e c (pins sck sdi ss is) = omega (arith, ap (λ (x : Entry). x.kind) is)
makes_kind e c (clear is) = omega (arith, ap (λ (x : Entry). x.kind) is)

-- A record whose fields are known.
same_fields : {a b c x y z : ℕ} → a ≡ x → b ≡ y → c ≡ z → fields a b c ≡ fields x y z
same_fields p q r = cc

pub with_fields : (e : Entry) (kind argument value : ℕ) → e.kind ≡ kind → e.argument ≡ argument → e.value ≡ value → e ≡ fields kind argument value
with_fields e kind argument value a b c = same_fields a b c

module _ (count level k : ℕ) where
  with_kind : (e : Entry) (n : ℕ) → right_record count level k e ≡ true → eqb e.kind n ≡ true →
      (e.kind ≡ n) × (right_record count level k (fields n e.argument e.value) ≡ true)
  with_kind e n right is =
      let h = eqb-true e.kind n is in
      (h, sym (ap (λ (x : ℕ). right_record count level k (fields x e.argument e.value)) h) ∙ right)

  no_kind : (e : Entry) → eqb e.kind 0 ≡ false → eqb e.kind 1 ≡ false → eqb e.kind 2 ≡ false → eqb e.kind 3 ≡ false →
      eqb e.kind 4 ≡ false → eqb e.kind 5 ≡ false → right_record count level k e ≡ false
  unfolding right_record is_play
  no_kind e a b c d g h =
      if_false (eqb e.kind 0) _ _ a ∙ if_false (eqb e.kind 1) _ _ b ∙ if_false (eqb e.kind 2) _ _ c
      ∙ if_false (eqb e.kind 3) _ _ d ∙ if_false (eqb e.kind 4) _ _ g ∙ if_false (eqb e.kind 5) _ _ h

  pub right_in : (e : Entry) → right_record count level k e ≡ true → Right count level k e
  unfolding right_record is_play when◌then◌else◌
  right_in e right =
      by_test (eqb e.kind 0)
      (λ is.
      let is-0 = with_kind e 0 right is in
      call _ (write e.argument e.value (leb-true e.argument 3 is-0.1)
      (with_fields e 0 e.argument e.value is-0.0 refl refl)))
      (λ no0. by_test (eqb e.kind 1)
      (λ is.
      let is-1 = with_kind e 1 right is in
      let r = is-1.1 in
      call _ (read e.argument (leb-true e.argument 3 (and_left (leb e.argument 3) _ r))
      (with_fields e 1 e.argument 0 is-1.0 refl (eqb-true e.value 0 (and_right (leb e.argument 3) _ r)))))
      (λ no1. by_test (eqb e.kind 2)
      (λ is.
      let is-2 = with_kind e 2 right is in
      let r = is-2.1 in
      let l = and_left (ltb e.argument 8 && not (wire_in e.argument 2)) _ r in
      let off : wire_in e.argument 2 ≡ false = not-true (wire_in e.argument 2) (and_right (ltb e.argument 8) _ l) in
      call _ (tick (wire_in e.argument 1) (wire_in e.argument 4)
      (with_fields e 2 _ 0 is-2.0
      (wires_back e.argument (ltb-true e.argument 8 (and_left (ltb e.argument 8) _ l))
      ∙ ap (λ (x : Bool). wires (wire_in e.argument 1) x (wire_in e.argument 4)) off)
      (eqb-true e.value 0 (and_right (ltb e.argument 8 && not (wire_in e.argument 2)) _ r)))))
      (λ no2. by_test (eqb e.kind 3)
      (λ is.
      let is-3 = with_kind e 3 right is in
      let r = is-3.1 in
      call _ (pins (wire_in e.argument 2) (wire_in e.argument 1) (wire_in e.argument 4)
      (with_fields e 3 _ 0 is-3.0
      (wires_back e.argument (ltb-true e.argument 8 (and_left (ltb e.argument 8) _ r)))
      (eqb-true e.value 0 (and_right (ltb e.argument 8) _ r)))))
      (λ no3. by_test (eqb e.kind 4)
      (λ is.
      let is-4 = with_kind e 4 right is in
      let r = is-4.1 in
      call _ (clear (with_fields e 4 0 0 is-4.0 (eqb-true e.argument 0 (and_left (eqb e.argument 0) _ r))
      (eqb-true e.value 0 (and_right (eqb e.argument 0) _ r)))))
      (λ no4. by_test (eqb e.kind 5)
      (λ is.
      let is-5 = with_kind e 5 right is in
      let r = is-5.1 in
      let l = and_right (ltb k e.argument) _ r in
      play e.argument e.value (with_fields e 5 e.argument e.value is-5.0 refl refl)
      (ltb-true k e.argument (and_left (ltb k e.argument) _ r))
      (ltb-true e.argument count (and_left (ltb e.argument count) _ l))
      (ltb-true level 8 (and_right (ltb e.argument count) _ l)))
      (λ no5. clash (right_record count level k e) right (no_kind e no0 no1 no2 no3 no4 no5)))))))

  makes-right : (e : Entry) (c : Call) → Makes e c → right_record count level k e ≡ true
  unfolding right_record is_play when◌then◌else◌
  makes-right e c (write register v low is) = ap (right_record count level k) is ∙ le-leb register 3 low
  makes-right e c (read register low is) = ap (right_record count level k) is ∙ and_both (leb register 3) _ (le-leb register 3 low) refl
  makes-right e c (tick sdi ss is) = let w = wires_are sdi false ss in ap (right_record count level k) is ∙ cc (w.below, w.sck_is)
  makes-right e c (pins sck sdi ss is) = let w = wires_are sdi sck ss in ap (right_record count level k) is ∙ cc w.below
  makes-right e c (clear is) = ap (right_record count level k) is

  pub in_right : (e : Entry) → Right count level k e → right_record count level k e ≡ true
  unfolding right_record is_play when◌then◌else◌
  in_right e (call c makes) = makes-right e c makes
  in_right e (play j v is up exists low) =
      ap (right_record count level k) is
      ∙ and_both (ltb k j) _ (lt-ltb k j up) (and_both (ltb j count) _ (lt-ltb j count exists) (lt-ltb level 8 low))

  -- The records at places, one by one.
  pub each_right : (f : List ℕ) (n at : ℕ) → all_right count level k (records_from f n at) ≡ true → (i : ℕ) → i < n →
      Right count level k (record_at f (at + 4 * i))
  unfolding all_right
  each_right f zero at right i h = absurd (omega arith)
  each_right f (suc n) at right zero h =
      right_in (record_at f (at + 4 * 0))
      (ap (λ (j : ℕ). right_record count level k (record_at f j)) (let same : at + 4 * 0 ≡ at = omega arith in same)
      ∙ and_left (right_record count level k (record_at f at)) _ right)
  each_right f (suc n) at right (suc i) h =
      subst (λ (j : ℕ). Right count level k (record_at f j)) (let same : at + 4 + 4 * i ≡ at + 4 * suc i = omega arith in same)
      (each_right f n (at + 4) (and_right (right_record count level k (record_at f at)) _ right) i (omega arith))

  pub right_each : (f : List ℕ) (n at : ℕ) → ((i : ℕ) → i < n → Right count level k (record_at f (at + 4 * i))) →
      all_right count level k (records_from f n at) ≡ true
  unfolding all_right
  right_each f zero at each = refl
  right_each f (suc n) at each =
      and_both (right_record count level k (record_at f at)) _
      (ap (λ (j : ℕ). right_record count level k (record_at f j)) (let same : at ≡ at + 4 * 0 = omega arith in same)
      ∙ in_right (record_at f (at + 4 * 0)) (each 0 (omega arith)))
      (right_each f n (at + 4)
      (λ i h.
      subst (λ (j : ℕ). Right count level k (record_at f j)) (let same : at + 4 * suc i ≡ at + 4 + 4 * i = omega arith in same)
      (each (suc i) (omega arith))))
