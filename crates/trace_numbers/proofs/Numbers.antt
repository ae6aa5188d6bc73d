-- Numbers beyond the end of a file are 0.
--     byte_beyond, half_beyond, word_beyond, entry_beyond   at a place that is not in the file
--     part_inside   a part that reaches beyond the end is what is inside
-- Assumes nothing.
use Rattle.std.specs.Prelude.{◌+◌, ◌-◌, ◌<◌, ◌≤◌, ◌≡◌}
use Rattle.laws.proofs.Common.{ℕ, min, List, ap, ap₂, sym, ◌∙◌, arith, length, take, drop}
use Rattle.laws.proofs.Common.{length-drop, drop_of_length-le, List·getD-eq-default, leb, take_all, leb-true, leb-false}
use Rattle.laws.proofs.Common.{by_test}
use Rattle.trace_rules.specs.Trace.{byte_at, half_at, word_at}
use Rattle.trace_numbers.specs.Places.{entry_at}

pub byte_beyond : (f : List ℕ) (i : ℕ) → length f ≤ i → byte_at f i ≡ 0
unfolding byte_at
byte_beyond f i h = List·getD-eq-default f 0 h

pub half_beyond : (f : List ℕ) (i : ℕ) → length f ≤ i → half_at f i ≡ 0
unfolding half_at
half_beyond f i h = omega (arith, byte_beyond f i h, byte_beyond f (i + 1) (omega arith))

pub word_beyond : (f : List ℕ) (i : ℕ) → length f ≤ i → word_at f i ≡ 0
unfolding word_at
word_beyond f i h = omega (arith, half_beyond f i h, half_beyond f (i + 2) (omega arith))

pub entry_beyond : (f : List ℕ) (at : ℕ) → length f ≤ at → entry_at f at ≡ record { kind = 0; argument = 0; value = 0 }
unfolding entry_at
entry_beyond f at h =
    let kind = byte_beyond f at h in
    let argument = byte_beyond f (at + 1) (omega arith) in
    let value = half_beyond f (at + 2) (omega arith) in
    cc

-- A part that reaches beyond the end.
take_inside : (n : ℕ) (l : List ℕ) → take (min n (length l)) l ≡ take n l
take_inside n l =
    by_test (leb n (length l))
    (λ low. ap (λ (i : ℕ). take i l) (let same : min n (length l) ≡ n = omega (arith, leb-true n (length l) low) in same))
    (λ high.
    let over : length l < n = leb-false n (length l) high in
    take_all (min n (length l)) l (omega arith) ∙ sym (take_all n l (omega arith)))

drop_inside : (n : ℕ) (l : List ℕ) → drop (min n (length l)) l ≡ drop n l
drop_inside n l =
    by_test (leb n (length l))
    (λ low. ap (λ (i : ℕ). drop i l) (let same : min n (length l) ≡ n = omega (arith, leb-true n (length l) low) in same))
    (λ high.
    let over : length l < n = leb-false n (length l) high in
    drop_of_length-le l {i = min n (length l)} (omega arith) ∙ sym (drop_of_length-le l {i = n} (omega arith)))

pub part_inside : (f : List ℕ) (from n : ℕ) →
    take (min n (length f - min from (length f))) (drop (min from (length f)) f) ≡ take n (drop from f)
part_inside f from n =
    ap₂ (λ (i : ℕ) (l : List ℕ). take (min n i) l)
    (let rest : length f - min from (length f) ≡ length (drop from f) = omega (arith, length-drop from f) in rest) (drop_inside from f)
    ∙ take_inside n (drop from f)
