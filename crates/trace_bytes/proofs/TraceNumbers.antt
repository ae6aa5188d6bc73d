-- Numbers of two and four bytes, written and read back.
--     word_here, word_skip   a number at the start of some bytes, and behind others
--     half_of, word_at_lem       bytes are the number that they spell
--     bytes_drop, bytes_take, bytes_append, bytes_half, bytes_word   what consists of bytes
-- Assumes nothing.
use Rattle.std.specs.Prelude.{◌+◌, ◌-◌, ◌*◌, ◌/◌, ◌%◌, ◌<◌, ◌≤◌, ◌∷◌, ◌++◌, ◌≡◌}
use Rattle.laws.proofs.Common.{ℕ, zero, suc, List, [], sym, ap, ap₂, ◌∙◌}
use Rattle.laws.proofs.Common.{arith, ltb-true, ltb-false, ltb, length, take, drop, get_or, length-take, length-drop}
use Rattle.laws.proofs.Common.{List·getD-append, List·getD-eq-default, get_or-drop, get_or-take, by_test}
use lib.Seq.{get_or-append-add}
use Rattle.trace_rules.specs.Trace.{byte_at, half_at, word_at}
use Rattle.trace_rules.specs.TraceBytes.{half, word, Bytes}

-- Behind other bytes.
half_skip : (p rest : List ℕ) (i : ℕ) → half_at (p ++ rest) (length p + i) ≡ half_at rest i
unfolding half_at byte_at
half_skip p rest i =
    let next : (length p + i) + 1 ≡ length p + (i + 1) = omega arith in
    let a : get_or (p ++ rest) (length p + i) 0 ≡ get_or rest i 0 = get_or-append-add p rest i 0 in
    let b : get_or (p ++ rest) ((length p + i) + 1) 0 ≡ get_or rest (i + 1) 0 =
    ap (λ (j : ℕ). get_or (p ++ rest) j 0) next ∙ get_or-append-add p rest (i + 1) 0 in
    ap₂ (λ (x y : ℕ). x + 256 * y) a b

pub word_skip : (p rest : List ℕ) (i : ℕ) → word_at (p ++ rest) (length p + i) ≡ word_at rest i
unfolding word_at
word_skip p rest i =
    let next : (length p + i) + 2 ≡ length p + (i + 2) = omega arith in
    ap₂ (λ (x y : ℕ). x + 65536 * y) (half_skip p rest i)
    (ap (half_at (p ++ rest)) next ∙ half_skip p rest (i + 2))

-- A number, written and read.
pub two_bytes : (n : ℕ) → n % 256 + 256 * (n / 256) ≡ n
two_bytes n = omega arith

four_bytes : (n : ℕ) → n % 65536 % 256 + 256 * (n % 65536 / 256) + 65536 * (n / 65536 % 256 + 256 * (n / 65536 / 256)) ≡ n
four_bytes n = omega arith

pub word_here : (n : ℕ) (rest : List ℕ) → word_at (word n ++ rest) 0 ≡ n
unfolding word_at half_at byte_at
word_here n rest = four_bytes n

-- Bytes, read and written.
low_byte : (a b : ℕ) → a < 256 → a ≡ (a + 256 * b) % 256
low_byte a b h = omega arith

high_byte : (a b : ℕ) → a < 256 → b ≡ (a + 256 * b) / 256
high_byte a b h = omega arith

pub half_of : (l : List ℕ) → Bytes l → 2 ≤ length l → take 2 l ≡ half (half_at l 0)
unfolding half_at byte_at
half_of [] small h = absurd (omega arith)
half_of (a ∷ []) small h = absurd (omega arith)
half_of (a ∷ (b ∷ l)) small h = ap₂ (λ (x y : ℕ). x ∷ y ∷ []) (low_byte a b (small 0)) (high_byte a b (small 0))

word_of : (l : List ℕ) → Bytes l → 4 ≤ length l → take 4 l ≡ word (word_at l 0)
unfolding word_at half_at byte_at
word_of [] small h = absurd (omega arith)
word_of (a ∷ []) small h = absurd (omega arith)
word_of (a ∷ (b ∷ [])) small h = absurd (omega arith)
word_of (a ∷ (b ∷ (c ∷ []))) small h = absurd (omega arith)
word_of (a ∷ (b ∷ (c ∷ (d ∷ l)))) small h =
    let p : a < 256 = small 0 in
    let q : b < 256 = small 1 in
    let r : c < 256 = small 2 in
    let s : d < 256 = small 3 in
    let n : ℕ = (a + 256 * b) + 65536 * (c + 256 * d) in
    let low : n % 65536 ≡ a + 256 * b = omega arith in
    let high : n / 65536 ≡ c + 256 * d = omega arith in
    let e : a ≡ n % 65536 % 256 = low_byte a b p ∙ ap (λ (x : ℕ). x % 256) (sym low) in
    let f : b ≡ n % 65536 / 256 = high_byte a b p ∙ ap (λ (x : ℕ). x / 256) (sym low) in
    let g : c ≡ n / 65536 % 256 = low_byte c d r ∙ ap (λ (x : ℕ). x % 256) (sym high) in
    let i : d ≡ n / 65536 / 256 = high_byte c d r ∙ ap (λ (x : ℕ). x / 256) (sym high) in
    ap₂ (λ (x y : List ℕ). x ++ y) (ap₂ (λ (x y : ℕ). x ∷ y ∷ []) e f) (ap₂ (λ (x y : ℕ). x ∷ y ∷ []) g i)

word_drop : (n : ℕ) (l : List ℕ) → word_at (drop n l) 0 ≡ word_at l n
unfolding word_at half_at byte_at
word_drop n l =
    omega (
      arith,
      get_or-drop n l 0 0 ∙ ap (λ (j : ℕ). get_or l j 0) (let same : n + 0 ≡ n = omega arith in same),
      get_or-drop n l 1 0,
      get_or-drop n l 2 0,
      get_or-drop n l 3 0 ∙ ap (λ (j : ℕ). get_or l j 0) (let same : n + 3 ≡ (n + 2) + 1 = omega arith in same),
    )

pub bytes_drop : (n : ℕ) (l : List ℕ) → Bytes l → Bytes (drop n l)
bytes_drop n l small i = omega (arith, get_or-drop n l i 0, small (n + i))

pub bytes_take : (n : ℕ) (l : List ℕ) → Bytes l → Bytes (take n l)
bytes_take n l small i =
    by_test (ltb i n)
    (λ inside. omega (arith, get_or-take n l i 0 (ltb-true i n inside), small i))
    (λ behind.
    let out : length (take n l) ≤ i = omega (arith, length-take n l, ltb-false i n behind) in
    omega (arith, List·getD-eq-default (take n l) 0 out))

pub word_at_lem : (f : List ℕ) → Bytes f → (n : ℕ) → n + 4 ≤ length f → take 4 (drop n f) ≡ word (word_at f n)
word_at_lem f small n h = word_of (drop n f) (bytes_drop n f small) (omega (arith, length-drop n f)) ∙ ap word (word_drop n f)

-- What is written as bytes are bytes.
pub bytes_append : (x y : List ℕ) → Bytes x → Bytes y → Bytes (x ++ y)
bytes_append x y p q i =
    by_test (ltb i (length x))
    (λ inside. omega (arith, List·getD-append x y 0 i (ltb-true i (length x) inside), p i))
    (λ behind.
    let e : length x + (i - length x) ≡ i = omega (arith, ltb-false i (length x) behind) in
    omega (arith, get_or-append-add x y (i - length x) 0, ap (λ (j : ℕ). get_or (x ++ y) j 0) e, q (i - length x)))

pub bytes_none : Bytes []
bytes_none i = omega arith

pub bytes_half : (n : ℕ) → n < 65536 → Bytes (half n)
bytes_half n h zero = omega arith
bytes_half n h (suc zero) = omega arith
bytes_half n h (suc (suc i)) = omega arith

pub bytes_word : (n : ℕ) → n < 65536 → Bytes (word n)
bytes_word n h =
    bytes_append (half (n % 65536)) (half (n / 65536)) (bytes_half (n % 65536) (omega arith)) (bytes_half (n / 65536) (omega arith))
