-- Whole numbers of 32 bits are floats without loss, and one division of two of them is their fraction rounded once (`round` of lib.Ieee).
--     float_exact         the float of a whole number has its value
--     quotient_rounded    the quotient of two whole numbers is their fraction, rounded once
--     whole_fraction      where the divisor divides, that is the whole quotient's float
-- Assumes nothing.
use Prim.Native.Nat.{ℕ, ◌*◌, ◌^◌, ◌<◌}
use mathlib.Core.Bool.{Bool, true, false, true≢false, cond}
use mathlib.Core.Path.{◌≡◌, sym, ap, ◌∙◌}
use native.Mathlib.Nat.{mul-one, mul_assoc, mul_comm, mul_left_comm, mul-pos, zero-lt-suc}
use native.Mathlib.Omega.{arith}
use borrow.Author.Tests.{ne_eqb}
use lib.Dec.{eqb, ltb→lt}
use lib.Ieee.{Float, nan, inf, fin, Format, binary64, up, down, round, of_int, div}
use lib.Ieee.Exact.{HasValue}
use lib.Ieee.Fits.{up_pos, down_pos}
use lib.Ieee.Back.{round_whole}
use lib.Ieee.Positive.{positive_of_value}
use lib.Ieee.Scale.{round_same}
use Rattle.floats.specs.Whole.{float_of}

-- The cross product of the two fractions.
cross : (a b x y d e : ℕ) → x * 1 ≡ a * e → y * 1 ≡ b * d → x * d * b ≡ a * (y * e)
cross a b x y d e h k =
    let p : x ≡ a * e = sym (mul-one x) ∙ h in
    let q : y ≡ b * d = sym (mul-one y) ∙ k in
    let r : a * e * d * b ≡ a * (b * d * e) = simp (mul_assoc, mul_comm, mul_left_comm) in
    ap (λ (z : ℕ). z * d * b) p ∙ r ∙ ap (λ (z : ℕ). a * (z * e)) (sym q)

-- Of two floats that are whole numbers, the second not 0.
rounds_once : (f : Format) (x y : Float) (a b : ℕ) → HasValue x false a 1 → HasValue y false b 1 → 0 < b →
    div f x y ≡ round f false a b
unfolding div
rounds_once f nan y a b h k B = absurd h
rounds_once f (inf s) y a b h k B = absurd h
rounds_once f (fin s m e) nan a b h k B = absurd k
rounds_once f (fin s m e) (inf t) a b h k B = absurd k
rounds_once f (fin true m e) (fin t n d) a b h k B = absurd (true≢false h.0)
rounds_once f (fin false m e) (fin true n d) a b h k B = absurd (true≢false k.0)
rounds_once f (fin false m e) (fin false n d) a b h k B =
    let N : 0 < n = ltb→lt 0 n (positive_of_value (fin false n d) b 1 k B) in
    let z : eqb n 0 ≡ false = ne_eqb n 0 (λ w. omega arith) in
    ap (λ (t : Bool). cond t (cond (eqb m 0) nan (inf false)) (round f false (m * up e * down d) (n * up d * down e))) z
    ∙ round_same f false (m * up e * down d) (n * up d * down e) a b (mul-pos (mul-pos N (up_pos d)) (down_pos e)) B
    (cross a b (m * up e) (n * up d) (down d) (down e) h.1 k.1)

pub float_exact : (n : ℕ) → n < 2 ^ 32 → HasValue (float_of n) false n 1
unfolding of_int
float_exact n h = round_whole binary64 false n (omega arith)

pub quotient_rounded : (a b : ℕ) → a < 2 ^ 32 → b < 2 ^ 32 → 0 < b → div binary64 (float_of a) (float_of b) ≡ round binary64 false a b
quotient_rounded a b h k B = rounds_once binary64 (float_of a) (float_of b) a b (float_exact a h) (float_exact b k) B

pub whole_fraction : (q d : ℕ) → 0 < d → round binary64 false (q * d) d ≡ float_of q
unfolding of_int
whole_fraction q d D = round_same binary64 false (q * d) d q 1 D (zero-lt-suc 0) (mul-one (q * d))
