-- The digits of a number.
--     low_letter       a digit below ten is its number
--     digits_length    so many digits are so many
--     last_first       the last digit may be put before the others
--     no_room          a text without room is not put
--     decimal_digits   a number in decimal is so many digits in base ten
--     four_hex         a value in four hexadecimal digits is four digits in base sixteen
--     one_digit        a number below ten has one digit
--     decimal_size     a number from a power of ten to below the next has one digit more than the power's exponent
--     decimal_many     so a number has one digit more than its logarithm in base ten
--     decimal_short    a number of 32 bits has at most ten digits
-- Assumes nothing.
use Rattle.std.specs.Prelude.{Option, Some, None, IfSome, IfNone, MatchOption, ◌+◌, ◌-◌, ◌/◌, ◌%◌, ◌*◌, ◌^◌, ◌<◌, ◌≤◌, ◌∷◌, ◌++◌, ◌≡◌}
use Rattle.laws.proofs.Common.{ℕ, zero, suc, List, [], refl, sym, ◌∙◌, ap}
use Rattle.laws.proofs.Common.{pow-succ', one-le-pow, arith, ltb-true, lt-ltb, le-ltb, ltb, length, set, length-append, if_true, if_false}
use Rattle.laws.proofs.Common.{if_keeps}
use Prim.Native.Char.{code}
use lib.Seq.{set_comm}
use Rattle.script_rules.specs.Script.{decimal_in, decimal_of, hex_of, four_hex_of}
use Rattle.script_rules.specs.Texts.{put}
use Rattle.script_rules.proofs.ScriptSizes.{decimal_length}
use Rattle.script_rules.proofs.Texts.{put_then}
use Rattle.script_digits.specs.Digits.{digits_of, PutWhole}

pub low_letter : (d : ℕ) → d < 10 → hex_of d ≡ code "0" + d
unfolding hex_of
low_letter d h = if_true (ltb d 10) _ _ (lt-ltb d 10 h)

pub digits_length : (base places n : ℕ) → length (digits_of base places n) ≡ places
unfolding digits_of
digits_length base zero n = refl
digits_length base (suc places) n = simp length-append (omega (arith, digits_length base places (n / base)))

put_behind : (buffer : List ℕ) (place : ℕ) (text : List ℕ) (i b : ℕ) → place + length text ≤ i →
    put (set buffer i b) place text ≡ set (put buffer place text) i b
unfolding put
put_behind buffer place [] i b h = refl
put_behind buffer place (x ∷ text) i b h =
    ap (λ (l : List ℕ). put l (place + 1) text) (set_comm buffer i place b x (λ e. omega arith))
    ∙ put_behind (set buffer place x) (place + 1) text i b (omega arith)

pub last_first : (buffer : List ℕ) (place base left n : ℕ) → 0 < left →
    put (set buffer (place + (left - 1)) (hex_of (n % base))) place (digits_of base (left - 1) (n / base))
    ≡ put buffer place (digits_of base left n)
unfolding digits_of put
last_first buffer place base zero n h = absurd (omega arith)
last_first buffer place base (suc left) n h =
    let others = digits_of base left (n / base) in
    let size = digits_length base left (n / base) in
    ap (λ (k : ℕ). put (set buffer (place + k) (hex_of (n % base))) place (digits_of base k (n / base)))
    (let one : suc left - 1 ≡ left = omega arith in one)
    ∙ put_behind buffer place others (place + left) (hex_of (n % base)) (omega arith)
    ∙ ap (λ (k : ℕ). set (put buffer place others) (place + k) (hex_of (n % base))) (sym size)
    ∙ put_then buffer place others (hex_of (n % base) ∷ [])

pub no_room : (text before : List ℕ) (place : ℕ) → length before < place + length text → PutWhole text before place before place
no_room text before place h = record { fits = λ room. absurd (omega arith); fails = λ _. (refl, refl) }

pub decimal_digits : (places n : ℕ) → decimal_in places n ≡ digits_of 10 (length (decimal_in places n)) n
unfolding decimal_in digits_of
decimal_digits zero n = refl
decimal_digits (suc places) n =
    let tens = decimal_in places (n / 10) in
    let last = (code "0" + n % 10) ∷ [] in
    let more : suc (length tens) ≡ length (tens ++ last) = simp length-append (omega arith) in
    if_keeps (λ (text : List ℕ). text ≡ digits_of 10 (length text) n) (ltb n 10) _ _
    (λ e. let whole : n ≡ n % 10 = omega (arith, ltb-true n 10 e) in cc (low_letter n (ltb-true n 10 e)))
    (λ e. cc (decimal_digits places (n / 10), low_letter (n % 10) (omega arith), ap (λ (k : ℕ). digits_of 10 k n) more))

pub four_hex : (v : ℕ) → four_hex_of v ≡ digits_of 16 4 v
unfolding four_hex_of digits_of
four_hex v =
    let third : v / 256 ≡ v / 16 / 16 = omega arith in
    let fourth : v / 4096 ≡ v / 16 / 16 / 16 = omega arith in
    cc

pub one_digit : (spare n : ℕ) → n ≤ 9 → length (decimal_in (suc spare) n) ≡ 1
unfolding decimal_in
one_digit spare n h = ap length (if_true (ltb n 10) _ _ (lt-ltb n 10 (omega arith)))

pub decimal_size : (k spare n : ℕ) → k ≤ spare → 10 ^ k ≤ n → n < 10 * 10 ^ k → length (decimal_in (suc spare) n) ≡ suc k
unfolding decimal_in
decimal_size zero spare n h low high = one_digit spare n (omega arith)
decimal_size (suc k) zero n h low high = absurd (omega arith)
decimal_size (suc k) (suc spare) n h low high =
    let power = pow-succ' 10 k in
    let one = one-le-pow k 10 (omega arith) in
    let tens = decimal_in (suc spare) (n / 10) in
    ap length (if_false (ltb n 10) _ _ (le-ltb n 10 (omega (arith, power, one))))
    ∙ omega (
      arith,
      length-append tens ((code "0" + n % 10) ∷ []),
      decimal_size k spare (n / 10) (omega arith) (omega (arith, power)) (omega (arith, power)),
    )

pub decimal_many : {P : ℕ → Type 0} (n r : ℕ) (o : Option ℕ) → IfNone o (n ≡ 0) → IfSome o (λ k. 10 ^ k ≤ n) → IfSome o (λ k. n < 10 * 10 ^ k) →
    IfSome o (λ k. k < 10) → MatchOption o (r ≡ 1) P → ((k : ℕ) → P k → r ≡ k + 1) → r ≡ length (decimal_of n)
unfolding decimal_of
decimal_many n r None none low high bound many one_more = omega (arith, none, many, one_digit 9 n (omega (arith, none)))
decimal_many n r (Some k) none low high bound many one_more = omega (arith, one_more k many, decimal_size k 9 n (omega (arith, bound)) low high)

pub decimal_short : (n : ℕ) → n < 10 ^ 10 → length (decimal_of n) ≤ 10
unfolding decimal_of
decimal_short n h = decimal_length 10 10 n h (omega arith)
