-- The sizes that settings decide, for both widths and both depths at once, and the numbers that fit a width.
--     width_least, width_eight, width_most    1 ≤ w, 8 ≤ w, w ≤ 16
--     depth_least, depth_most    1 ≤ depth ≤ the cells of a buffer
--     low_bits_fit               the bits that BUF keeps fit the width
--     low_bits_of_fit            a word that fits the width is shown whole
--     no_bit_above               a number below 2 ^ k has no bit at k or above
--     one_shifted                1 shifted left by w is 2 ^ w
-- Assumes nothing.
use Rattle.std.specs.Prelude.{◌*◌, ◌%◌, ◌^◌, ◌≤◌, ◌<◌, ◌≡◌}
use Rattle.laws.proofs.Common.{ℕ, false, ap, ◌∙◌, mod-lt, div-eq_of_lt}
use Rattle.laws.proofs.Common.{mod-eq_of_lt, one-le-pow, lt_of_lt_of_le, lt_of_le_of_lt, arith, eqb, lit<, lit≤, if_keeps}
use native.Mathlib.Nat.{one-mul}
use lib.Pow.{pow_mono}
use Rattle.word_order.specs.Bits.{bit_of}
use Rattle.module_rules.proofs.Types.{Depth, Four, Eight, Sixteen, Settings}
use Rattle.module_rules.specs.Buffers.{capacity}
use Rattle.module_rules.specs.Settings.{width_of, words_of, depth_of}
use Rattle.module_rules.specs.Registers.{low_bits}

-- A word has at least one bit.
pub width_least : (s : Settings) → 1 ≤ width_of s
width_least s = if_keeps (λ (w : ℕ). 1 ≤ w) s.con1.mode16 16 8 (λ e. omega arith) (λ e. omega arith)

-- A word has at most 16 bits.
pub width_most : (s : Settings) → width_of s ≤ 16
width_most s = if_keeps (λ (w : ℕ). w ≤ 16) s.con1.mode16 16 8 (λ e. omega arith) (λ e. omega arith)

-- Every depth that can be chosen is within the cells of a buffer.
words_within : (depth : Depth) → (1 ≤ words_of depth) × (words_of depth ≤ capacity)
words_within Four = (lit≤ tt, lit≤ tt)
words_within Eight = (lit≤ tt, lit≤ tt)
words_within Sixteen = (lit≤ tt, lit≤ tt)

-- A buffer holds at least one word.
pub depth_least : (s : Settings) → 1 ≤ depth_of s
depth_least s = if_keeps (λ (d : ℕ). 1 ≤ d) s.con2.spiben (words_of s.depth) 1 (λ e. (words_within s.depth).0) (λ e. omega arith)

-- A buffer has a cell for each word of its depth.
pub depth_most : (s : Settings) → depth_of s ≤ capacity
depth_most s = if_keeps (λ (d : ℕ). d ≤ capacity) s.con2.spiben (words_of s.depth) 1 (λ e. (words_within s.depth).1) (λ e. omega arith)

-- A power of two is at least 1.
pub power_least : (k : ℕ) → 1 ≤ 2 ^ k
power_least k = one-le-pow k 2 (omega arith)

-- The bits that BUF keeps fit the width.
pub low_bits_fit : (s : Settings) (v : ℕ) → low_bits s v < 2 ^ width_of s
low_bits_fit s v = mod-lt v (power_least (width_of s))

-- A word that fits the width is shown whole.
pub low_bits_of_fit : (s : Settings) (v : ℕ) → v < 2 ^ width_of s → low_bits s v ≡ v
low_bits_of_fit s v h = mod-eq_of_lt h

-- A number below a power of two has no bit at that power or above.
pub no_bit_above : (v k i : ℕ) → v < 2 ^ k → k ≤ i → bit_of v i ≡ false
unfolding bit_of
no_bit_above v k i small above =
    ap (λ (q : ℕ). eqb (q % 2) 1) (div-eq_of_lt (lt_of_lt_of_le small (pow_mono above)))

-- A 1 shifted left by the width is the power.
pub one_shifted : (w : ℕ) → w ≤ 16 → (1 * 2 ^ w) % 2 ^ 32 ≡ 2 ^ w
one_shifted w most =
    ap (λ (x : ℕ). x % 2 ^ 32) (one-mul (2 ^ w)) ∙ mod-eq_of_lt (lt_of_le_of_lt (pow_mono most) (lit< tt))

-- A word has at least eight bits.
pub width_eight : (s : Settings) → 8 ≤ width_of s
width_eight s = if_keeps (λ (w : ℕ). 8 ≤ w) s.con1.mode16 _ _ (λ e. omega arith) (λ e. omega arith)
