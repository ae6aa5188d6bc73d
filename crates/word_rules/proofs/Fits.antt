-- What a word call tells fits the fields of the number that the library returns.
--     few_levels   SDO is told at 16 edges at the most
--     levels_fit   so its levels are a number below 65,536, if the bits received so far are one, as in every memory
-- Assumes nothing.
use Rattle.std.specs.Prelude.{◌+◌, ◌*◌, ◌%◌, ◌^◌, ◌<◌, ◌≤◌, ◌&&◌}
use Rattle.laws.proofs.Common.{ℕ, suc, Bool, pow-succ', mod-lt, arith, lit≤}
use Rattle.laws.proofs.Common.{when◌then◌else◌, if_keeps, by_test}
use native.Mathlib.Nat.{mul-le-mul_right}
use lib.Pow.{pow_mono}
use Rattle.module_rules.proofs.Types.{Settings, Module, Progress}
use Rattle.module_rules.specs.Settings.{width_of, cke_of, framed}
use Rattle.module_rules.specs.Bits.{samples}
use Rattle.module_rules.specs.Edge.{word_edges}
use Rattle.module_rules.proofs.Sizes.{power_least}
use Rattle.word_order.proofs.WordBits.{bit_most}
use Rattle.word_rules.specs.declared.Worded.{Worded}
use Rattle.word_rules.specs.Word.{current, has_word, bits_left, level_on, whole_word, one_step, word_of}
use Rattle.word_rules.proofs.Closed.{behind, all_levels}
use Rattle.word_rules.proofs.Values.{fewer}
use Rattle.word_rules.proofs.WordHolds.{started, whole_word_lem, single_step}

few_bits : (s : Settings) (k : ℕ) → bits_left s k ≤ 16
unfolding bits_left
few_bits s k =
    let most : width_of s ≤ 16 = if_keeps (λ (w : ℕ). w ≤ 16) s.con1.mode16 _ _ (λ e. lit≤ tt) (λ e. lit≤ tt) in
    omega (arith, most)

pub few_levels : (m : Module) (ss : Bool) (word : ℕ) → (word_of m ss word).count ≤ 16
unfolding word_of whole_word one_step
few_levels m ss word =
    if_keeps (λ (r : Worded). r.count ≤ 16) (has_word m ss) _ _ (λ e. few_bits m.settings _) (λ e. omega (arith, bit_most (m.settings.spien && framed m.settings)))

-- A bit and the low bits of a word behind it, of so many in all.
below : (x n v : ℕ) → x ≤ 1 → suc n ≤ 16 → x * 2 ^ n + v % 2 ^ n < 65536
below x n v one few =
    omega (arith, mod-lt v (power_least n), pow-succ' 2 n, pow_mono {i = suc n} {j = 16} few, mul-le-mul_right (2 ^ n) one)

only : (n v : ℕ) → n ≤ 16 → 0 * 2 ^ n + v % 2 ^ n < 65536
only n v few = omega (arith, mod-lt v (power_least n), pow_mono {i = n} {j = 16} few)

all_fit : (s : Settings) (p : Progress) (sdo : Bool) → p.edges < word_edges s → all_levels s p sdo < 65536
unfolding all_levels behind level_on when◌then◌else◌
all_fit s p sdo short =
    by_test (samples (cke_of s) (p.edges + 1))
    (λ e.
    rw e
    (below _ (bits_left s (p.edges + 1)) p.word (omega (arith, bit_most sdo)) (omega (arith, fewer s p.edges short e, few_bits s p.edges))))
    (λ e. rw e (only (bits_left s (p.edges + 1)) p.word (few_bits s (p.edges + 1))))

pub levels_fit : (m : Module) (ss : Bool) (word : ℕ) → (current m.settings m.engine).received < 65536 → (word_of m ss word).levels < 65536
unfolding one_step
levels_fit m ss word small =
    by_test (has_word m ss)
    (λ e.
    rw (whole_word_lem m ss word e small)
    (all_fit m.settings (current m.settings m.engine) m.engine.pins.sdo (started m ss e).short))
    (λ e.
    rw (single_step m ss word e) (omega (arith, bit_most ((m.settings.spien && framed m.settings) && m.engine.pins.sdo))))
