-- A word call from a word's beginning, by what its code has looked up and stored.
--     level_fits, sum_fits        the first level at the top bit, within 16 bits
--     levels_late, levels_early   the levels with CKE 0, and with CKE 1
--     first_told   what is stored and told is what the definition has
-- Assumes nothing.
use Rattle.std.specs.Prelude.{◌+◌, ◌*◌, ◌-◌, ◌%◌, ◌^◌, ◌<◌, ◌≤◌, ◌≡◌}
use Rattle.laws.proofs.Common.{ℕ, Bool, true, false, List, refl, sym, ◌∙◌, mod-lt}
use Rattle.laws.proofs.Common.{arith, clash, so, not_so}
use mir.Val.{bool_byte}
use lib.Pow.{pow_mono}
use Rattle.word_order.specs.Bits.{bit_of}
use Rattle.word_order.proofs.WordBits.{bit_most}
use Rattle.module_rules.proofs.Types.{Settings, Progress, Done}
use Rattle.module_rules.specs.Changes.{with_sdo}
use Rattle.module_rules.specs.Settings.{width_of, cke_of}
use Rattle.module_rules.specs.Registers.{low_bits}
use Rattle.module_rules.specs.Finish.{finished}
use Rattle.module_rules.proofs.Sizes.{width_most, one_shifted}
use Rattle.word_rules.specs.Word.{current, word_of}
use Rattle.word_rules.proofs.WordMade.{at}
use Rattle.word_begins.specs.Beginning.{at_start, levels_first}
use Rattle.word_begins.proofs.Begins.{first_word_lem, start_begins}
use Rattle.module_memory.specs.Memory.{settings_in, engine_in, module_in, Steps}
use Rattle.module_memory.proofs.Taken.{module_after}
use Rattle.word_calls.specs.Speaking.{word_number, WordTells}
use Rattle.word_calls.proofs.Powers.{unit_least, product_fits}
use Rattle.word_calls.proofs.Making.{speaks_as, told_so}

-- A unit of up to 15 places, with the level of SDO at its place and the bits of a word below.
module _ (k : ℕ) (few : k ≤ 15) where
  abbrev unit : ℕ
  unit = 1 * 2 ^ k % 2 ^ 32

  most : k ≤ 16
  most = omega arith

  pub level_fits : (b : Bool) → bool_byte b * unit < 4294967296
  level_fits b = product_fits k most (bool_byte b) (omega (arith, bit_most b))

  pub sum_fits : (word : ℕ) (b : Bool) → word % unit + bool_byte b * unit < 65536
  sum_fits word true = omega (arith, one_shifted k most, pow_mono {i = k} {j = 15} few, mod-lt word (unit_least k most))
  sum_fits word false = omega (arith, one_shifted k most, pow_mono {i = k} {j = 15} few, mod-lt word (unit_least k most))

  pub levels_early : (s : Settings) (word : ℕ) (sdo : Bool) → cke_of s ≡ true → k ≡ width_of s - 1 →
      word % unit + bool_byte sdo * unit ≡ levels_first s word sdo
  unfolding levels_first
  levels_early s word sdo early is = so _ _ _ early (rw (one_shifted k most, is))

pub levels_late : (s : Settings) (word : ℕ) (sdo : Bool) → cke_of s ≡ false → low_bits s word ≡ levels_first s word sdo
unfolding levels_first
levels_late s word sdo late = not_so _ _ _ late refl

-- The levels and their number go into one number without loss.
whole_number : (levels count : ℕ) → levels < 65536 → count ≤ 16 → levels + count * 16777216 ≡ word_number Done count levels
unfolding word_number
whole_number levels count small few = omega (arith, small, few)

pub first_told : {w after : List ℕ} {p : Progress} {sdo : Bool} {levels got count : ℕ} (ss : Bool) (word : ℕ) → at_start (module_in w) ≡ true →
    p ≡ current (settings_in w) (engine_in w) → sdo ≡ (engine_in w).pins.sdo → levels ≡ levels_first (settings_in w) p.word sdo → levels < 65536 →
    got ≡ low_bits (settings_in w) word → count ≡ width_of (settings_in w) →
    Steps (λ s n. finished s p.filler got (with_sdo (bit_of p.word 0) n)) w after →
    WordTells (word_of (module_in w) ss word) (levels + count * 16777216) w after
first_told {w} {after} {p} {sdo} {levels} {got} {count} ss word start is level show small take width made =
    let s = settings_in w in
    let n = engine_in w in
    told_so
    (speaks_as (sym (first_word_lem s n ss (start_begins s n ss start) word))
    (record {
      answer = refl;
      count = width;
      levels = show ∙ (λ i. levels_first s (is i).word (level i));
      holds = module_after made ∙ (λ i. at s (finished s (is i).filler (take i) (with_sdo (bit_of (is i).word 0) n)));
      untouched = λ e. clash false e refl;
    }))
    (whole_number levels count small (omega (arith, width, width_most s)))
