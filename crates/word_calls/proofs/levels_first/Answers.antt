-- By CKE. The first level at the top bit stays within 16 bits.
use Rattle.std.specs.Prelude.{◌≡◌, ◌-◌, ◌≤◌}
use Rattle.laws.proofs.Common.{ℕ, refl, sym, ap, ◌∙◌, arith, not_so}
use Rattle.module_rules.proofs.Types.{Settings}
use Rattle.module_rules.specs.Settings.{width_of}
use Rattle.module_rules.proofs.Sizes.{width_least, width_most}
use Rattle.word_begins.specs.Beginning.{levels_first}
use Rattle.word_calls.proofs.Powers.{unit_least}
use Rattle.word_calls.proofs.First.{level_fits, sum_fits, levels_early}
use Rattle.word_calls.proofs.levels_first.Goals as goal

few : (s : Settings) {w : ℕ} → w ≡ width_of s → w - 1 ≤ 15
few s e = omega (arith, width_most s)

pub returns-then-not-cke : goal.returns-then-not-cke
returns-then-not-cke c =
    c.low_bits.ensures
    ∙ (unfold levels_first in not_so _ _ _ (sym c.cke.ensures ∙ c.if-not-cke.true) refl)

pub overflow_sub-top : goal.overflow_sub-top
overflow_sub-top c = omega (arith, c.width.ensures, width_least c.args.s)

pub overflow_shl-top : goal.overflow_shl-top
overflow_shl-top c = omega (arith, few c.args.s c.width.ensures)

pub nonzero_rem-result : goal.nonzero_rem-result
nonzero_rem-result c = unit_least (c.width.result - 1) (omega (arith, few c.args.s c.width.ensures))

pub overflow_mul-result : goal.overflow_mul-result
overflow_mul-result c = record { fits = level_fits _ (few c.args.s c.width.ensures) c.args.sdo }

pub overflow_add-result : goal.overflow_add-result
overflow_add-result c =
    let all = sum_fits _ (few c.args.s c.width.ensures) c.args.word c.args.sdo in
    record { fits = omega arith }

pub overflow_cast-result-3 : goal.overflow_cast-result-3
overflow_cast-result-3 c = record { fits = sum_fits _ (few c.args.s c.width.ensures) c.args.word c.args.sdo }

pub returns : goal.returns
returns c =
    levels_early _ (few c.args.s c.width.ensures) _ _ _ (sym c.cke.ensures ∙ c.if-not-cke.false)
    (ap (λ (w : ℕ). w - 1) c.width.ensures)
