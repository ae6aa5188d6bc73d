-- 1 shifted by the width is the power that the definition takes the remainder by.
use Rattle.std.specs.Prelude.{◌%◌, ◌^◌, ◌<◌, ◌≤◌}
use Rattle.laws.proofs.Common.{arith, mod-lt, lt_of_lt_of_le, ℕ, ap, subst, sym, ◌∙◌}
use lib.Pow.{pow_pos, pow_mono}
use Rattle.module_rules.proofs.Sizes.{width_most, one_shifted}
use Rattle.module_bits.proofs.low_bits.Goals as goal

pub overflow_shl-result : goal.overflow_shl-result
overflow_shl-result c = omega (arith, width_most c.args.s)

pub nonzero_rem-result : goal.nonzero_rem-result
nonzero_rem-result c =
    let most : c.width-w.result ≤ 16 = omega (arith, width_most c.args.s) in
    subst (λ (q : ℕ). 0 < q) (sym (one_shifted c.width-w.result most)) (pow_pos c.width-w.result)

pub overflow_cast-result-3 : goal.overflow_cast-result-3
overflow_cast-result-3 c =
    let most : c.width-w.result ≤ 16 = omega (arith, width_most c.args.s) in
    record {
      fits =
          subst (λ (q : ℕ). c.args.v % q < 65536) (sym (one_shifted c.width-w.result most))
          (lt_of_lt_of_le (mod-lt c.args.v (pow_pos c.width-w.result)) (pow_mono most));
    }

pub returns : goal.returns
returns c =
    let most : c.width-w.result ≤ 16 = omega (arith, width_most c.args.s) in
    ap (λ (q : ℕ). c.args.v % q) (one_shifted c.width-w.result most ∙ ap (λ (w : ℕ). 2 ^ w) c.width-w.ensures)
