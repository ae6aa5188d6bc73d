-- The lesser of 7 and the count that the definition picks.
use Rattle.std.specs.Prelude.{◌≡◌, min}
use Rattle.laws.proofs.Common.{ℕ, arith, ◌∙◌, ap, if_keeps, ltb, ltb-true, ltb-false, so, not_so, when◌then◌else◌}
use Rattle.module_rules.specs.Registers.{at_most7}
use Rattle.module_registers.proofs.spibec_value.Goals as goal
use Rattle.module_registers.proofs.spibec_value.Goals.{then-s, else-s}

least : (n : ℕ) → min n 7 ≡ at_most7 n
unfolding at_most7
least n =
    if_keeps (λ (x : ℕ). min n 7 ≡ x) (ltb n 7) n 7 (λ e. omega (arith, ltb-true n 7 e)) (λ e. omega (arith, ltb-false n 7 e))

pub returns : goal.returns
returns c =
    let picked : c.if-s.words ≡ (when c.args.s.con1.msten then c.args.waiting else c.args.unread) =
    elim c.if-s.branch [ then-s w ↦ so _ _ _ w.if-s.true w.words-is | else-s w ↦ not_so _ _ _ w.if-s.false w.words-is ]
    in
    record { value = c.min.ensures ∙ least _ ∙ ap at_most7 picked; bound = omega arith }
