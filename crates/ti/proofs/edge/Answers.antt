-- An edge short of the last latches or shows; the last one finishes.
use Rattle.std.specs.Prelude.{◌+◌}
use Rattle.laws.proofs.Common.{refl, ◌∙◌, arith, so, not_so, clash, get_or-set_other}
use Rattle.ti_rules.specs.Edge.{latches}
use Rattle.word_order.proofs.WordBits.{bit_most}
use Rattle.ti.proofs.Calls.{flag_of}
use Rattle.ti.proofs.Edges.{latch_edge, show_edge, last_edge_lem}
use Rattle.ti.proofs.edge.Goals.{then-latches, else-latches}
use Rattle.ti.proofs.edge.Goals as goal

pub returns-then-latches-2 : goal.returns-then-latches-2
unfolding latches
returns-then-latches-2 c = latch_edge _ (search) _ (search) _ (cc) _ (omega arith) (search)
    (elim c.if-latches.branch [
      | then-latches b ↦ omega (arith, bit_most c.args.sdi, b.received-is, b.from.ensures)
      | else-latches b ↦ clash _ c.if-latches-2.true b.if-latches.false
    ])

pub returns-else-latches-2 : goal.returns-else-latches-2
unfolding latches
returns-else-latches-2 c = show_edge _ (search) _ (search) _ (cc) _ (omega arith) (search)
    (flag_of c.from-else-latches-2.ensures
    ∙ (rw (get_or-set_other c.args.w.now 9 8 (c.from-edge.result + 1) 0 (λ e. omega arith)) at c.bit.ensures))

pub returns-else-edge-from : goal.returns-else-edge-from
unfolding latches
returns-else-edge-from c =
    last_edge_lem _ (search) _ (search) (c.from-edge.result + 1) (cc) _ _ (omega arith)
    (elim c.if-latches.branch [
      | then-latches b ↦ so _ _ _ b.if-latches.true (omega (arith, bit_most c.args.sdi, b.received-is, b.from.ensures))
      | else-latches b ↦ b.received-is ∙ not_so _ _ _ b.if-latches.false refl
    ])
    c.finish.ensures
