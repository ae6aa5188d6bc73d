-- The first edge of a word is short of its last. With CKE 1 it samples SDI, and else it shows the top bit.
use Rattle.laws.proofs.Common.{arith, sym, ◌∙◌, clash, so_lt}
use Rattle.module_rules.specs.Edge.{word_edges, advanced}
use Rattle.module_rules.proofs.Sizes.{width_least}
use Rattle.module_memory.specs.Memory.{settings_in}
use Rattle.module_memory.proofs.Taken.{◌then◌, alike}
use Rattle.module_edges.proofs.Begins.{begins_sampled, begins_shown}
use Rattle.module_edges.proofs.begin.Goals as goal
use Rattle.module_edges.proofs.begin.Goals.{then-cke, else-cke}

pub returns-else-not-cke : goal.returns-else-not-cke
unfolding advanced
returns-else-not-cke c =
    alike c.store_begun.ensures
    (so_lt 1 (word_edges (settings_in c.args.w.now)) _ _ (omega (arith, width_least (settings_in c.args.w.now)))
    (begins_sampled _ _ _ (sym c.requires ∙ c.if-not-cke.false)
    (elim c.if-cke.branch [ then-cke w ↦ w.received-is ∙ w.shift_in-received.ensures | else-cke w ↦ clash _ c.if-not-cke.false w.if-cke.false ])))

pub returns-then-not-cke : goal.returns-then-not-cke
unfolding advanced
returns-then-not-cke c =
    alike (c.store_begun.ensures then c.store_sdo.ensures)
    (so_lt 1 (word_edges (settings_in c.args.w.now)) _ _ (omega (arith, width_least (settings_in c.args.w.now)))
    (begins_shown _ _ _ (sym c.requires ∙ c.if-not-cke.true)
    (elim c.if-cke.branch [ then-cke w ↦ clash _ w.if-cke.true c.if-not-cke.true | else-cke w ↦ w.received-is ])
    (rw c.settings_in-s.ensures at c.top_bit-sdo.ensures)))
