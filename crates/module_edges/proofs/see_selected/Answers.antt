-- By whether the clock level is another.
use Rattle.module_rules.specs.Select.{select_remembered}
use Rattle.module_memory.proofs.Taken.{◌then◌, alike}
use Rattle.module_answers.proofs.Edges.{seen_same, seen_edge}
use Rattle.module_edges.proofs.see_selected.Goals as goal

pub returns-then-sck-before : goal.returns-then-sck-before
unfolding select_remembered
returns-then-sck-before c =
    alike c.store_ss.ensures (seen_same _ _ _ _ _ c.requires (rw c.pins_in-before.ensures at c.if-sck-before.true))

pub returns : goal.returns
unfolding select_remembered
returns c =
    alike (c.store_ss.ensures then c.edge.ensures) (seen_edge _ _ _ _ _ c.requires (rw c.pins_in-before.ensures at c.if-sck-before.false))
