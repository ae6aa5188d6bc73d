-- The branch is the choice of the definition.
use Rattle.laws.proofs.Common.{refl, sym, ◌∙◌, so, not_so}
use Rattle.module_rules.specs.Select.{aborted, select_seen, select_remembered}
use Rattle.module_memory.proofs.Taken.{◌then◌, alike}
use Rattle.module_edges.proofs.deselect.Goals as goal

pub returns-then-begun : goal.returns-then-begun
unfolding select_seen aborted select_remembered
returns-then-begun c =
    alike (c.store_ss.ensures then c.store_free.ensures then c.rest.ensures)
    (so _ _ _ (rw c.requires (sym c.is_begun-begun.ensures ∙ c.if-begun.true)) refl)

pub returns-else-begun : goal.returns-else-begun
unfolding select_seen select_remembered
returns-else-begun c =
    alike c.store_ss.ensures (not_so _ _ _ (rw c.requires (sym c.is_begun-begun.ensures ∙ c.if-begun.false)) refl)
