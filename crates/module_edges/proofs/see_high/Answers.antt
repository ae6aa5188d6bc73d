-- An SSEN client is deselected.
use Rattle.laws.proofs.Common.{sym, ◌∙◌}
use Rattle.module_memory.specs.Memory.{settings_in}
use Rattle.module_memory.proofs.Taken.{◌then◌, alike}
use Rattle.module_answers.proofs.Edges.{select_high, seen_off}
use Rattle.module_edges.proofs.see_high.Goals as goal

pub deselect-requires : goal.deselect-requires
deselect-requires c = rw c.settings_in-s.ensures at (sym c.ssen_client.ensures ∙ c.if-ssen_client.true)

pub see_selected-requires : goal.see_selected-requires
see_selected-requires c =
    sym (select_high (settings_in c.args.w.now)) ∙ rw c.settings_in-s.ensures at (sym c.ssen_client.ensures ∙ c.if-ssen_client.false)

pub returns-then-ssen_client : goal.returns-then-ssen_client
returns-then-ssen_client c =
    alike (c.deselect.ensures then c.store_sck.ensures) (seen_off _ _ _ _ _ (sym (select_high (settings_in c.args.w.now)) ∙ rw c.settings_in-s.ensures at (sym c.ssen_client.ensures ∙ c.if-ssen_client.true)))

pub returns-else-ssen_client : goal.returns-else-ssen_client
returns-else-ssen_client c = c.see_selected.ensures
