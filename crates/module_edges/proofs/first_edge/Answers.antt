-- A word begins where one may and there is one to begin.
use Rattle.laws.proofs.Common.{refl, sym, ◌∙◌}
use Rattle.module_rules.specs.Edge.{clocked}
use Rattle.module_memory.proofs.Taken.{◌then◌, alike}
use Rattle.module_answers.proofs.Edges.{unbegun}
use Rattle.module_edges.proofs.Begins.{goes_alone, may_begin, begins_word}
use Rattle.module_edges.proofs.first_edge.Goals as goal

pub returns-then-none : goal.returns-then-none
unfolding clocked
returns-then-none c =
    alike c.store_sck.ensures (goes_alone _ _ _ _ _ (unbegun _ _ _ refl (sym c.requires.0.tested ∙ c.if-none.true)) c.requires.1)

pub returns-in-Some : goal.returns-in-Some
unfolding clocked
returns-in-Some c =
    alike (c.store_sck.ensures then c.begin.ensures)
    (begins_word _ _ _ _ c.requires.1
    (may_begin c.store_sck.ensures (sym c.requires.0.tested ∙ c.if-none.false) c.in-Some.ensures))

pub returns-in_default : goal.returns-in_default
unfolding clocked
returns-in_default c =
    alike c.store_sck.ensures
    (goes_alone _ _ _ _ _ (may_begin c.store_sck.ensures (sym c.requires.0.tested ∙ c.if-none.false) c.in_default.ensures) refl)
