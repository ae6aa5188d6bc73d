-- A word that is begun goes on, and one that is not may begin. The pulse comes last.
use Rattle.laws.proofs.Common.{refl, sym, ◌∙◌, ap}
use Rattle.module_types.specs.declared.Engine.{Engine}
use Rattle.module_rules.specs.Settings.{cke_of}
use Rattle.module_rules.specs.Loading.{is_begun}
use Rattle.module_rules.specs.Edge.{clocked}
use Rattle.module_memory.specs.Memory.{settings_in}
use Rattle.module_memory.proofs.Taken.{◌then◌, alike}
use Rattle.module_answers.proofs.Edges.{goes_on, framed_cke, ends_framed}
use Rattle.module_edges.proofs.framed_edge.Goals as goal

pub go_on-requires : goal.go_on-requires
go_on-requires c = (
  ap (λ (n : Engine). is_begun n.shift) c.store_sck.ensures.engine ∙ sym c.is_begun.ensures ∙ c.if-is_begun.true,
  framed_cke (settings_in c.args.w.now) c.requires ∙ ap cke_of (sym c.store_sck.ensures.settings),
)

pub first_edge-requires : goal.first_edge-requires
first_edge-requires c =
    (record { tested = c.begins_none-none.ensures; seen = framed_cke (settings_in c.args.w.now) c.requires }, sym c.is_begun.ensures ∙ c.if-is_begun.false)

pub returns-then-is_begun : goal.returns-then-is_begun
unfolding clocked
returns-then-is_begun c =
    alike (c.store_sck.ensures then c.go_on.ensures then c.pulse_edge.ensures) (ends_framed _ _ _ _ (goes_on _ _ _ _ (sym c.is_begun.ensures ∙ c.if-is_begun.true)) c.requires)

pub returns-else-is_begun : goal.returns-else-is_begun
returns-else-is_begun c = alike (c.first_edge.ensures then c.pulse_edge-else-is_begun.ensures) (ends_framed _ _ _ _ refl c.requires)
