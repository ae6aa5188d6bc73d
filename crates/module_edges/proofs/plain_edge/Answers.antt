-- A word that is begun goes on, and one that is not may begin: an unframed module awaits no pulse.
use Rattle.laws.proofs.Common.{refl, sym, ◌∙◌, ap}
use Rattle.module_rules.proofs.Types.{Settings, Engine}
use Rattle.module_rules.specs.Settings.{cke_of}
use Rattle.module_rules.specs.Loading.{is_begun}
use Rattle.module_rules.specs.Edge.{clocked}
use Rattle.module_memory.specs.Memory.{settings_in}
use Rattle.module_memory.proofs.Taken.{◌then◌, alike}
use Rattle.module_answers.proofs.Edges.{goes_on, plain_cke, ends_plain}
use Rattle.module_edges.proofs.Begins.{plain_first}
use Rattle.module_edges.proofs.plain_edge.Goals as goal

pub go_on-requires : goal.go_on-requires
go_on-requires c = (
  ap (λ (n : Engine). is_begun n.shift) c.store_sck.ensures.engine ∙ sym c.is_begun.ensures ∙ c.if-is_begun.true,
  ap (λ (s : Settings). s.con1.cke) c.settings_in-s.ensures ∙ plain_cke (settings_in c.args.w.now) c.requires ∙ ap cke_of (sym c.store_sck.ensures.settings),
)

pub first_edge-requires : goal.first_edge-requires
first_edge-requires c = (plain_first c.settings_in-s.ensures c.requires, sym c.is_begun.ensures ∙ c.if-is_begun.false)

pub returns-then-is_begun : goal.returns-then-is_begun
unfolding clocked
returns-then-is_begun c =
    alike (c.store_sck.ensures then c.go_on.ensures) (ends_plain _ _ _ _ (goes_on _ _ _ _ (sym c.is_begun.ensures ∙ c.if-is_begun.true)) c.requires)

pub returns-else-is_begun : goal.returns-else-is_begun
returns-else-is_begun c = alike c.first_edge.ensures (ends_plain _ _ _ _ refl c.requires)
