-- Zeros begin where nothing was written.
use Rattle.laws.proofs.Common.{ap}
use Rattle.ti_rules.specs.declared.Ti.{Ti}
use Rattle.ti_rules.specs.Characters.{is_free}
use Rattle.ti.specs.Steps.{begun}
use Rattle.ti.proofs.Calls.{◌then◌, alike}
use Rattle.ti.proofs.Parts.{is_busy, free_there}
use Rattle.ti.proofs.Edges.{zeros_edge}
use Rattle.ti.proofs.slave_edge.Goals.{then-w-eq0, else-w-eq0}
use Rattle.ti.proofs.slave_edge.Goals as goal

pub edge-requires : goal.edge-requires
unfolding begun
edge-requires c =
    elim c.if-w-eq0.branch [
      | then-w-eq0 b ↦ rw b.w-is (ap (λ (m : Ti). is_free m.engine.shift) b.begin.ensures.steps)
      | else-w-eq0 b ↦ rw b.w-is (is_busy _ b.if-w-eq0.false)
    ]

pub returns : goal.returns
returns c =
    elim c.if-w-eq0.branch [
      | then-w-eq0 b ↦ alike (b.begin.ensures then (rw b.w-is at c.edge.ensures)) (zeros_edge _ _ _ (free_there _ b.if-w-eq0.true))
      | else-w-eq0 b ↦ rw b.w-is at c.edge.ensures
    ]
