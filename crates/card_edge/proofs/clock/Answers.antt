-- An open clock; an edge of the sample that changes SDO, samples SDI or does neither; and its last edge.
use Rattle.laws.proofs.Common.{arith, ◌∙◌}
use Rattle.card_edge.proofs.EdgeHolds.{frame_small, clock_open, clock_held, clock_shown, clock_sampled, clock_lead, clock_finish, takes, skips_first, skips_lead}
use Rattle.card_edge.proofs.clock.Goals as goal
use Rattle.card_edge.proofs.clock.Goals.{then-edges-eq0, else-edges-eq0+then-f-edge, else-edges-eq0+else-f-edge}
use Rattle.card_edge.proofs.clock.Goals.{then-edge-eq0+then-f-edge-2, else-edge-eq0, else-edge-eq0-via-then-edge-eq0+else-f-edge-2, else-edge-eq0-via-else-edge-eq0}

pub returns-then-w-eq0-2 : goal.returns-then-w-eq0-2
returns-then-w-eq0-2 c = clock_open _ _ c.if-w-eq0.true c.told-w c.if-w-eq0-2.true

pub returns-else-w-eq0-2 : goal.returns-else-w-eq0-2
returns-else-w-eq0-2 c = clock_held _ _ c.if-w-eq0.true c.if-w-eq0-2.false

pub shown-requires : goal.shown-requires
shown-requires c = let f = frame_small _ _ c.requires in (omega (arith, c.if-edge-f.true), omega (arith, f.0))

pub returns-after-edges-eq0 : goal.returns-after-edges-eq0
returns-after-edges-eq0 c =
    elim c.if-edges-eq0.branch [
      | then-edges-eq0 w ↦
          rw w.w-is (clock_shown _ _ c.requires _ c.if-w-eq0.false c.told-w _ c.if-edge-f.true w.if-edges-eq0.true w.shown.ensures)
      | else-edges-eq0+then-f-edge w ↦
          rw w.w-is
          (clock_sampled _ _ c.requires _ c.if-w-eq0.false c.told-w _ c.if-edge-f.true w.if-edges-eq0.false w.if-f-edge.true w.shift_in.ensures)
      | else-edges-eq0+else-f-edge w ↦
          rw w.w-is (clock_lead _ _ c.requires _ c.if-w-eq0.false c.told-w c.if-edge-f.true w.if-edges-eq0.false w.if-f-edge.false)
    ]

pub returns-after-edge-eq0 : goal.returns-after-edge-eq0
returns-after-edge-eq0 c =
    clock_finish _ _ c.requires _ c.if-w-eq0.false _ c.if-edge-f.false
    (elim c.if-edge-eq0.branch [
      | then-edge-eq0+then-f-edge-2 w ↦
          takes _ _ c.requires _ c.if-w-eq0.false w.if-edge-eq0.true w.if-f-edge-2.true (w.received-is ∙ w.shift_in-received.ensures)
      | else-edge-eq0 w ↦
          w.received-is
          ∙ elim w.else-edge-eq0.branch [
            | else-edge-eq0-via-then-edge-eq0+else-f-edge-2 v ↦ skips_lead _ _ c.requires _ c.if-w-eq0.false v.if-f-edge-2.false
            | else-edge-eq0-via-else-edge-eq0 v ↦ skips_first _ _ c.requires _ c.if-w-eq0.false v.if-edge-eq0.false
          ]
    ])
    c.finish.ensures
