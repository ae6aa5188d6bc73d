-- `trace_right::stated_end` meets its contract, test by test. Assumes nothing.
use Rattle.laws.proofs.Common.{ap, ◌∙◌, arith}
use Rattle.trace_right.specs.Ends.{gapless_end, ended}
use Rattle.trace_right.proofs.Contents.{ended_zero, too_long_lem, no_section, too_many, no_table, only_gapless}
use Rattle.trace_right.proofs.stated_end.Goals as goal
use Rattle.trace_right.proofs.stated_end.Goals.{then-n-lt1-via-then-n-lt1, then-n-lt1-via-else-n-lt1+then-n-gt64}

pub returns-then-f-gt65535 : goal.returns-then-f-gt65535
returns-then-f-gt65535 c = ended_zero (too_long_lem _ (omega arith))

pub returns-then-n-lt1 : goal.returns-then-n-lt1
returns-then-n-lt1 c =
    elim c.then-n-lt1.branch [
      | then-n-lt1-via-then-n-lt1 w ↦ ended_zero (no_section _ (omega (arith, c.if-f-gt65535.false)) (omega (arith, c.count-n.ensures, w.if-n-lt1.true)))
      | then-n-lt1-via-else-n-lt1+then-n-gt64 w ↦
          ended_zero
          (too_many _ (omega (arith, c.if-f-gt65535.false)) (omega (arith, c.count-n.ensures, w.if-n-lt1.false)) (omega (arith, c.count-n.ensures, w.if-n-gt64.true)))
    ]

pub returns-then-f-n : goal.returns-then-f-n
returns-then-f-n c = ended_zero (no_table _ (omega arith) (omega arith) (omega arith) (omega arith))

pub returns : goal.returns
returns c =
    c.gapless_end.ensures
    ∙ ap ended (ap (gapless_end c.args.f.now) c.count-n.ensures
    ∙ only_gapless c.args.f.now (omega arith) (omega arith) (omega arith) (omega arith))
