-- `trace_right::records_right` meets its contract. The loop's invariant: the sections before the one reached are right, and the
-- levels are those that they give. Assumes nothing.
use Rattle.std.specs.Prelude.{◌+◌, ◌<◌, ◌≡◌}
use Rattle.laws.proofs.Common.{refl, ap, subst, sym, ◌∙◌, arith}
use Rattle.trace_rules.specs.Trace.{section_count, entries_of, all_below, all_of, records_right}
use Rattle.trace_page.proofs.TraceBelow.{below_next, below_fails}
use Rattle.trace_right.specs.Levels.{LevelsAt}
use Rattle.trace_numbers.proofs.Records.{section_below}
use Rattle.trace_right.proofs.Levels.{levels_first_lem, levels_next, level_here}
use Rattle.trace_right.proofs.records_right.Goals as goal

pub loop-k-init : goal.loop-k-init
unfolding all_below
loop-k-init c = (levels_first_lem _, refl)

pub section_right-requires : goal.section_right-requires
section_right-requires c =
    let below : c.loop-k.k < section_count c.args.f.now = omega arith in
    record { f_value = (c.requires, below); k_value = level_here (entries_of c.args.f.now) c.loop-k.k c.loop-k.levels c.loop-k.invariant.0 (section_below c.args.f.now c.requires c.loop-k.k below) }

pub returns-then-not-section_right : goal.returns-then-not-section_right
unfolding records_right
returns-then-not-section_right c =
    sym
    (below_fails (λ j. all_of c.args.f.now j (entries_of c.args.f.now j)) (section_count c.args.f.now) c.loop-k.k (omega arith)
    (sym c.section_right.ensures.value ∙ c.if-not-section_right.true))

pub loop-k-preserved : goal.loop-k-preserved
loop-k-preserved c =
    let so = c.if-not-section_right.false in (
      subst (LevelsAt (entries_of c.args.f.now) (c.loop-k.k + 1)) (sym (c.section_right.ensures.levels_after so))
          (levels_next (entries_of c.args.f.now) c.loop-k.k c.loop-k.levels c.loop-k.invariant.0),
      below_next (λ j. all_of c.args.f.now j (entries_of c.args.f.now j)) c.loop-k.k c.loop-k.invariant.1 (sym c.section_right.ensures.value ∙ so),
    )

pub returns : goal.returns
unfolding records_right
returns c =
    sym
    (ap (all_below (λ j. all_of c.args.f.now j (entries_of c.args.f.now j))) (let all : section_count c.args.f.now ≡ c.loop-k.k = omega arith in all)
    ∙ c.loop-k.invariant.1)
