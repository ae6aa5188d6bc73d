-- `trace_right::gapless_end` meets its contract. The loop's invariant: the sections before the one reached start where they must, and
-- so far they end at the place reached. Assumes nothing.
use Rattle.std.specs.Prelude.{◌+◌, ◌≡◌}
use Rattle.laws.proofs.Common.{suc, refl, sym, ap, ◌∙◌, arith, eq-eqb, ne_eqb, eqb, so}
use Rattle.laws.proofs.Common.{not_so}
use Rattle.trace_rules.specs.Trace.{table_end, start_of, size_of, all_below, place_of, gapless}
use Rattle.trace_page.proofs.TraceBelow.{below_next, below_fails}
use Rattle.trace_page.proofs.TraceContents.{place_below}
use Rattle.trace_right.specs.Ends.{ended}
use Rattle.trace_right.proofs.Contents.{ended_zero, ended_some}
use Rattle.trace_right.proofs.gapless_end.Goals as goal

pub loop-k-init : goal.loop-k-init
unfolding table_end all_below
loop-k-init c = (omega arith, omega (arith, c.requires), refl)

pub returns-then-here-at : goal.returns-then-here-at
returns-then-here-at c =
    ended_zero
    (not_so _ _ _
    (below_fails (λ j. eqb (start_of c.args.f.now j) (place_of c.args.f.now j)) _ c.loop-k.k (omega arith)
    (ne_eqb (start_of c.args.f.now c.loop-k.k) (place_of c.args.f.now c.loop-k.k) (λ e. c.if-here-at.true (c.start-here.ensures ∙ e ∙ sym c.loop-k.invariant.1)))) refl)

pub loop-k-preserved : goal.loop-k-preserved
loop-k-preserved c =
    let next : place_of c.args.f.now (c.loop-k.k + 1) ≡ place_of c.args.f.now c.loop-k.k + size_of c.args.f.now c.loop-k.k = ap (place_of c.args.f.now) (let same : c.loop-k.k + 1 ≡ suc c.loop-k.k = omega arith in same) in (
      omega arith,
      omega (arith, c.loop-k.invariant.1, c.size-bytes.ensures),
      below_next (λ j. eqb (start_of c.args.f.now j) (place_of c.args.f.now j)) c.loop-k.k c.loop-k.invariant.2 (eq-eqb (start_of c.args.f.now c.loop-k.k) (place_of c.args.f.now c.loop-k.k) (cc)),
    )

pub returns : goal.returns
unfolding table_end
returns c =
    let all : c.loop-k.k ≡ c.args.n = omega arith in
    ended_some _ (omega (arith, c.loop-k.invariant.1, place_below c.args.f.now c.loop-k.k 0 (omega arith)))
    ∙ ap ended (so _ _ _ (ap (gapless c.args.f.now) (sym all) ∙ c.loop-k.invariant.2) (c.loop-k.invariant.1 ∙ ap (place_of c.args.f.now) all))
