-- `trace_counts::pass_over` meets its contract. The loop's invariant: from the place reached on, `to` is where the next record lies
-- that is not idle, and the table is right. Assumes nothing.
use Rattle.std.specs.Prelude.{◌+◌, ◌*◌, ◌-◌, ◌/◌, ◌%◌, ◌≤◌, ◌≡◌}
use Rattle.laws.proofs.Common.{ℕ, ap, ap₂, subst, sym, ◌∙◌, arith, length, set}
use Rattle.laws.proofs.Common.{when◌then◌else◌}
use Rattle.trace_rules.specs.declared.Entry.{Entry}
use Rattle.trace_counts.specs.Idle.{idle, landing_of, PassedFrom}
use Rattle.trace_counts.proofs.Idle.{landing_end, landing_step, passed_first, passed_next, passed_all}
use Rattle.trace_counts.proofs.pass_over.Goals as goal

pub returns-then-f-gt65535 : goal.returns-then-f-gt65535
returns-then-f-gt65535 c = λ short. absurd (omega (arith, short))

pub loop-i-init : goal.loop-i-init
loop-i-init c =
    let all : length c.args.f.now ≡ length c.args.f.now % 4 + 4 * (length c.args.f.now / 4) = omega arith in (
      sym (landing_end _) ∙ ap (landing_of c.args.f.now) all,
      subst (λ (i : ℕ). PassedFrom c.args.f.now i c.args.next.now) all (passed_first _ _ c.told-next),
    )

pub land-to-requires : goal.land-to-requires
land-to-requires c = c.loop-i.invariant.1.all

pub loop-i-preserved : goal.loop-i-preserved
loop-i-preserved c =
    let at = length c.args.f.now % 4 + 4 * (c.loop-i.i - 1) in
    let inside : at + 4 ≤ length c.args.f.now = omega arith in
    let aligned : (length c.args.f.now - at) % 4 ≡ 0 = omega arith in
    let same : length c.args.f.now % 4 + 4 * c.loop-i.i ≡ at + 4 = omega arith in
    let behind : c.loop-i.to ≡ landing_of c.args.f.now (at + 4) = c.loop-i.invariant.0 ∙ ap (landing_of c.args.f.now) same in (
      c.land-to.ensures.value
          ∙ ap₂ (λ (x : Entry) (j : ℕ). when idle x then j else at) c.entry_at-e.ensures behind
          ∙ sym (landing_step c.args.f.now at inside),
      subst (PassedFrom c.args.f.now at)
          (sym (c.land-to.ensures.next_after ∙ ap (λ (x : Entry). when idle x then set c.loop-i.next (at / 4) c.loop-i.to else c.loop-i.next) c.entry_at-e.ensures))
          (passed_next c.args.f.now at c.loop-i.next inside (omega arith) aligned
          (subst (λ (i : ℕ). PassedFrom c.args.f.now i c.loop-i.next) same c.loop-i.invariant.1) c.loop-i.to behind),
    )

pub returns : goal.returns
returns c = λ short. passed_all _ _ c.loop-i.next (omega arith) (omega arith) (omega arith) c.loop-i.invariant.1
