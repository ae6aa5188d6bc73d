-- `trace_writer::keep_sections` meets its contract. The loop's invariant: the sections before the one reached are kept, and the levels are
-- those that they give. Assumes nothing.
use Rattle.std.specs.Prelude.{◌+◌, ◌<◌, ◌≤◌}
use Rattle.laws.proofs.Common.{ℕ, refl, ap, ◌∙◌, arith, ltb, when◌then◌else◌}
use Rattle.trace_writer.proofs.Salvaging.{keeping_first, near, size_fits, keeping_goes_on, keeping_ends, told_byte}
use Rattle.word_order.proofs.WordBits.{bit_most}
use Rattle.trace_writer.proofs.keep_sections.Goals as goal
use Rattle.trace_writer.proofs.keep_sections.Goals.{After-size, At-loop-k}

-- The section that the loop has reached is one of 64.
here : (c : At-loop-k) → c.loop-k.k < c.count-n.result → c.loop-k.k < 64
here c more = near c.args.f.now c.requires.0 c.loop-k.invariant more

-- With this section, the new file is short.
short : (c : After-size) →
    c.loop-k.end + c.keep_section-size.result ≤ 65535
short c =
    size_fits c.args.f.now c.requires.0 c.loop-k.invariant c.loop-k-test.true _ _ c.body_of-body.ensures
    c.keep_section-size.ensures.value

pub loop-k-init : goal.loop-k-init
loop-k-init c = keeping_first c.args.f.now c.args.sizes.now c.count-n.result c.count-n.ensures c.requires.1

pub keep_section-size-requires : goal.keep_section-size-requires
keep_section-size-requires c = omega (arith, here (goal.at.keep_section-size-requires c).At-loop-k c.loop-k-test.true)

pub overflow_add-end-in-loop-k : goal.overflow_add-end-in-loop-k
overflow_add-end-in-loop-k c = omega (arith, short (goal.at.overflow_add-end-in-loop-k c).After-size)

pub overflow_cast-sizes : goal.overflow_cast-sizes
overflow_cast-sizes c = omega (arith, short (goal.at.overflow_cast-sizes c).After-size)

pub bounds-sizes-k : goal.bounds-sizes-k
bounds-sizes-k c = here (goal.at.bounds-sizes-k c).At-loop-k c.loop-k-test.true

pub loop-k-preserved : goal.loop-k-preserved
loop-k-preserved c =
    keeping_goes_on c.args.f.now c.requires.0 c.loop-k.invariant c.loop-k-test.true _ _ _
    c.keep_section-size.result _ c.body_of-body.ensures (c.keep_section-size.ensures.value, c.keep_section-size.ensures.levels_after)
    (told_byte (ltb c.keep_section-size.result c.size.result) ∙ ap (λ (m : ℕ). when ltb c.keep_section-size.result m then 1 else 0) c.size.ensures)
    (bit_most _) refl

pub returns : goal.returns
returns c =
    let e = keeping_ends c.loop-k.invariant c.loop-k-test.false in record { cut_value = (e.0, e.1); kept_sizes = e.2 }
