-- An edge short of 2w counts and samples or shows; edge 2w finishes.
use Rattle.std.specs.Prelude.{◌+◌}
use Rattle.laws.proofs.Common.{arith, ℕ, refl, sym, ◌∙◌, ap, so, not_so, so_lt, not_so_lt}
use Rattle.word_order.specs.Bits.{bit_of}
use Rattle.module_types.specs.declared.Shift.TheVariants.{Begun}
use Rattle.module_rules.specs.Bits.{received_after, shown_bit}
use Rattle.module_rules.specs.Finish.{finished}
use Rattle.module_rules.specs.Edge.{word_edges, advanced}
use Rattle.module_rules.proofs.Sizes.{width_most}
use Rattle.module_memory.specs.Memory.{settings_in, engine_in}
use Rattle.module_memory.proofs.Looks.{begun_there}
use Rattle.module_memory.proofs.Taken.{◌then◌, alike}
use Rattle.module_answers.proofs.Edges.{on_begun, sampled, shown}
use Rattle.module_edges.proofs.go_on.Goals as goal

pub overflow_cast-edge-then-edge-last : goal.overflow_cast-edge-then-edge-last
overflow_cast-edge-then-edge-last c = omega (arith, width_most c.settings_in-s.result, c.width.ensures)

pub overflow_cast-edge-then-edge-last-2 : goal.overflow_cast-edge-then-edge-last-2
overflow_cast-edge-then-edge-last-2 c = omega (arith, width_most c.settings_in-s.result, c.width.ensures)

pub returns-then-edge-last : goal.returns-then-edge-last
unfolding advanced
returns-then-edge-last c =
    let word = begun_there c.args.w.now c.requires.0 ∙ ap Begun (sym c.progress_in-p.ensures) in
    alike c.store_gone.ensures
    (on_begun _ _ word _
    (so_lt (c.progress_in-p.result.edges + 1) (word_edges (settings_in c.args.w.now)) _ _ (omega (arith, rw c.settings_in-s.ensures at c.width.ensures))
    (sampled _ _ word _ (rw (c.is_sampling.ensures, c.requires.1) at c.if-is_sampling.true) c.shift_in-received.ensures)))

pub returns-else-edge-last : goal.returns-else-edge-last
unfolding advanced received_after
returns-else-edge-last c =
    let word = begun_there c.args.w.now c.requires.0 ∙ ap Begun (sym c.progress_in-p.ensures) in
    alike c.finish.ensures
    (on_begun _ _ word _
    (not_so_lt (c.progress_in-p.result.edges + 1) (word_edges (settings_in c.args.w.now)) _ _ (omega (arith, rw c.settings_in-s.ensures at c.width.ensures))
    (ap (λ (k : ℕ). finished (settings_in c.args.w.now) c.progress_in-p.result.filler k (engine_in c.args.w.now)) (so _ _ _ (rw (c.is_sampling.ensures, c.requires.1) at c.if-is_sampling.true) c.shift_in-received.ensures))))

pub returns-then-edge-last-2 : goal.returns-then-edge-last-2
unfolding advanced shown_bit
returns-then-edge-last-2 c =
    let word = begun_there c.args.w.now c.requires.0 ∙ ap Begun (sym c.progress_in-p.ensures) in
    alike (c.store_gone-then-edge-last-2.ensures then c.store_sdo.ensures)
    (on_begun _ _ word _
    (so_lt (c.progress_in-p.result.edges + 1) (word_edges (settings_in c.args.w.now)) _ _ (omega (arith, rw c.settings_in-s.ensures at c.width.ensures))
    (shown _ _ word _ (rw (c.is_sampling.ensures, c.requires.1) at c.if-is_sampling.false)
    (c.bit-sdo.ensures ∙ ap (bit_of c.progress_in-p.result.word) (omega (arith, rw c.settings_in-s.ensures at c.width.ensures))))))

pub returns-else-edge-last-2 : goal.returns-else-edge-last-2
unfolding advanced received_after
returns-else-edge-last-2 c =
    let word = begun_there c.args.w.now c.requires.0 ∙ ap Begun (sym c.progress_in-p.ensures) in
    alike c.finish-else-edge-last-2.ensures
    (on_begun _ _ word _
    (not_so_lt (c.progress_in-p.result.edges + 1) (word_edges (settings_in c.args.w.now)) _ _ (omega (arith, rw c.settings_in-s.ensures at c.width.ensures))
    (ap (λ (k : ℕ). finished (settings_in c.args.w.now) c.progress_in-p.result.filler k (engine_in c.args.w.now)) (not_so _ _ _ (rw (c.is_sampling.ensures, c.requires.1) at c.if-is_sampling.false) refl))))
