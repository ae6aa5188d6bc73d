-- The branch is the choice of the definition.
use Rattle.std.specs.Prelude.{◌+◌}
use Rattle.laws.proofs.Common.{ap, arith, ℕ}
use Rattle.module_types.specs.declared.Transmit.{Transmit}
use Rattle.module_rules.specs.Changes.{with_transmit}
use Rattle.module_rules.specs.Settings.{depth_of}
use Rattle.module_memory.specs.Memory.{settings_in, engine_in}
use Rattle.module_memory.proofs.Taken.{alike, stays}
use Rattle.module_word_steps.proofs.Rings.{pushed_written, full_stays}
use Rattle.module_word_steps.proofs.push.Goals as goal

pub returns-then-count-depth : goal.returns-then-count-depth
returns-then-count-depth c =
    let n = engine_in c.args.w.now in
    alike c.store_written.ensures
    (ap (λ (b : Transmit). with_transmit b n)
    (pushed_written (depth_of (settings_in c.args.w.now)) n.transmit c.args.word _ _ (omega arith) (rw (c.requires, c.cpu_write_in.ensures) at c.next_position-on.ensures) (ap (λ (x : ℕ). x + 1) c.waiting_in-count.ensures)))

pub returns-else-count-depth : goal.returns-else-count-depth
returns-else-count-depth c =
    let n = engine_in c.args.w.now in
    stays (ap (λ (b : Transmit). with_transmit b n) (full_stays (depth_of (settings_in c.args.w.now)) n.transmit c.args.word (omega arith)))
