-- The branch is the choice of the definition.
use Rattle.std.specs.Prelude.{◌-◌}
use Rattle.laws.proofs.Common.{ap, arith, ℕ}
use Rattle.module_types.specs.declared.Transmit.{Transmit}
use Rattle.module_rules.specs.Changes.{with_transmit}
use Rattle.module_rules.specs.Settings.{depth_of}
use Rattle.module_memory.specs.Memory.{settings_in, engine_in}
use Rattle.module_memory.proofs.Taken.{alike, stays}
use Rattle.module_word_steps.proofs.Rings.{popped_departed, none_departs}
use Rattle.module_word_steps.proofs.pop.Goals as goal

pub returns-then-count-gt0 : goal.returns-then-count-gt0
returns-then-count-gt0 c =
    let n = engine_in c.args.w.now in
    alike c.store_departed.ensures
    (ap (λ (b : Transmit). with_transmit b n)
    (popped_departed (depth_of (settings_in c.args.w.now)) n.transmit _ _ (omega arith) (rw (c.requires, c.spi_read_in.ensures) at c.next_position-on.ensures) (ap (λ (x : ℕ). x - 1) c.waiting_in-count.ensures)))

pub returns-else-count-gt0 : goal.returns-else-count-gt0
returns-else-count-gt0 c =
    let n = engine_in c.args.w.now in
    stays (ap (λ (b : Transmit). with_transmit b n) (none_departs (depth_of (settings_in c.args.w.now)) n.transmit (omega arith)))
