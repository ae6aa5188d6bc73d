-- The branch is the choice of the definition.
use Rattle.std.specs.Prelude.{◌-◌}
use Rattle.laws.proofs.Common.{ap, arith, ℕ}
use Rattle.module_types.specs.declared.Receive.{Receive}
use Rattle.module_rules.specs.Changes.{with_receive}
use Rattle.module_rules.specs.Settings.{depth_of}
use Rattle.module_memory.specs.Memory.{settings_in, engine_in}
use Rattle.module_memory.proofs.Taken.{alike, stays}
use Rattle.module_word_steps.proofs.Rings.{fetched_taken, none_taken}
use Rattle.module_word_steps.proofs.fetch.Goals as goal

pub returns-then-count-gt0 : goal.returns-then-count-gt0
returns-then-count-gt0 c =
    let n = engine_in c.args.w.now in
    alike c.store_taken.ensures (ap (λ (b : Receive). with_receive b n) (fetched_taken (depth_of (settings_in c.args.w.now)) n.receive _ _ (omega arith) (rw (c.requires, c.cpu_read_in.ensures) at c.next_position-on.ensures) (ap (λ (x : ℕ). x - 1) c.unread_in-count.ensures)))

pub returns-else-count-gt0 : goal.returns-else-count-gt0
returns-else-count-gt0 c =
    let n = engine_in c.args.w.now in
    stays (ap (λ (b : Receive). with_receive b n) (none_taken (depth_of (settings_in c.args.w.now)) n.receive (omega arith)))
