-- SS is driven by an enabled frame host.
use Rattle.laws.proofs.Common.{ap, not}
use Rattle.laws.proofs.Common.{arith}
use Rattle.module_memory.specs.Memory.{module_in}
use Rattle.module_by_number.proofs.Outputs.{ss_off, ss_none, ss_on}
use Rattle.module_by_number.proofs.ss_bits.Goals as goal
use Rattle.module_by_number.proofs.ss_bits.Goals.{then-not-s-via-then-not-s, then-not-s-via-else-not-s+then-not-is_frame_host}

pub returns-then-not-s : goal.returns-then-not-s
returns-then-not-s c = (
  elim c.then-not-s.branch [
    | then-not-s-via-then-not-s w ↦ ss_off (module_in c.args.w.now) (rw c.settings_in-s.ensures at w.if-not-s.true)
    | then-not-s-via-else-not-s+then-not-is_frame_host w ↦
        ss_none (module_in c.args.w.now) (rw c.settings_in-s.ensures at w.if-not-s.false)
        (ap not (rw (w.is_frame_host.ensures, c.settings_in-s.ensures) at w.if-not-is_frame_host.true))
  ],
  omega arith,
)

pub returns : goal.returns
returns c = (
  ss_on (module_in c.args.w.now) (rw c.settings_in-s.ensures at c.if-not-s.false) (ap not (rw (c.is_frame_host.ensures, c.settings_in-s.ensures) at c.if-not-is_frame_host.false))
      (rw (c.pins_in-pins.ensures, c.settings_in-s.ensures) at c.weigh.ensures.value),
  omega (arith, c.weigh.ensures.bound),
)
