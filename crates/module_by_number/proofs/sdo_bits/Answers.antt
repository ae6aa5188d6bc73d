-- Each test is one of the cases in which SDO is undriven.
use Rattle.laws.proofs.Common.{arith}
use Rattle.module_memory.specs.Memory.{module_in}
use Rattle.module_by_number.proofs.Outputs.{sdo_off, sdo_kept, sdo_away, sdo_on}
use Rattle.module_by_number.proofs.sdo_bits.Goals as goal
use Rattle.module_by_number.proofs.sdo_bits.Goals.{then-not-s-via-then-not-s, then-not-s-via-else-not-s+then-s}

pub returns-then-not-s : goal.returns-then-not-s
returns-then-not-s c = (
  elim c.then-not-s.branch [
    | then-not-s-via-then-not-s w ↦ sdo_off (module_in c.args.w.now) (rw c.settings_in-s.ensures at w.if-not-s.true)
    | then-not-s-via-else-not-s+then-s w ↦
        sdo_kept (module_in c.args.w.now) (rw c.settings_in-s.ensures at w.if-not-s.false) (rw c.settings_in-s.ensures at w.if-s.true)
  ],
  omega arith,
)

pub returns-then-is_deselected : goal.returns-then-is_deselected
returns-then-is_deselected c = (
  sdo_away (module_in c.args.w.now) (rw c.settings_in-s.ensures at c.if-not-s.false) (rw c.settings_in-s.ensures at c.if-s.false)
      (rw (c.is_deselected.ensures, c.settings_in-s.ensures, c.pins_in-pins.ensures) at c.if-is_deselected.true),
  omega arith,
)

pub returns : goal.returns
returns c = (
  sdo_on (module_in c.args.w.now) (rw c.settings_in-s.ensures at c.if-not-s.false) (rw c.settings_in-s.ensures at c.if-s.false)
      (rw (c.is_deselected.ensures, c.settings_in-s.ensures, c.pins_in-pins.ensures) at c.if-is_deselected.false) (rw c.pins_in-pins.ensures at c.weigh.ensures.value),
  omega (arith, c.weigh.ensures.bound),
)
