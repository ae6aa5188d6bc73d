-- What begins at an edge, if anything does.
use Rattle.std.specs.Prelude.{Option, Some, None}
use Rattle.module_types.specs.declared.Progress.{Progress}
use Rattle.module_types.specs.declared.Shift.{Shift}
use Rattle.module_types.specs.declared.Shift.TheVariants.{Free, Begun}

-- The shift register then: with nothing begun it is free.
abbrev pub shift_of : Option Progress → Shift
shift_of None = Free
shift_of (Some p) = Begun p
