-- What of a file is found wrong first: its contents, and if they are right, its records.
use Rattle.std.specs.Prelude.{ℕ, not, List, Result, Ok, Err}
use Rattle.laws.specs.Choice.{when◌then◌else◌}
use Rattle.trace_rules.specs.declared.Fault.{Fault}
use Rattle.trace_rules.specs.declared.Fault.TheVariants.{BadContents, BadRecord}
use Rattle.trace_rules.specs.Trace.{contents_right, records_right}

unfoldable pub judged_of : List ℕ → Result (Unit {0}) Fault
judged_of f =
    when not (contents_right f) then Err BadContents
    else when not (records_right f) then Err BadRecord
    else Ok tt
