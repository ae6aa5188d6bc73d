-- The lines that are left end where the script does.
use Rattle.std.specs.Prelude.{◌≡◌}
use Rattle.module_memory.specs.Memory.{module_in}
use Rattle.script_rules.specs.Script.{script_end}
use Rattle.script_lines.specs.Lines.{lines_left}
use Rattle.run_wave.proofs.Lines.{lines_end}
use Rattle.run_wave.proofs.write.Given as goal

abbrev pub invariant-loop-line : goal.invariant-loop-line
invariant-loop-line g l = lines_end (module_in l.w) (lines_left l.line-iterator.script.now l.line-iterator.at) ≡ script_end l.script
