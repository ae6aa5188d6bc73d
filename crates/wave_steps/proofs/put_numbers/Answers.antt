-- Four numbers, one behind the other.
use Rattle.script_rules.proofs.Texts.{written_then}
use Rattle.wave_steps.specs.Wave.{number_changes}
use Rattle.wave_steps.proofs.put_numbers.Goals as goal

pub returns-clause-written : goal.returns-clause-written
unfolding number_changes
returns-clause-written c =
    written_then c.put_number.ensures.written
    (written_then c.put_number-2.ensures.written (written_then c.put_number-3.ensures.written c.put_number-4.ensures.written))
