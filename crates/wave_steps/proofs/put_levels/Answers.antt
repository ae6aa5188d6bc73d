-- Six levels, one behind the other.
use Rattle.script_rules.proofs.Texts.{written_then}
use Rattle.wave_steps.specs.Wave.{level_changes}
use Rattle.wave_steps.proofs.put_levels.Goals as goal

pub returns-clause-written : goal.returns-clause-written
unfolding level_changes
returns-clause-written c =
    written_then c.put_level.ensures.written
    (written_then c.put_level-2.ensures.written
    (written_then c.put_level-3.ensures.written
    (written_then c.put_level-4.ensures.written (written_then c.put_level-5.ensures.written c.put_level-6.ensures.written))))
