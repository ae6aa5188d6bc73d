-- The levels, and behind them the numbers.
use Rattle.script_rules.proofs.Texts.{written_then}
use Rattle.wave_steps.specs.Wave.{changes}
use Rattle.wave_steps.proofs.put_changes.Goals as goal

pub returns-clause-written : goal.returns-clause-written
unfolding changes
returns-clause-written c = written_then c.put_levels.ensures.written c.put_numbers.ensures.written
