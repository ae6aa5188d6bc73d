-- The step that is written is the call that is made.
use Rattle.script_rules.specs.Script.{line_after}
use Rattle.run_wave_trace.proofs.TracedPlayer.perform.Goals as goal

pub returns : goal.returns
unfolding line_after
returns g c = c.step.ensures.played
