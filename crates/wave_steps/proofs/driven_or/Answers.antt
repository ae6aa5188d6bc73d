-- Each arm is the clause of the definition for its case.
use Rattle.wave_steps.specs.Wave.{driven_or}
use Rattle.wave_steps.proofs.driven_or.Goals as goal

pub returns-in-Low : goal.returns-in-Low
unfolding driven_or
returns-in-Low c = cc

pub returns-in-High : goal.returns-in-High
unfolding driven_or
returns-in-High c = cc

pub returns-in-Undriven : goal.returns-in-Undriven
unfolding driven_or
returns-in-Undriven c = cc
