-- Each arm is the clause of the definition for its case.
use Rattle.wave_steps.specs.Wave.{leaving_of, no_word}
use Rattle.wave_steps.proofs.leaving.Goals as goal

pub returns-in-Free : goal.returns-in-Free
unfolding leaving_of no_word
returns-in-Free c = cc

pub returns-in-Loaded : goal.returns-in-Loaded
unfolding leaving_of no_word
returns-in-Loaded c = cc

pub returns-in-Begun : goal.returns-in-Begun
unfolding leaving_of no_word
returns-in-Begun c = cc
