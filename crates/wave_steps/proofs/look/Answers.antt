-- The definition, part by part.
use Rattle.module_rules.specs.Calls.{interrupt_of, sck_of}
use Rattle.wave_steps.specs.Wave.{shown_of}
use Rattle.wave_steps.proofs.look.Goals as goal

pub returns : goal.returns
unfolding shown_of interrupt_of sck_of
returns c = cc
