-- The definition, byte by byte.
use mathlib.Core.Path.{refl}
use Rattle.script_rules.specs.Script.{bytes}
use Rattle.wave_steps.specs.Wave.{head_text}
use Rattle.wave_steps.proofs.head.Goals as goal

pub returns : goal.returns
unfolding head_text bytes
returns c = refl
