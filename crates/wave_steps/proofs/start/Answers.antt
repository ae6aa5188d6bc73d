-- Power-up and a look.
use Rattle.laws.proofs.Common.{ap, ◌∙◌}
use Rattle.module_types.specs.declared.Module.{Module}
use Rattle.wave_steps.specs.Wave.{shown_of, unknown}
use Rattle.wave_steps.proofs.start.Goals as goal

pub returns-clause-shown_value : goal.returns-clause-shown_value
unfolding unknown
returns-clause-shown_value c = c.look-shown.ensures ∙ ap (λ (m : Module). shown_of m unknown) c.power_up.ensures
