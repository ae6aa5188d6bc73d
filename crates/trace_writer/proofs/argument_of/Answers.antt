-- The sum of the three.
use Rattle.trace_save_rules.specs.Save.{wires}
use Rattle.trace_writer.proofs.argument_of.Goals as goal

pub returns : goal.returns
unfolding wires
returns c = cc (c.weigh.ensures.value, c.weigh-2.ensures.value, c.weigh-3.ensures.value)
