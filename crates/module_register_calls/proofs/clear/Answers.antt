-- The flag is stored.
use Rattle.laws.proofs.Common.{refl}
use Rattle.module_rules.specs.Calls.{clear_of}
use Rattle.module_answers.proofs.Answers.{changed, answered}
use Rattle.module_register_calls.proofs.clear.Goals as goal

pub returns : goal.returns
unfolding clear_of
returns c = changed refl (answered _ c.store_interrupt.ensures refl)
