-- What is looked up, stored and told is the word call of the definition.
use Rattle.laws.proofs.Common.{ap, arith}
use Rattle.module_types.specs.declared.Pins.{Pins}
use Rattle.word_calls.proofs.First.{first_told}
use Rattle.word_calls.proofs.told_first.Goals as goal

pub returns : goal.returns
returns c =
    first_told c.args.ss c.args.incoming c.requires c.current_in-p.ensures
    (ap (λ (x : Pins). x.sdo) c.pins_in-sdo.ensures)
    (rw c.settings_in-s.ensures at c.levels_first-levels.ensures) (omega arith) (rw c.settings_in-s.ensures at c.low_bits-received.ensures)
    (rw c.settings_in-s.ensures at c.width-count.ensures) c.make_first.ensures
