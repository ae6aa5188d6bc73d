-- The definition, bit by bit.
use borrow.Author.Rules.{rules}
use Rattle.module_rules.specs.Calls.{interrupt_of, sck_of}
use Rattle.module_by_number.specs.Told.{levels_number, seen_number}
use Rattle.module_by_number.proofs.levels.Goals as goal

pub returns : goal.returns
unfolding levels_number seen_number interrupt_of sck_of
returns c =
    (rw (c.weigh-flag.ensures.value, c.weigh-sck.ensures.value, c.sdo_bits.ensures.0, c.ss_bits.ensures.0, c.interrupt_in.ensures, c.pins_in-pins.ensures), search rules)
