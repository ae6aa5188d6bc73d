-- Each arm is the clause of the definition for its case.
use borrow.Author.Rules.{rules}
use Rattle.script_rules.specs.Script.{sdo_letter}
use Rattle.script_player.proofs.sdo_letter.Goals as goal

pub returns-in-Undriven : goal.returns-in-Undriven
unfolding sdo_letter
returns-in-Undriven c = cc

pub returns-in-Low : goal.returns-in-Low
unfolding sdo_letter
returns-in-Low c = search rules

pub returns-in-High : goal.returns-in-High
unfolding sdo_letter
returns-in-High c = search rules
