-- Kind by kind, the call of the definition.
use Rattle.laws.proofs.Common.{sym, arith}
use Rattle.trace_player.proofs.Playing.{is_write, is_read, is_tick_lem, is_pin, is_clear_lem}
use Rattle.trace_player.proofs.call_of.Goals as goal

pub returns-in-0 : goal.returns-in-0
returns-in-0 c = sym (is_write c.args.e c.in-0.is)

pub returns-in-1 : goal.returns-in-1
returns-in-1 c = sym (is_read c.args.e c.in-1.is)

pub returns-in-2 : goal.returns-in-2
returns-in-2 c = sym (is_tick_lem c.args.e c.in-2.is)

pub returns-in-3 : goal.returns-in-3
returns-in-3 c = sym (is_pin c.args.e c.in-3.is)

pub returns-in_default : goal.returns-in_default
returns-in_default c = sym (is_clear_lem c.args.e (λ w. omega arith) (λ r. omega arith) (λ t. omega arith) (λ p. omega arith))
