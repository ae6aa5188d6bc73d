-- Word order as the page has it: the law's, with the mark and what it stops.
--     word_order_lem   of an enabled module, after any calls
-- Assumes nothing.
use Rattle.std.specs.Prelude.{◌≡◌}
use Rattle.laws.proofs.Common.{true, not, ap, ◌∙◌, when◌then◌else◌, if_true, if_false}
use Rattle.module_rules.proofs.Types.{Module, Outcome, Overflowed, Read}
use Rattle.module_rules.specs.Refusals.{number_of, said_of}
use Rattle.module_rules.specs.Calls.{refuse, read_buf, read_of, perform_of}
use Rattle.module_rules.specs.Watch.{Watched}
use Rattle.module_rules.specs.Demands.{WordOrder}
use Rattle.module_order.proofs.Order.{Lives, in_order_lem}
use Rattle.module_order.proofs.Dropped.{dropped}

-- A BUF read of a marked buffer is refused.
stale_read : (m : Module) → m.settings.spien ≡ true → m.engine.receive.marked ≡ true →
    perform_of m (Read 3) ≡ refuse m Overflowed
unfolding perform_of read_of read_buf when◌then◌else◌
stale_read m on marked =
    if_false (not m.settings.spien) _ _ (ap not on) ∙ if_true m.engine.receive.marked _ _ marked

pub word_order_lem : (x : Watched) → Lives x → x.now.settings.spien ≡ true → WordOrder x
unfolding refuse number_of
word_order_lem x v on =
    let order = in_order_lem x v on in
    record {
      sending = order.sending;
      receiving = order.receiving;
      dropped = dropped x v on;
      mark = (v.tied on).words.mark;
      stale = λ marked. ap (λ (o : Outcome). (said_of o.answer).number) (stale_read x.now on marked);
    }
