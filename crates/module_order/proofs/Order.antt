-- The module is a machine of the law, so that the law's word order is its own.
--     ours_owes     what it owes the law
--     Lives         a watched module: the invariant, and what is tied while it is enabled
--     life_holds    at each beginning and after any calls
--     lives_on      after one call more
--     in_order_lem      its word order
-- Assumes nothing.
use Rattle.std.specs.Prelude.{◌≡◌}
use Rattle.laws.proofs.Common.{List, true, false, refl, clash}
use Rattle.word_order.specs.Machine.{Machine, InOrder}
use Rattle.word_order.proofs.Order.{TiedAll, calls_tied, call_tied}
use Rattle.word_order.proofs.Resumed.{tied_resumed}
use Rattle.module_rules.proofs.Types.{Call, Depth}
use Rattle.module_rules.specs.Invariant.{Reached}
use Rattle.module_rules.specs.Watch.{ours, Watched, watched_call, terms, port_in}
use Rattle.module_rules.specs.Calls.{powered_at}
use Rattle.module_rules.specs.Lives.{Beginning, life, begins, mid_life, power_up}
use Rattle.module_invariant.proofs.Pulse.{call_reaches, unframed_pulse, powered_up_reached}
use Rattle.module_order.proofs.Ports.{whole_terms}
use Rattle.module_order.proofs.Levels.{Recalls}
use Rattle.module_order.proofs.Calls.{call_steps}
use Rattle.module_order.proofs.Resumed.{port_fits}

-- What it owes the law.
abbrev pub ours_owes : Machine ours
ours_owes =
    record {
      Holds = Reached;
      Recalls = Recalls;
      keeps = λ m c h. call_reaches m c h;
      whole = λ m h. whole_terms m.settings;
      steps = λ m c x busy k h tied on. call_steps m x busy k h.holds (λ now. (tied now).1) (unframed_pulse m h) c on;
    }

-- A watched module.
pub record Lives (x : Watched) : Type 0 where
  pub holds : Reached x.now
  pub tied : x.now.settings.spien ≡ true → TiedAll ours ours_owes x

power_up_off : (depth : Depth) → (powered_at depth).settings.spien ≡ false
unfolding powered_at
power_up_off depth = refl

-- At each beginning.
begins_lives : (b : Beginning) → Lives (begins b)
begins_lives (power_up depth) =
    record { holds = powered_up_reached depth; tied = λ on. clash (powered_at depth).settings.spien on (power_up_off depth) }
begins_lives (mid_life m holds enabled) =
    record {
      holds = holds;
      tied = λ on.
          record {
            words = tied_resumed (terms m.settings) (port_in m) (port_fits m holds);
            recalls = record { sck = refl; ss = refl; pulse = refl };
          };
    }

-- After any calls.
pub life_holds : (b : Beginning) (cs : List Call) → Lives (life b cs)
life_holds b cs =
    let all = calls_tied ours ours_owes cs (begins b) (begins_lives b).holds (begins_lives b).tied in
    record { holds = all.0; tied = all.1 }

-- After one call more.
pub lives_on : (x : Watched) (c : Call) → Lives x → Lives (watched_call x c)
lives_on x c v =
    record { holds = call_reaches x.now c v.holds; tied = call_tied ours ours_owes x c v.holds v.tied }

-- Its word order.
pub in_order_lem : (x : Watched) → Lives x → x.now.settings.spien ≡ true → InOrder ours x
in_order_lem x v on = let w = (v.tied on).words in record { sending = w.sending; receiving = w.receiving }
