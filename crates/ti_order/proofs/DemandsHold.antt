-- The page holds.
--     quiet_entry    in reset nothing is written down
--     calls_change   what a call changes, after every list of calls
--     calls_show     what is seen between calls
--     demands_hold   the page
-- Assumes nothing.
use Rattle.std.specs.Prelude.{◌≤◌, ◌&&◌, ◌||◌, ◌≡◌}
use Rattle.laws.proofs.Common.{ℕ, Bool, true, false, not, List, [], refl, sym, ap, ◌∙◌, arith, le-ltb}
use Rattle.laws.proofs.Common.{not-true, ltb, length, when◌then◌else◌, if_keeps, if_false, if_ap, by_test, or_left, or_right}
use mathlib.Core.Bool.{and-false}
use Rattle.floats.proofs.Quotients.{whole_fraction}
use Rattle.word_order.specs.Ledger.{Terms, Ledger, opened, lost_of, is_quiet, edges_given}
use Rattle.word_order.specs.Port.{losses_in, finishes_in, is_under}
use Rattle.word_order.specs.Machine.{Entry, opens, notes, entered, Watched, watched_call}
use Rattle.word_order.proofs.Tied.{Tied}
use Rattle.word_order.proofs.Order.{TiedOn, tied_agrees, call_tied, calls_tied}
use Rattle.ti_rules.specs.declared.Ti.{Ti}
use Rattle.ti_rules.specs.declared.Outcome.{Outcome}
use Rattle.ti_rules.specs.declared.Call.{Call}
use Rattle.ti_rules.specs.declared.Call.TheVariants.{Enter, Leave, Mode, Length, Write, Read, Tick, Pin, Clear}
use Rattle.ti_rules.specs.declared.Output.TheVariants.{Low, High, Undriven}
use Rattle.ti_rules.specs.Settings.{rested_at, powered_up}
use Rattle.ti_rules.specs.Characters.{is_full, is_free}
use Rattle.ti_rules.specs.Refusals.{said_of}
use Rattle.ti_rules.specs.Calls.{write_of, read_of, tick_of, pins_of, perform_of, undriven, sdo_of}
use Rattle.ti_rules.specs.Watch.{way_of, port_of, terms_of, entry_of, watching, start, life}
use Rattle.ti_rules.specs.Flags.{grew_lost, grew_finished, sdo_seen, level_shown, pin_seen, enters_reset}
use Rattle.ti_rules.specs.Demands.{AtPowerUp, CallChanges, Shows, TiDemands}
use Rattle.ti_rules.proofs.ExamplesHold.{examples_hold, rates_hold}
use Rattle.ti_order.proofs.Invariant.{Reached, start_holds, keeps}
use Rattle.ti_order.proofs.Machine.{sight_of, ops_of, StepOf, steps, machine, start_tied, ti_order_lem}
use Rattle.ti_rules.proofs.RefusalsExact.{refused_exactly_lem, refused_unchanged_lem, in_kind_lem}
use Rattle.ti_rules.proofs.ClockExact.{slow_rate, fast_rate, no_rate}
use Rattle.ti_order.proofs.Changes.{PlainOf, plainly}
use Rattle.ti_order.proofs.Seen.{losses_seen, finishes_seen, sdo_due, waits_seen, left_seen}

-- In reset a call opens a ledger or writes nothing down.
pub record Silent (e : Entry) : Type 0 where
  pub none : ops_of e ≡ []
  pub lost : (t : Terms) (l : Ledger) → lost_of (entered t e l) ≤ lost_of l
  pub finished : (t : Terms) (l : Ledger) → length (entered t e l).arrivals ≤ length l.arrivals

silent_none : Silent (notes [])
silent_none = record { none = refl; lost = λ t l. omega arith; finished = λ t l. omega arith }

silent_opens : Silent opens
unfolding opened
silent_opens = record { none = refl; lost = λ t l. omega arith; finished = λ t l. omega arith }

quiet_entry : (m : Ti) (level busy : Bool) (k : ℕ) (c : Call) → m.reset ≡ true →
    Silent (entry_of level (sight_of m (perform_of m c).answer) busy k c)
unfolding entry_of write_of read_of tick_of pins_of when◌then◌else◌
quiet_entry m level busy k Enter e = silent_none
quiet_entry m level busy k Leave e = rw e silent_opens
quiet_entry m level busy k (Mode master talk polarity phase) e = silent_none
quiet_entry m level busy k (Length n) e = silent_none
quiet_entry m level busy k (Write v) e = rw e silent_none
quiet_entry m level busy k Read e = rw e silent_none
quiet_entry m level busy k (Tick sdi) e = rw e silent_none
quiet_entry m level busy k (Pin sck sdi select) e = rw e silent_none
quiet_entry m level busy k Clear e = silent_none

-- A test that is false makes what it stands before false.
shut : (p a b : Bool) → p ≡ true → (not p && a) ≡ (not p && b)
shut p a b e = rw e

-- The output out of reset: the bit that is due, or, between characters in phase 0, what stood there before.
sdo_out : {m : Ti} {l : Ledger} {before : Bool} → Reached m → Tied (terms_of m.settings) (port_of m.engine) l →
    (m.settings.phase ≡ false → is_under (way_of m.engine.shift) ≡ false → m.engine.pins.sdo ≡ before) →
    m.engine.pins.sdo ≡ sdo_seen m.settings before l
unfolding sdo_seen
sdo_out {m = m} {l = l} {before = before} h tied stays =
    if_keeps (λ (b : Bool). m.engine.pins.sdo ≡ b) (m.settings.phase || not (is_quiet l.wire)) _ _
    (λ e. sdo_due m.settings m.engine l h.shift tied e)
    (λ e.
    stays (or_left m.settings.phase _ e)
    (sym (tied_agrees (terms_of m.settings) (port_of m.engine) l tied).under ∙ or_right m.settings.phase _ e))

-- The output as others see it, by the rule and by the page.
pin_same : (m : Ti) → sdo_of m ≡ pin_seen m
unfolding sdo_of undriven when◌then◌else◌
pin_same m =
    go m.reset m.settings.talk m.settings.master m.engine.pins.select m.engine.pins.sdo
  where
    go : (reset talk master select sdo : Bool) →
        (when reset || (not talk || (not master && select)) then Undriven else when sdo then High else Low)
        ≡ (when reset then Undriven
        else when talk then when master then level_shown sdo else when select then Undriven else level_shown sdo
        else Undriven)
    go true talk master select sdo = refl
    go false false master select sdo = refl
    go false true true select true = refl
    go false true true select false = refl
    go false true false true sdo = refl
    go false true false false true = refl
    go false true false false false = refl

-- A tick of a master out of reset.
tick_kind_lem : (m : Ti) (sdi : Bool) → m.reset ≡ false → m.settings.master ≡ true →
    (said_of (perform_of m (Tick sdi)).answer).kind ≡ (when is_free m.engine.shift then 3 else 4)
unfolding tick_of
tick_kind_lem m sdi e own =
    ap (λ (p : Outcome). (said_of p.answer).kind) (if_false m.reset _ _ e ∙ if_false (not m.settings.master) _ _ (ap not own))
    ∙ if_ap (λ (p : Outcome). (said_of p.answer).kind) (is_free m.engine.shift) _ _

-- A watched module, and a call.
module _ (x : Watched watching) (h : Reached x.now) (tied : TiedOn watching machine x) (c : Call) where
  abbrev m : Ti
  m = x.now

  abbrev o : Outcome
  o = perform_of m c

  abbrev y : Watched watching
  y = watched_call watching x c

  abbrev entry : Entry
  entry = entry_of x.memory (sight_of m o.answer) (not (is_quiet x.ledger.wire)) (edges_given x.ledger.wire) c

  step : StepOf m c x.memory (not (is_quiet x.ledger.wire)) (edges_given x.ledger.wire) o
  step =
      steps m x.memory (not (is_quiet x.ledger.wire)) (edges_given x.ledger.wire) h
      (λ on. (tied_agrees _ _ _ (tied on).words, (tied on).recalls))
      c

  plain : PlainOf m c o
  plain = plainly m h c

  -- In reset after a call: it was entered now, or the module was in reset.
  stays_out : m.reset ≡ false → enters_reset c ≡ false → not o.after.reset ≡ true
  stays_out e f = rw (plain.reset, f, e, and-false)

  -- What the flags need of the ledger, unless reset is entered.
  grown : (count : Ledger → ℕ) (ops : ℕ) → enters_reset c ≡ false →
      (m.reset ≡ true → (ltb 0 ops ≡ false) × (count y.ledger ≤ count x.ledger)) →
      (not m.reset ≡ true → not o.after.reset ≡ true → ltb 0 ops ≡ ltb (count x.ledger) (count y.ledger)) →
      ltb 0 ops ≡ ltb (count x.ledger) (count y.ledger)
  grown count ops f rest moves =
      by_test m.reset (λ e. (rest e).0 ∙ sym (le-ltb (count x.ledger) (count y.ledger) (rest e).1))
      (λ e. moves (ap not e) (stays_out e f))

  abbrev losses : ℕ
  losses = losses_in (terms_of m.settings) (ops_of entry) (port_of m.engine)

  lost-grown : enters_reset c ≡ false → ltb 0 losses ≡ grew_lost x.ledger y.ledger
  lost-grown f =
      grown lost_of losses f (λ e. let s : Silent entry = quiet_entry m x.memory _ _ c e in (rw s.none, s.lost _ x.ledger))
      (λ on after.
      losses_seen (terms_of m.settings) (machine.whole m h) (port_of m.engine) x.ledger (tied on).words entry (step.step after).legal)

  abbrev finishes : ℕ
  finishes = finishes_in (terms_of m.settings) (ops_of entry) (port_of m.engine)

  finished-grown : enters_reset c ≡ false → ltb 0 finishes ≡ grew_finished x.ledger y.ledger
  finished-grown f =
      grown (λ l. length l.arrivals) finishes f
      (λ e. let s : Silent entry = quiet_entry m x.memory _ _ c e in (rw s.none, s.finished _ x.ledger))
      (λ on after.
      finishes_seen (terms_of m.settings) (machine.whole m h) (port_of m.engine) x.ledger (tied on).words entry
      (step.step after).legal)

  pub calls_change : CallChanges x c o.answer y
  unfolding rested_at
  calls_change =
      record {
        reset = plain.reset;
        mode = plain.mode;
        length = plain.length;
        interrupt = step.flags.interrupt ∙ by_test (enters_reset c) (shut (enters_reset c) _ _) (λ f. rw (finished-grown f));
        overrun = step.flags.overrun ∙ by_test (enters_reset c) (shut (enters_reset c) _ _) (λ f. rw (lost-grown f));
        sck = plain.sck;
        select = plain.select;
        sdo = if_keeps (λ (b : Bool). o.after.engine.pins.sdo ≡ b) o.after.reset _ _ at_rest out;
      }
    where
      after : Reached o.after
      after = keeps m c h

      at_rest : o.after.reset ≡ true → o.after.engine.pins.sdo ≡ false
      at_rest e = λ i. (after.resting e i).pins.sdo

      out : o.after.reset ≡ false → o.after.engine.pins.sdo ≡ sdo_seen o.after.settings m.engine.pins.sdo y.ledger
      out e = sdo_out after (call_tied watching machine x c h tied (ap not e)).words (plain.sdo e)

-- What is seen between calls.
pub calls_show : (y : Watched watching) → Reached y.now → TiedOn watching machine y → Shows y
unfolding rested_at
calls_show y h tied =
    record {
      transmit_full =
          by_test y.now.reset
          (λ e. rw e (λ i. is_full (h.resting e i).waiting))
          (λ e. rw e (waits_seen y.now.settings y.now.engine y.ledger h.shift (tied (ap not e)).words));
      sdo = pin_same y.now;
      ticks = λ on own sdi.
          tick_kind_lem y.now sdi (not-true y.now.reset on) own
          ∙ ap (λ (b : Bool). when b then 3 else 4) (left_seen y.now.settings y.now.engine y.ledger h.shift (tied on).words own);
    }

at_power_up_lem : AtPowerUp powered_up
unfolding powered_up rested_at sdo_of undriven when◌then◌else◌
at_power_up_lem =
    record {
      reset = refl;
      mode = refl;
      length = refl;
      interrupt = refl;
      transmit_full = refl;
      overrun = refl;
      sdo = refl;
      sck = refl;
    }

pub demands_hold : TiDemands
demands_hold =
    record {
      answered =
          record {
            refused_exactly = refused_exactly_lem;
            refused_unchanged = refused_unchanged_lem;
            in_kind = in_kind_lem;
            one_outcome = λ m c x y p q. p ∙ sym q;
          };
      worked = (examples_hold, rates_hold);
      at_power_up = at_power_up_lem;
      lengths = λ cs. ((lived cs).0.least, (lived cs).0.most);
      changes = λ cs c. calls_change (life cs) (lived cs).0 (lived cs).1 c;
      shows = λ cs. calls_show (life cs) (lived cs).0 (lived cs).1;
      word_order = ti_order_lem;
      rates =
          record {
            slow = λ brr more lspclk. slow_rate brr more lspclk;
            fast = λ brr more lspclk. fast_rate brr more lspclk;
            exact = λ d q some. whole_fraction q d some;
            none = no_rate;
          };
    }
  where
    lived : (cs : List Call) → Reached (life cs).now × TiedOn watching machine (life cs)
    lived cs = calls_tied watching machine cs start start_holds start_tied
