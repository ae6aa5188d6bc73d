-- What the TI module owes the law of word order, call by call.
--     StepOf     what a call does, by its words, by the watcher's memory, and by its flags
--     steps      every call
--     machine    the machine
--     ti_order_lem   word order after every list of calls from power-up
-- Assumes nothing.
use Rattle.std.specs.Prelude.{◌≤◌, ◌&&◌, ◌||◌, ◌≡◌, Option, Some, None}
use Rattle.laws.proofs.Common.{ℕ, Bool, true, false, not, Bool·beq, or-false, List, [], append-nil}
use Rattle.laws.proofs.Common.{refl, sym, ap, ◌∙◌, arith, not-true, ltb, when◌then◌else◌, if_keeps, if_both, if_true}
use Rattle.laws.proofs.Common.{if_false, clash}
use Rattle.word_order.specs.Ledger.{Op, accepts}
use Rattle.word_order.specs.Port.{played, losses_in, finishes_in}
use Rattle.word_order.specs.Machine.{Entry, opens, notes, Step, Agrees, Machine, InOrder}
use Rattle.word_order.proofs.Order.{TiedOn, in_order_lem}
use Rattle.ti_rules.specs.declared.Character.{Character}
use Rattle.ti_rules.specs.declared.Settings.{Settings}
use Rattle.ti_rules.specs.declared.Engine.{Engine}
use Rattle.ti_rules.specs.declared.Ti.{Ti}
use Rattle.ti_rules.specs.declared.Answer.{Answer}
use Rattle.ti_rules.specs.declared.Answer.TheVariants.{Done}
use Rattle.ti_rules.specs.declared.Outcome.{Outcome}
use Rattle.ti_rules.specs.declared.Call.{Call}
use Rattle.ti_rules.specs.declared.Call.TheVariants.{Enter, Leave, Mode, Length, Write, Read, Tick, Pin, Clear}
use Rattle.ti_rules.specs.Settings.{rested_at, powered_up, is_length, mode_of, changes_mode}
use Rattle.ti_rules.specs.Characters.{character_in, is_full, is_free, written_to, written, taken, cleared}
use Rattle.ti_rules.specs.Finish.{finished}
use Rattle.ti_rules.specs.Edge.{shifted, clocked, under_way, edged, seen, turned, stepped}
use Rattle.ti_rules.specs.Calls.{enter_of, leave_of, set_mode, set_length, write_of, read_from, read_of, tick_of, pins_of, clear_of, perform_of}
use Rattle.ti_rules.specs.Watch.{way_of, port_of, terms_of, Sight, carried, edge_ops, wanted, entry_of, remembered_of, watching, start, life}
use Rattle.ti_rules.specs.Flags.{gave, enters_reset, clears_overrun}
use Rattle.ti_order.proofs.Latching.{sampled_whole, leads_wanted, carried_same, character_fits}
use Rattle.ti_order.proofs.Invariant.{Reached, kept_mode, start_holds, keeps, seen_keeps}
use Rattle.ti_order.proofs.Order.{EdgeStep, edged_step, way_edges}

-- What shows of a call with this outcome, the entry's operations, and what a call does.
abbrev pub sight_of : Ti → Answer → Sight
sight_of m a = record { reset = m.reset; set = m.settings; sdo = m.engine.pins.sdo; answer = a }

abbrev pub ops_of : Entry → List Op
ops_of opens = []
ops_of (notes os) = os

pub record FlagsOf (m : Ti) (c : Call) (level busy : Bool) (k : ℕ) (o : Outcome) : Type 0 where
  pub overrun : o.after.engine.overrun
      ≡ (not (enters_reset c)
      && (not (clears_overrun c)
      && (m.engine.overrun
      || ltb 0 (losses_in (terms_of m.settings) (ops_of (entry_of level (sight_of m o.answer) busy k c)) (port_of m.engine)))))
  pub interrupt : is_full o.after.engine.unread
      ≡ (not (enters_reset c)
      && (not (gave o.answer)
      && (is_full m.engine.unread
      || ltb 0 (finishes_in (terms_of m.settings) (ops_of (entry_of level (sight_of m o.answer) busy k c)) (port_of m.engine)))))

pub record StepOf (m : Ti) (c : Call) (level busy : Bool) (k : ℕ) (o : Outcome) : Type 0 where
  pub step : not o.after.reset ≡ true →
      Step (terms_of m.settings) (terms_of o.after.settings) (not m.reset) (entry_of level (sight_of m o.answer) busy k c)
      (port_of m.engine) (port_of o.after.engine)
  pub recalls : not o.after.reset ≡ true → remembered_of level (sight_of m o.answer) c ≡ o.after.engine.pins.sck
  pub flags : FlagsOf m c level busy k o

-- A call that ends in reset owes the law its flags alone.
in_reset : {m : Ti} {c : Call} {level busy : Bool} {k : ℕ} {o : Outcome} → o.after.reset ≡ true → FlagsOf m c level busy k o →
    StepOf m c level busy k o
in_reset {o = o} e flags =
    let never : not o.after.reset ≡ true → o.after.reset ≡ false = not-true o.after.reset in
    record { step = λ on. clash o.after.reset e (never on); recalls = λ on. clash o.after.reset e (never on); flags = flags }

-- Nothing is lost or finished where nothing is noted but a character that was accepted or read.
or_none : (b : Bool) → b ≡ (b || ltb 0 0)
or_none b = sym (or-false b)

-- An edge leaves the levels of clock and select.
pub edged_pins : (s : Settings) (sdi : Bool) (n : Engine) →
    ((edged s sdi n).pins.sck ≡ n.pins.sck) × ((edged s sdi n).pins.select ≡ n.pins.select)
unfolding edged clocked shifted finished
edged_pins s sdi n =
    if_keeps (λ (x : Engine). (x.pins.sck ≡ n.pins.sck) × (x.pins.select ≡ n.pins.select)) _ _ _ (λ e. (refl, refl))
    (λ e. (refl, refl))

-- A write leaves them too, and moves neither flag.
pub record Written (n later : Engine) : Type 0 where
  pub overrun : later.overrun ≡ n.overrun
  pub unread : later.unread ≡ n.unread
  pub sck : later.pins.sck ≡ n.pins.sck
  pub select : later.pins.select ≡ n.pins.select

pub written_rest : (s : Settings) (c : ℕ) (n : Engine) → Written n (written s c n)
unfolding written
written_rest s c n = go n.shift
  where
    go : (sh : Option Character) → Written n (written_to s c sh n)
    go None = record { overrun = refl; unread = refl; sck = refl; select = refl }
    go (Some x) = record { overrun = refl; unread = refl; sck = refl; select = refl }

module _ (m : Ti) (level busy : Bool) (k : ℕ) (h : Reached m)
    (tied : not m.reset ≡ true → Agrees (port_of m.engine) busy k × (level ≡ m.engine.pins.sck)) where
  -- Nothing was noted, and nothing changed.
  unchanged : not m.reset ≡ true →
      Step (terms_of m.settings) (terms_of m.settings) (not m.reset) (notes []) (port_of m.engine) (port_of m.engine)
  unchanged on = record { ports = refl; legal = tt; stays = λ f. (on, refl) }

  -- In reset the flags are down.
  down : m.reset ≡ true → (m.engine.overrun ≡ false) × (is_full m.engine.unread ≡ false)
  unfolding rested_at
  down e = (λ i. (h.resting e i).overrun, λ i. is_full (h.resting e i).unread)

  -- A call that leaves the module as it was, other than entering reset: a refusal, or no edge.
  stays : (c : Call) (a : Answer) → entry_of level (sight_of m a) busy k c ≡ notes [] → remembered_of level (sight_of m a) c ≡ level →
      enters_reset c ≡ false → clears_overrun c ≡ false → gave a ≡ false → StepOf m c level busy k (record { answer = a; after = m })
  stays c a e r x y z =
      record {
        step = λ on. rw e (unchanged on);
        recalls = λ on. r ∙ (tied on).1;
        flags = record { overrun = rw (e, x, y) (or_none _); interrupt = rw (e, x, z) (or_none _) };
      }

  -- A write, by its words.
  written_port : (c : ℕ) → is_full m.engine.waiting ≡ false →
      port_of (written m.settings c m.engine) ≡ played (terms_of m.settings) (accepts c) (port_of m.engine)
  unfolding written way_of when◌then◌else◌
  written_port c room = go m.engine.shift m.engine.waiting room
    where
      at : Option Character → Option ℕ → Engine
      at sh w =
          record { waiting = w; shift = sh; unread = m.engine.unread; pins = m.engine.pins; overrun = m.engine.overrun }

      go : (sh : Option Character) (w : Option ℕ) → is_full w ≡ false →
          port_of (written_to m.settings c sh (at sh w)) ≡ played (terms_of m.settings) (accepts c) (port_of (at sh w))
      go None None e = refl
      go None (Some y) e = clash true refl e
      go (Some x) None e = rw append-nil
      go (Some x) (Some y) e = clash true refl e

  -- An edge that counts, the pins being seen first.
  pub record Moved (n : Engine) (sck : Bool) (os : List Op) : Type 0 where
    pub step : Step (terms_of m.settings) (terms_of m.settings) (not m.reset) (notes os) (port_of m.engine) (port_of n)
    pub clock : n.pins.sck ≡ sck
    pub overrun : n.overrun ≡ (m.engine.overrun || ltb 0 (losses_in (terms_of m.settings) os (port_of m.engine)))
    pub unread : is_full n.unread ≡ (is_full m.engine.unread || ltb 0 (finishes_in (terms_of m.settings) os (port_of m.engine)))

  counted : (sck select sdi : Bool) → not m.reset ≡ true →
      Moved (edged m.settings sdi (seen sck select m.engine)) sck (edge_ops busy m.engine.pins.sdo sdi)
  unfolding seen
  counted sck select sdi on =
      let g : EdgeStep m.settings sdi (edge_ops busy m.engine.pins.sdo sdi) (seen sck select m.engine) =
      edged_step m.settings h.least h.most sdi (seen sck select m.engine) busy
      (seen_keeps m.settings sck select m.engine h.shift)
      (tied on).0.under in
      record {
        step = record { ports = g.ports; legal = g.legal; stays = λ y. (on, refl) };
        clock = (edged_pins m.settings sdi (seen sck select m.engine)).0;
        overrun = g.overrun;
        unread = g.unread;
      }

  merely-seen : (sck select : Bool) → not m.reset ≡ true → Moved (seen sck select m.engine) sck []
  unfolding seen
  merely-seen sck select on =
      record {
        step = unchanged on;
        clock = refl;
        overrun = or_none m.engine.overrun;
        unread = or_none (is_full m.engine.unread);
      }

  -- The watcher asks of its wire what the module asks of its shift register.
  pin-moved : (sck sdi select : Bool) → not m.reset ≡ true →
      Moved (stepped m.settings sck sdi select m.engine) sck
      (when Bool·beq sck level || (select || not (Bool·beq sck (wanted m.settings.polarity k))) then []
      else edge_ops busy m.engine.pins.sdo sdi)
  unfolding stepped
  pin-moved sck sdi select on =
      let edges : k ≡ (under_way m.engine.shift).edges = (tied on).0.given ∙ way_edges m.engine.shift in
      if_both (λ (n : Engine) (os : List Op). Moved n sck os) _ _ _ _ _ _
      (rw ((tied on).1, edges, leads_wanted m.settings sck (under_way m.engine.shift).edges))
      (λ b. merely-seen sck select on)
      (λ b. counted sck select sdi on)

  pub steps : (c : Call) → StepOf m c level busy k (perform_of m c)
  unfolding enter_of leave_of set_mode set_length write_of read_of tick_of pins_of clear_of rested_at taken cleared turned entry_of remembered_of way_of
  steps Enter =
      if_keeps (λ (x : Ti). StepOf m Enter level busy k (record { answer = Done; after = x })) m.reset _ _
      (λ e. in_reset e (record { overrun = (down e).0; interrupt = (down e).1 }))
      (λ e. in_reset refl (record { overrun = refl; interrupt = refl }))
  steps Leave =
      if_keeps (λ (x : Ti). StepOf m Leave level busy k (record { answer = Done; after = x })) m.reset _ _
      (λ e.
      let is : (when m.reset then opens else notes []) ≡ opens = if_true m.reset _ _ e in
      let flags = down e in
      record {
        step = λ on. rw is (record { ports = refl; legal = tt; stays = λ f. clash true refl f });
        recalls = λ on. if_true m.reset _ _ e;
        flags = record { overrun = rw (is, flags.0); interrupt = rw (is, flags.1) };
      })
      (λ e. stays Leave Done (if_false m.reset _ _ e) (if_false m.reset _ _ e) refl refl refl)
  steps (Mode master talk polarity phase) =
      if_keeps (StepOf m (Mode master talk polarity phase) level busy k) m.reset _ _
      (λ e. in_reset refl (record { overrun = rw (down e).0; interrupt = rw (down e).1 }))
      (λ e.
      if_keeps (StepOf m (Mode master talk polarity phase) level busy k) (changes_mode master polarity phase m.settings) _ _
      (λ f. stays _ _ refl refl refl refl refl)
      (λ f.
      let same = kept_mode master polarity phase m.settings f in
      let on : not m.reset ≡ true = ap not e in
      record {
        step = λ x.
            record {
              ports = refl;
              legal = tt;
              stays = λ y. (on, ap (λ (p : Bool). terms_of (mode_of master talk polarity p m.settings)) same.2);
            };
        recalls = λ x. (tied on).1;
        flags = record { overrun = or_none _; interrupt = or_none _ };
      }))
  steps (Length n) =
      if_keeps (StepOf m (Length n) level busy k) (not m.reset) _ _ (λ e. stays _ _ refl refl refl refl refl)
      (λ e.
      if_keeps (StepOf m (Length n) level busy k) (not (is_length n)) _ _ (λ f. stays _ _ refl refl refl refl refl)
      (λ f. in_reset refl (record { overrun = or_none _; interrupt = or_none _ })))
  steps (Write v) =
      if_keeps (StepOf m (Write v) level busy k) m.reset _ _ (λ e. stays _ _ refl refl refl refl refl)
      (λ e.
      if_keeps (StepOf m (Write v) level busy k) (is_full m.engine.waiting) _ _ (λ f. stays _ _ refl refl refl refl refl)
      (λ f.
      let on : not m.reset ≡ true = ap not e in
      let c : ℕ = character_in m.settings v in
      let left = written_rest m.settings c m.engine in
      let same : carried m.settings v ≡ character_in m.settings v = carried_same m.settings v h.most in
      record {
        step = λ x.
            rw same
            (record { ports = written_port c f; legal = (character_fits m.settings v h.most, tt); stays = λ y. (on, refl) });
        recalls = λ x. (tied on).1 ∙ sym left.sck;
        flags = record { overrun = left.overrun ∙ or_none _; interrupt = ap is_full left.unread ∙ or_none _ };
      }))
  steps Read =
      if_keeps (StepOf m Read level busy k) m.reset _ _ (λ e. stays _ _ refl refl refl refl refl)
      (λ e. go e m.engine.unread refl)
    where
      go : m.reset ≡ false → (b : Option ℕ) → m.engine.unread ≡ b → StepOf m Read level busy k (read_from m b)
      go e None is = stays _ _ refl refl refl refl refl
      go e (Some c) is =
          record {
            step = λ on.
                record { ports = rw is; legal = (record { first = rw is }, tt); stays = λ y. (on, refl) };
            recalls = λ on. (tied on).1;
            flags = record { overrun = or_none _; interrupt = refl };
          }
  steps (Tick sdi) =
      if_keeps (StepOf m (Tick sdi) level busy k) m.reset _ _ (λ e. stays _ _ refl refl refl refl refl)
      (λ e.
      if_keeps (StepOf m (Tick sdi) level busy k) (not m.settings.master) _ _ (λ f. stays _ _ refl refl refl refl refl)
      (λ f.
      if_keeps (StepOf m (Tick sdi) level busy k) (is_free m.engine.shift) _ _ (λ g. stays _ _ refl refl refl refl refl)
      (λ g.
      let on : not m.reset ≡ true = ap not e in
      let moved = counted (not m.engine.pins.sck) m.engine.pins.select sdi on in
      record {
        step = λ x. moved.step;
        recalls = λ x. ap not (tied on).1 ∙ sym moved.clock;
        flags = record { overrun = moved.overrun; interrupt = moved.unread };
      })))
  steps (Pin sck sdi select) =
      if_keeps (StepOf m (Pin sck sdi select) level busy k) m.reset _ _ (λ e. stays _ _ refl refl refl refl refl)
      (λ e.
      if_keeps (StepOf m (Pin sck sdi select) level busy k) m.settings.master _ _ (λ f. stays _ _ refl refl refl refl refl)
      (λ f.
      let moved = pin-moved sck sdi select (ap not e) in
      record {
        step = λ x. moved.step;
        recalls = λ x. sym moved.clock;
        flags = record { overrun = moved.overrun; interrupt = moved.unread };
      }))
  steps Clear =
      record {
        step = λ on. unchanged on;
        recalls = λ on. (tied on).1;
        flags = record { overrun = refl; interrupt = or_none _ };
      }

-- The machine.
abbrev pub machine : Machine watching
machine =
    record {
      Holds = Reached;
      Recalls = λ m level. level ≡ m.engine.pins.sck;
      keeps = keeps;
      whole = λ m h.
          record {
            all = sampled_whole m.settings.phase m.settings.length;
            some = let l : 1 ≤ m.settings.length = h.least in omega arith;
            deep = omega arith;
          };
      steps = λ m c level busy k h tied on. let r = steps m level busy k h tied c in (r.step on, λ later e. r.recalls on);
    }

-- From power-up, in reset.
pub start_tied : TiedOn watching machine start
unfolding powered_up
start_tied on = clash false on refl

pub ti_order_lem : (cs : List Call) → not (life cs).now.reset ≡ true → InOrder watching (life cs)
ti_order_lem cs = in_order_lem watching machine cs start start_holds start_tied
