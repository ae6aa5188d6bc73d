-- What each call changes beside its words: reset, settings, and the levels of clock, select and output.
--     PlainOf    the statements of one call
--     plainly    every call
-- Assumes nothing.
use Rattle.std.specs.Prelude.{◌+◌, ◌*◌, ◌&&◌, ◌||◌, ◌≡◌, Option, Some, None}
use Rattle.laws.proofs.Common.{ℕ, Bool, true, false, not, Bool·beq, refl, sym, ap, ◌∙◌, arith}
use Rattle.laws.proofs.Common.{not-false, ne_eqb, eqb, ltb, when◌then◌else◌, if_keeps, if_false, clash}
use Rattle.word_order.specs.Port.{is_under}
use Rattle.ti_rules.specs.declared.Settings.{Settings}
use Rattle.ti_rules.specs.declared.Character.{Character}
use Rattle.ti_rules.specs.declared.Engine.{Engine}
use Rattle.ti_rules.specs.declared.Ti.{Ti}
use Rattle.ti_rules.specs.declared.Answer.{Answer}
use Rattle.ti_rules.specs.declared.Answer.TheVariants.{Done, Value, Edge}
use Rattle.ti_rules.specs.declared.Outcome.{Outcome}
use Rattle.ti_rules.specs.declared.Call.{Call}
use Rattle.ti_rules.specs.declared.Call.TheVariants.{Enter, Leave, Mode, Length, Write, Read, Tick, Pin, Clear}
use Rattle.ti_rules.specs.Settings.{rested_at, is_length, mode_of, changes_mode}
use Rattle.ti_rules.specs.Characters.{character_in, is_full, is_free, between_sdo, written_to, written, taken, cleared}
use Rattle.ti_rules.specs.Finish.{finished}
use Rattle.ti_rules.specs.Edge.{shifted, clocked, under_way, edged, seen, turned, leads_on, stepped}
use Rattle.ti_rules.specs.Calls.{answering, enter_of, leave_of, set_mode, set_length, write_of, read_from, read_of, tick_of, pins_of, clear_of, perform_of}
use Rattle.ti_rules.specs.Watch.{way_of}
use Rattle.ti_rules.specs.Flags.{mode_asked, length_asked, sck_asked, select_asked, did, made_edge, enters_reset, leaves_reset, sets_mode, sets_length, is_pin_call}
use Rattle.ti_rules.specs.Demands.{mode_levels}
use Rattle.ti_order.proofs.Invariant.{Reached}
use Rattle.ti_order.proofs.Machine.{edged_pins, written_rest}

pub record PlainOf (m : Ti) (c : Call) (o : Outcome) : Type 0 where
  pub reset : o.after.reset ≡ (enters_reset c || (not (leaves_reset c) && m.reset))
  pub mode : mode_levels o.after.settings ≡ (when did (sets_mode c) o.answer then mode_asked c else mode_levels m.settings)
  pub length : o.after.settings.length ≡ (when did (sets_length c) o.answer then length_asked c else m.settings.length)
  pub sck : o.after.engine.pins.sck
      ≡ (when o.after.reset then o.after.settings.polarity
      else when made_edge o.answer then not m.engine.pins.sck
      else when did (is_pin_call c) o.answer then sck_asked c
      else m.engine.pins.sck)
  pub select : o.after.engine.pins.select
      ≡ (when o.after.reset then true else when did (is_pin_call c) o.answer then select_asked c else m.engine.pins.select)
  -- between characters the output stays in phase 0
  pub sdo : o.after.reset ≡ false → o.after.settings.phase ≡ false → is_under (way_of o.after.engine.shift) ≡ false →
      o.after.engine.pins.sdo ≡ m.engine.pins.sdo

-- Edges and writes in phase 0: the output moves only within a character.
module _ (s : Settings) (phase : s.phase ≡ false) where
  between_stays : (next : Option ℕ) (sdo : Bool) → between_sdo s next sdo ≡ sdo
  unfolding between_sdo
  between_stays next sdo = if_false s.phase _ _ phase

  clocked_stays : (sdi : Bool) (c : Character) (n : Engine) → is_under (way_of (clocked s sdi c n).shift) ≡ false →
      (clocked s sdi c n).pins.sdo ≡ n.pins.sdo
  unfolding clocked shifted finished way_of
  clocked_stays sdi c n =
      if_keeps (λ (x : Engine). is_under (way_of x.shift) ≡ false → x.pins.sdo ≡ n.pins.sdo) (ltb (c.edges + 1) (2 * s.length)) _ _
      (λ e f.
      let on : eqb (c.edges + 1) 0 ≡ false = ne_eqb (c.edges + 1) 0 (λ z. omega arith) in
      clash true refl (sym (ap is_under (if_false (eqb (c.edges + 1) 0) _ _ on)) ∙ f))
      (λ e f. between_stays n.waiting n.pins.sdo)

  written-stays : (c : ℕ) (n : Engine) → (written s c n).pins.sdo ≡ n.pins.sdo
  unfolding written
  written-stays c n = go n.shift
    where
      go : (sh : Option Character) → (written_to s c sh n).pins.sdo ≡ n.pins.sdo
      go None = between_stays (Some c) n.pins.sdo
      go (Some x) = refl

module _ (m : Ti) (h : Reached m) where
  -- At rest.
  rest_pins : m.reset ≡ true →
      (m.engine.pins.sck ≡ m.settings.polarity) × (m.engine.pins.select ≡ true) × (m.engine.pins.sdo ≡ false)
  unfolding rested_at
  rest_pins e = (λ i. (h.resting e i).pins.sck, λ i. (h.resting e i).pins.select, λ i. (h.resting e i).pins.sdo)

  kept-sck : m.engine.pins.sck ≡ (when m.reset then m.settings.polarity else m.engine.pins.sck)
  kept-sck = if_keeps (λ (b : Bool). m.engine.pins.sck ≡ b) m.reset _ _ (λ e. (rest_pins e).0) (λ e. refl)

  kept-select : m.engine.pins.select ≡ (when m.reset then true else m.engine.pins.select)
  kept-select = if_keeps (λ (b : Bool). m.engine.pins.select ≡ b) m.reset _ _ (λ e. (rest_pins e).1) (λ e. refl)

  -- A call, neither of reset, of mode, of length nor of pins, that leaves settings and pins, but perhaps the output.
  leaves : (c : Call) (a : Answer) (n : Engine) → enters_reset c ≡ false → leaves_reset c ≡ false → did (sets_mode c) a ≡ false → did (sets_length c) a ≡ false →
      did (is_pin_call c) a ≡ false → made_edge a ≡ false → n.pins.sck ≡ m.engine.pins.sck → n.pins.select ≡ m.engine.pins.select →
      (m.reset ≡ false → m.settings.phase ≡ false → is_under (way_of n.shift) ≡ false → n.pins.sdo ≡ m.engine.pins.sdo) →
      PlainOf m c (answering m a n)
  unfolding when◌then◌else◌
  leaves c a n e0 e1 e2 e3 e7 e4 sck select sdo =
      record {
        reset = rw (e0, e1);
        mode = rw e2;
        length = rw e3;
        sck = rw (e4, e7) (sck ∙ kept-sck);
        select = rw e7 (select ∙ kept-select);
        sdo = sdo;
      }

  stays : (c : Call) (a : Answer) → enters_reset c ≡ false → leaves_reset c ≡ false → did (sets_mode c) a ≡ false → did (sets_length c) a ≡ false →
      did (is_pin_call c) a ≡ false → made_edge a ≡ false → PlainOf m c (record { answer = a; after = m })
  stays c a e0 e1 e2 e3 e7 e4 = leaves c a m.engine e0 e1 e2 e3 e7 e4 refl refl (λ x y z. refl)

  -- A done mode, by where it leaves the module.
  set-plain : (master talk polarity phase : Bool) (r : Bool) (n : Engine) → m.reset ≡ r →
      n.pins.sck ≡ (when r then polarity else m.engine.pins.sck) → n.pins.select ≡ (when r then true else m.engine.pins.select) →
      (r ≡ false → n.pins.sdo ≡ m.engine.pins.sdo) →
      PlainOf m (Mode master talk polarity phase)
      (record { answer = Done; after = record { reset = r; settings = mode_of master talk polarity phase m.settings; engine = n } })
  unfolding when◌then◌else◌
  set-plain master talk polarity phase r n e sck select sdo =
      record { reset = sym e; mode = refl; length = refl; sck = sck; select = select; sdo = λ off p idle. sdo off }

  -- An edge leaves the output between characters.
  edged-stays : (sck select sdi : Bool) → m.settings.phase ≡ false →
      is_under (way_of (edged m.settings sdi (seen sck select m.engine)).shift) ≡ false →
      (edged m.settings sdi (seen sck select m.engine)).pins.sdo ≡ m.engine.pins.sdo
  unfolding edged seen
  edged-stays sck select sdi phase idle = clocked_stays m.settings phase sdi (under_way m.engine.shift) (seen sck select m.engine) idle

  seen_pins : (sck select : Bool) →
      ((seen sck select m.engine).pins.sck ≡ sck) × ((seen sck select m.engine).pins.select ≡ select)
      × ((seen sck select m.engine).pins.sdo ≡ m.engine.pins.sdo)
  unfolding seen
  seen_pins sck select = (refl, refl, refl)

  -- Out of reset: a tick that made an edge, and a pin call that was done, by what they leave.
  moves : (c : Call) (a : Answer) (n : Engine) → enters_reset c ≡ false → leaves_reset c ≡ false → did (sets_mode c) a ≡ false →
      did (sets_length c) a ≡ false → m.reset ≡ false →
      n.pins.sck ≡ (when made_edge a then not m.engine.pins.sck else when did (is_pin_call c) a then sck_asked c else m.engine.pins.sck) →
      n.pins.select ≡ (when did (is_pin_call c) a then select_asked c else m.engine.pins.select) →
      (m.settings.phase ≡ false → is_under (way_of n.shift) ≡ false → n.pins.sdo ≡ m.engine.pins.sdo) →
      PlainOf m c (answering m a n)
  unfolding when◌then◌else◌
  moves c a n e0 e1 e2 e3 e sck select sdo =
      record { reset = rw (e0, e1); mode = rw e2; length = rw e3; sck = rw e sck; select = rw e select; sdo = λ off. sdo }

  pub plainly : (c : Call) → PlainOf m c (perform_of m c)
  unfolding enter_of leave_of set_mode set_length write_of read_of tick_of pins_of clear_of rested_at taken cleared turned stepped when◌then◌else◌
  plainly Enter =
      if_keeps (λ (x : Ti). PlainOf m Enter (record { answer = Done; after = x })) m.reset _ _
      (λ e. record { reset = e; mode = refl; length = refl; sck = kept-sck; select = kept-select; sdo = λ off. clash m.reset e off })
      (λ e. record { reset = refl; mode = refl; length = refl; sck = refl; select = refl; sdo = λ off. clash true refl off })
  plainly Leave =
      if_keeps (λ (x : Ti). PlainOf m Leave (record { answer = Done; after = x })) m.reset _ _
      (λ e.
      let rest = rest_pins e in
      record { reset = refl; mode = refl; length = refl; sck = sym rest.0; select = sym rest.1; sdo = λ off p idle. sym rest.2 })
      (λ e. record { reset = e; mode = refl; length = refl; sck = kept-sck; select = kept-select; sdo = λ off p idle. refl })
  plainly (Mode master talk polarity phase) =
      if_keeps (PlainOf m (Mode master talk polarity phase)) m.reset _ _
      (λ e. set-plain master talk polarity phase true (rested_at polarity) e refl refl (λ off. clash true refl off))
      (λ e.
      if_keeps (PlainOf m (Mode master talk polarity phase)) (changes_mode master polarity phase m.settings) _ _
      (λ f. stays _ _ refl refl refl refl refl refl)
      (λ f. set-plain master talk polarity phase false m.engine e refl refl (λ off. refl)))
  plainly (Length n) =
      if_keeps (PlainOf m (Length n)) (not m.reset) _ _ (λ e. stays _ _ refl refl refl refl refl refl)
      (λ e.
      if_keeps (PlainOf m (Length n)) (not (is_length n)) _ _ (λ f. stays _ _ refl refl refl refl refl refl)
      (λ f.
      let on : m.reset ≡ true = not-false m.reset e in
      let rest = rest_pins on in
      record { reset = sym on; mode = refl; length = refl; sck = rest.0; select = rest.1; sdo = λ off. clash true refl off }))
  plainly (Write v) =
      if_keeps (PlainOf m (Write v)) m.reset _ _ (λ e. stays _ _ refl refl refl refl refl refl)
      (λ e.
      if_keeps (PlainOf m (Write v)) (is_full m.engine.waiting) _ _ (λ f. stays _ _ refl refl refl refl refl refl)
      (λ f.
      let left = written_rest m.settings (character_in m.settings v) m.engine in
      leaves (Write v) Done _ refl refl refl refl refl refl left.sck left.select
      (λ off phase idle. written-stays m.settings phase (character_in m.settings v) m.engine)))
  plainly Read =
      if_keeps (PlainOf m Read) m.reset _ _ (λ e. stays _ _ refl refl refl refl refl refl) (λ e. go m.engine.unread)
    where
      go : (b : Option ℕ) → PlainOf m Read (read_from m b)
      go None = stays _ _ refl refl refl refl refl refl
      go (Some c) = leaves Read (Value c) _ refl refl refl refl refl refl refl refl (λ off phase idle. refl)
  plainly (Tick sdi) =
      if_keeps (PlainOf m (Tick sdi)) m.reset _ _ (λ e. stays _ _ refl refl refl refl refl refl)
      (λ e.
      if_keeps (PlainOf m (Tick sdi)) (not m.settings.master) _ _ (λ f. stays _ _ refl refl refl refl refl refl)
      (λ f.
      if_keeps (PlainOf m (Tick sdi)) (is_free m.engine.shift) _ _ (λ g. stays _ _ refl refl refl refl refl refl)
      (λ g.
      let sck : Bool = not m.engine.pins.sck in
      let pins = edged_pins m.settings sdi (seen sck m.engine.pins.select m.engine) in
      let before = seen_pins sck m.engine.pins.select in
      moves (Tick sdi) Edge _ refl refl refl refl e (pins.0 ∙ before.0) (pins.1 ∙ before.1)
      (edged-stays sck m.engine.pins.select sdi))))
  plainly (Pin sck sdi select) =
      if_keeps (PlainOf m (Pin sck sdi select)) m.reset _ _ (λ e. stays _ _ refl refl refl refl refl refl)
      (λ e.
      if_keeps (PlainOf m (Pin sck sdi select)) m.settings.master _ _ (λ f. stays _ _ refl refl refl refl refl refl)
      (λ f.
      let before = seen_pins sck select in
      if_keeps (λ (n : Engine). PlainOf m (Pin sck sdi select) (answering m Done n))
      (Bool·beq sck m.engine.pins.sck || (select || not (leads_on m.settings sck (under_way m.engine.shift).edges))) _ _
      (λ g. moves (Pin sck sdi select) Done _ refl refl refl refl e before.0 before.1 (λ phase idle. before.2))
      (λ g.
      let pins = edged_pins m.settings sdi (seen sck select m.engine) in
      moves (Pin sck sdi select) Done _ refl refl refl refl e (pins.0 ∙ before.0) (pins.1 ∙ before.1)
      (edged-stays sck select sdi))))
  plainly Clear = leaves Clear Done _ refl refl refl refl refl refl refl refl (λ off phase idle. refl)
