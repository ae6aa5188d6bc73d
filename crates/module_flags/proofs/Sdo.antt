-- The level that SDO has or would have after a call, and the pins as others see them (specs/Flags.antt).
--     sdo_shown_lem    SDO after a call
--     pins_show_lem    the pins
-- Assumes nothing.
use Rattle.std.specs.Prelude.{◌+◌, ◌-◌, ◌/◌, ◌≤◌, ◌&&◌, ◌∷◌, ◌++◌, ◌≡◌}
use Rattle.laws.proofs.Common.{ℕ, zero-le, Bool, true, false, not, Bool·beq, List, []}
use Rattle.laws.proofs.Common.{refl, sym, ap, ap₂, ◌∙◌, arith, eqb-true, eqb-false, ltb, length, get_or, when◌then◌else◌}
use Rattle.laws.proofs.Common.{if_keeps, if_true, if_false, by_test, clash}
use mathlib.Core.Bool.{and-false}
use Rattle.word_order.specs.Bits.{bit_of}
use Rattle.word_order.specs.Ledger.{Wire, Ledger, sent, busy, quiet}
use Rattle.word_order.specs.Port.{Way, wire_from, sends, idle}
use Rattle.word_order.proofs.Tied.{Carries, Tied}
use Rattle.module_rules.proofs.Types.{Settings, Engine, Pins, Module, Outcome, Progress, Shift, Free, Loaded, Begun, Call}
use Rattle.module_rules.specs.Settings.{width_of, depth_of, cke_of, ssen_client}
use Rattle.module_rules.specs.Registers.{stat_settings, stat_engine, enabled_engine, disabled_engine}
use Rattle.module_rules.specs.Buffers.{empty, first_waiting, waiting}
use Rattle.module_rules.specs.Interrupts.{noted}
use Rattle.module_rules.specs.Loading.{word_leaves, moved, can_load, loaded, next_top, is_begun, sdo_at, rested}
use Rattle.module_rules.specs.Select.{select_remembered, aborted, deselected, select_seen}
use Rattle.module_rules.specs.Edge.{word_edges, shifted, advanced, advanced_if_begun, under_way, pulsed, clocked, edged, levels, stepped}
use Rattle.module_rules.specs.Words.{unfinished}
use Rattle.module_rules.specs.Calls.{answering, word_taken, word_written, clear_of, perform_of, sck_of, undriven, sdo_of, ss_of}
use Rattle.module_rules.specs.Invariant.{ProgressHolds, ShiftHolds, ModuleHolds}
use Rattle.module_rules.specs.Watch.{Watched, watched_call, port_in, way_of, terms}
use Rattle.module_rules.specs.Flags.{first_unsent, level_shown, sdo_shown}
use Rattle.module_rules.specs.Demands.{PinsShow}
use Rattle.module_rules.proofs.Sizes.{depth_most, power_least, no_bit_above}
use Rattle.module_rules.proofs.BuffersOrder.{none_waiting, left_takes_first}
use Rattle.module_invariant.proofs.Parts.{BuffersHold, queued}
use Rattle.module_invariant.proofs.Engine.{engine_of}
use Rattle.module_invariant.proofs.FinishWords.{finished_sdo}
use Rattle.module_invariant.proofs.CallCases.{call_cases}
use Rattle.module_order.proofs.Levels.{Recalls}
use Rattle.module_order.proofs.Ports.{port_of}

-- The first of what stands behind a list.
first_behind : (l rest : List ℕ) → get_or (l ++ rest) (length l) 0 ≡ get_or rest 0 0
first_behind [] rest = refl
first_behind (x ∷ l) rest = first_behind l rest

-- Zeros have no bit.
no_bits : (i : ℕ) → bit_of 0 i ≡ false
no_bits i = no_bit_above 0 0 i (power_least 0) zero-le

module _ (s : Settings) (n : Engine) (l : Ledger) (t : Tied (terms s) (port_of s n) l) (b : BuffersHold s n) where
  -- The first accepted word that is not sent is the first of those that the engine still has.
  unsent_is : first_unsent l ≡ get_or (unfinished s n.shift ++ waiting (depth_of s) n.transmit) 0 0
  unsent_is = ap (λ (q : List ℕ). get_or q (length (sent l)) 0) t.sending ∙ first_behind (sent l) _

  -- The first of the words that wait.
  first-waits : 1 ≤ n.transmit.count → get_or (waiting (depth_of s) n.transmit) 0 0 ≡ first_waiting n.transmit
  first-waits some =
      ap (λ (q : List ℕ). get_or q 0 0)
      (left_takes_first (depth_of s) n.transmit (depth_most s) b.transmit.cells b.transmit.ring some)

  -- The word on the wire.
  sent_word : (p : Progress) → n.shift ≡ Begun p → ProgressHolds s n p → p.word ≡ (when p.filler then 0 else first_unsent l)
  unfolding when◌then◌else◌
  sent_word p e k =
      if_keeps (λ (w : ℕ). p.word ≡ w) p.filler 0 (first_unsent l) k.zeros
      (λ f.
      by_test (ssen_client s)
      (λ c. rw (unsent_is, e, f, c) ((k.first c f).1 ∙ sym (first-waits (k.first c f).0)))
      (λ c. rw (unsent_is, e, f, c)))

  on-wire : (sh : Shift) → n.shift ≡ sh → ShiftHolds s n sh → is_begun sh ≡ true →
      (before : Bool) → n.pins.sdo ≡ level_shown s l (wire_from (terms s) (way_of sh)) before
  on-wire Free e k begun before = clash false begun refl
  on-wire (Loaded word) e k begun before = clash false begun refl
  on-wire (Begun p) e k begun before =
      k.shows ∙ ap (λ (word : ℕ). bit_of word (width_of s - 1 - (when cke_of s then p.edges else p.edges - 1) / 2))
      (sent_word p e k)

  -- The top bit of the word to be sent next.
  next-top : (sh : Shift) → n.shift ≡ sh → ShiftHolds s n sh → is_begun sh ≡ false →
      next_top s n.transmit sh ≡ bit_of (first_unsent l) (width_of s - 1)
  unfolding next_top
  next-top Free e k unbegun =
      by_test (empty n.transmit.count)
      (λ none.
      let none_waits_lem = none_waiting (depth_of s) n.transmit (eqb-true n.transmit.count 0 none) in
      rw (unsent_is, e, none_waits_lem, none, and-false (ssen_client s))
      (sym (no_bits (width_of s - 1))))
      (λ some.
      let there : n.transmit.count ≡ 0 → ⊥ = eqb-false n.transmit.count 0 some in
      let client : ssen_client s ≡ true = by_test (ssen_client s) (λ c. c) (λ c. absurd (there (k.0 c))) in
      rw (unsent_is, e, first-waits (omega arith), client, some))
  next-top (Loaded word) e k unbegun = rw (unsent_is, e)
  next-top (Begun p) e k unbegun = clash true refl unbegun

  -- With no word begun the wire is quiet.
  quiet-level : (sh : Shift) → is_begun sh ≡ false → (before : Bool) →
      (when cke_of s then bit_of (first_unsent l) (width_of s - 1) else before) ≡ level_shown s l (wire_from (terms s) (way_of sh)) before
  quiet-level Free unbegun before = refl
  quiet-level (Loaded word) unbegun before = refl
  quiet-level (Begun p) unbegun before = clash true refl unbegun

-- The level by what the wire carries.
carried_level : (s : Settings) (l : Ledger) (before : Bool) (owed : List ℕ) (way : Way) (wire : Wire) → Carries (terms s) owed way wire →
    level_shown s l wire before ≡ level_shown s l (wire_from (terms s) way) before
carried_level s l before owed idle quiet c = refl
carried_level s l before owed idle (busy w) c = absurd c
carried_level s l before owed (sends u) quiet c = absurd c
carried_level s l before owed (sends u) (busy w) c =
    ap₂
    (λ (f : Bool) (e : ℕ).
    bit_of (when f then 0 else first_unsent l) (width_of s - 1 - (when cke_of s then e else e - 1) / 2))
    c.filler c.edges

-- SDO is left by everything with CKE 0 but the edges of a word that goes on.

module _ (s : Settings) (cke : cke_of s ≡ false) where
  -- An edge after which no word is begun.
  advanced_sdo : (sdi : Bool) (sh : Shift) (n : Engine) → is_begun (advanced_if_begun s sdi sh n).shift ≡ false →
      (advanced_if_begun s sdi sh n).pins.sdo ≡ n.pins.sdo
  unfolding advanced_if_begun advanced shifted
  advanced_sdo sdi Free n = λ unbegun. refl
  advanced_sdo sdi (Loaded word) n = λ unbegun. refl
  advanced_sdo sdi (Begun p) n =
      if_keeps (λ (x : Engine). is_begun x.shift ≡ false → x.pins.sdo ≡ n.pins.sdo) (ltb (p.edges + 1) (word_edges s)) _ _
      (λ e unbegun. clash true refl unbegun)
      (λ e unbegun. finished_sdo s cke p.filler _ n)

  selected_keeps : (ss : Bool) (n : Engine) → (select_seen s ss n).pins.sdo ≡ n.pins.sdo
  unfolding select_seen aborted rested sdo_at select_remembered
  selected_keeps ss n =
      if_keeps (λ (x : Engine). x.pins.sdo ≡ n.pins.sdo) (deselected s ss && is_begun n.shift) _ _
      (λ e. if_false (cke_of s && true) _ _ (ap (λ (b : Bool). b && true) cke))
      (λ e. refl)

  stepped-sdo : (sck sdi ss : Bool) (n : Engine) → is_begun (stepped s (levels sck sdi ss) n).shift ≡ false →
      (stepped s (levels sck sdi ss) n).pins.sdo ≡ n.pins.sdo
  unfolding stepped edged clocked pulsed
  stepped-sdo sck sdi ss n =
      let x : Engine = select_seen s ss n in
      let P : Engine → Type 0 = λ y. is_begun y.shift ≡ false → y.pins.sdo ≡ n.pins.sdo in
      if_keeps P (Bool·beq sck n.pins.sck) _ _
      (λ e unbegun. selected_keeps ss n)
      (λ e.
      if_keeps P (deselected s x.pins.ss) _ _
      (λ d unbegun. selected_keeps ss n)
      (λ d unbegun. advanced_sdo sdi (under_way s sck x) (clocked sck x) unbegun ∙ selected_keeps ss n))

  written-sdo : (word : ℕ) (n : Engine) → (word_written s word n).pins.sdo ≡ n.pins.sdo
  unfolding word_written rested sdo_at noted loaded moved word_leaves
  written-sdo word n =
      let q : Engine = queued s word n in
      if_false (cke_of s && not (is_begun (loaded s q).shift)) _ _
      (ap (λ (b : Bool). b && not (is_begun (loaded s q).shift)) cke)
      ∙ if_keeps (λ (x : Engine). x.pins.sdo ≡ n.pins.sdo) (can_load s q) _ _ (λ e. refl) (λ e. refl)

-- An outcome that leaves SDO as it was between words with CKE 0, 0 at enabling, and all levels as they were while disabled.
record Leaves (m : Module) (o : Outcome) : Type 0 where
  on : o.after.settings.spien ≡ true → cke_of o.after.settings ≡ false → is_begun o.after.engine.shift ≡ false →
      o.after.engine.pins.sdo ≡ (m.settings.spien && m.engine.pins.sdo)
  off : o.after.settings.spien ≡ false → o.after.engine.pins ≡ m.engine.pins

module _ (m : Module) where
  -- An outcome with the same levels and the same SPIEN.
  same_leaves : (o : Outcome) → o.after.settings.spien ≡ m.settings.spien →
      (m.settings.spien ≡ true → cke_of o.after.settings ≡ false → is_begun o.after.engine.shift ≡ false →
      o.after.engine.pins.sdo ≡ m.engine.pins.sdo) →
      (m.settings.spien ≡ false → o.after.engine.pins ≡ m.engine.pins) → Leaves m o
  same_leaves o spien on off =
      record {
        on = λ e cke unbegun.
            on (sym spien ∙ e) cke unbegun
            ∙ ap (λ (b : Bool). b && m.engine.pins.sdo) (sym (sym spien ∙ e));
        off = λ e. off (sym spien ∙ e);
      }

  -- Every call.
  call-leaves : (c : Call) → Leaves m (perform_of m c)
  unfolding answering word_taken noted stat_settings enabled_engine disabled_engine stat_engine clear_of
  call-leaves =
      let s : Settings = m.settings in
      call_cases m (Leaves m)
      (record {
        same = λ a. same_leaves _ refl (λ on cke unbegun. refl) (λ off. refl);
        taken = λ on plain v. same_leaves _ refl (λ on cke unbegun. refl) (λ off. refl);
        enables = λ off v up good.
            record {
              on = λ on cke unbegun. sym (ap (λ (b : Bool). b && m.engine.pins.sdo) off);
              off = λ down. clash (bit_of v 15) up down;
            };
        disables = λ on v down. record { on = λ up. clash (bit_of v 15) up down; off = λ off. refl };
        rewrites = λ v same. same_leaves _ same (λ on cke unbegun. refl) (λ off. refl);
        configures = λ off c d spre ppre. same_leaves _ refl (λ on cke unbegun. refl) (λ off. refl);
        written = λ on v.
            same_leaves _ refl (λ on cke unbegun. written-sdo s cke _ m.engine) (λ off. clash s.spien on off);
        seen = λ on a ok x busy.
            same_leaves _ refl (λ on cke unbegun. stepped-sdo s cke x.sck x.sdi x.ss m.engine unbegun)
            (λ off. clash s.spien on off);
        cleared = same_leaves _ refl (λ on cke unbegun. refl) (λ off. refl);
      })

-- A module that is disabled after a call has the levels of before.
pub levels_stay : (m : Module) (c : Call) → (perform_of m c).after.settings.spien ≡ false →
    (perform_of m c).after.engine.pins ≡ m.engine.pins
levels_stay m c = (call-leaves m c).off

-- SDO after a call.
pub sdo_shown_lem : (x : Watched) (c : Call) → ModuleHolds (watched_call x c).now →
    ((watched_call x c).now.settings.spien ≡ true →
    Tied (terms (watched_call x c).now.settings) (port_in (watched_call x c).now) (watched_call x c).ledger) →
    (watched_call x c).now.engine.pins.sdo ≡ sdo_shown x (watched_call x c)
sdo_shown_lem x c h was =
    let y : Watched = watched_call x c in
    let s : Settings = y.now.settings in
    let n : Engine = y.now.engine in
    let before : Bool = x.now.settings.spien && x.now.engine.pins.sdo in
    let left : Leaves x.now (perform_of x.now c) = call-leaves x.now c in
    by_test s.spien
    (λ on.
    let t : Tied (terms s) (port_of s n) y.ledger = was on in
    let b : BuffersHold s n = (engine_of y.now h).buffers in
    by_test (is_begun n.shift)
    (λ begun. on-wire s n y.ledger t b n.shift refl h.shift begun before)
    (λ unbegun.
    by_test (cke_of s)
    (λ cke.
    h.rest on cke unbegun
    ∙ next-top s n y.ledger t b n.shift refl h.shift unbegun
    ∙ sym (if_true (cke_of s) _ before cke))
    (λ cke. left.on on cke unbegun ∙ sym (if_false (cke_of s) (bit_of (first_unsent y.ledger) (width_of s - 1)) before cke))
    ∙ quiet-level s n y.ledger t b n.shift unbegun before)
    ∙ sym (carried_level s y.ledger before (port_of s n).owed (way_of n.shift) y.ledger.wire t.carries)
    ∙ sym (if_true s.spien _ _ on))
    (λ off. ap (λ (p : Pins). p.sdo) (left.off off) ∙ sym (if_false s.spien _ _ off))

-- The pins as others see them.
pub pins_show_lem : (x : Watched) → (x.now.settings.spien ≡ true → Recalls x.now x.memory) → PinsShow x
unfolding sdo_of undriven sck_of ss_of when◌then◌else◌
pins_show_lem x was =
    record {
      sdo = by_test x.now.settings.spien (λ on. rw (was on).ss) (λ off. rw off);
      sck = λ on. sym (was on).sck;
      ss = by_test x.now.settings.spien (λ on. rw (was on).pulse) (λ off. rw off);
    }
