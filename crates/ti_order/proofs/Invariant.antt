-- What holds of every module that calls reach from power-up.
--     CharacterHolds, ShiftHolds, Holds   the invariant
--     received_same, received_fits        no bit that was latched is lost
--     clocked_holds, stepped_holds        edges keep it
--     start_holds, keeps                  power-up has it, and every call keeps it
-- Assumes nothing.
use Rattle.std.specs.Prelude.{◌+◌, ◌*◌, ◌-◌, ◌/◌, ◌%◌, ◌^◌, ◌≤◌, ◌<◌, ◌||◌, ◌≡◌, Option, Some, None}
use Rattle.laws.proofs.Common.{ℕ, Bool, true, false, not, Bool·beq, refl}
use Rattle.laws.proofs.Common.{sym, ap, subst, ◌∙◌, pow-succ', mod-eq_of_lt, zero-div, arith, eqb-false, ltb-true, ltb-false}
use Rattle.laws.proofs.Common.{ne_eqb, not-true, not-false, eqb, ltb, when◌then◌else◌, if_keeps, if_both, if_true, clash}
use Rattle.laws.proofs.Common.{and_left, and_right, or_left, or_right, or_rest_first, like}
use native.Mathlib.Nat.{pow-le-pow_right}
use mir.Val.{bool_byte}
use lib.Pow.{pow_pos}
use Rattle.word_order.specs.Bits.{bit_of, sampled_in}
use Rattle.word_order.proofs.WordBits.{sampled_more, sampled_same, bit_most}
use Rattle.ti_rules.specs.declared.Settings.{Settings}
use Rattle.ti_rules.specs.declared.Character.{Character}
use Rattle.ti_rules.specs.declared.Engine.{Engine}
use Rattle.ti_rules.specs.declared.Ti.{Ti}
use Rattle.ti_rules.specs.declared.Outcome.{Outcome}
use Rattle.ti_rules.specs.declared.Call.{Call}
use Rattle.ti_rules.specs.declared.Call.TheVariants.{Enter, Leave, Mode, Length, Write, Read, Tick, Pin, Clear}
use Rattle.ti_rules.specs.Settings.{rested_at, powered_up, is_length, with_length, mode_of, changes_mode}
use Rattle.ti_rules.specs.Characters.{character_in, is_free, fresh, between_sdo, written_to, written, taken, cleared}
use Rattle.ti_rules.specs.Finish.{finished}
use Rattle.ti_rules.specs.Edge.{latches, received_after, sdo_after, shifted, clocked, under_way, edged, seen, turned, stepped}
use Rattle.ti_rules.specs.Calls.{enter_of, leave_of, set_mode, set_length, write_of, read_from, read_of, tick_of, pins_of, clear_of, perform_of}
use Rattle.ti_rules.specs.Watch.{latched}
use Rattle.ti_rules.specs.Flags.{shown_at}
use Rattle.ti_order.proofs.Latching.{latches_same, sampled_half, shown_place, shown_stays, shown_already, shown_moves}

-- A character in the shift register: it is short of its last edge, it has received no more bits than were latched, zeros have begun,
-- are all 0 and are no master's, and the output shows the bit that is due. Phase 0 shows none before the first edge.
pub record CharacterHolds (s : Settings) (sdo : Bool) (c : Character) : Type 0 where
  pub short : c.edges < 2 * s.length
  pub received : c.received < 2 ^ sampled_in (latched s.phase) c.edges
  pub begun : c.zeros ≡ true → 1 ≤ c.edges
  pub nought : c.zeros ≡ true → c.bits ≡ 0
  pub own : s.master ≡ true → c.zeros ≡ false
  pub shows : (s.phase || ltb 0 c.edges) ≡ true → sdo ≡ bit_of c.bits (s.length - 1 - shown_at s.phase c.edges)

abbrev pub ShiftHolds : Settings → Engine → Option Character → Type 0
ShiftHolds s n None = (n.waiting ≡ None) × (s.phase ≡ true → n.pins.sdo ≡ false)
ShiftHolds s n (Some c) = CharacterHolds s n.pins.sdo c

-- The length is in range, and in reset the module is at rest.
pub record Reached (m : Ti) : Type 0 where
  pub least : 1 ≤ m.settings.length
  pub most : m.settings.length ≤ 16
  pub resting : m.reset ≡ true → m.engine ≡ rested_at m.settings.polarity
  pub shift : ShiftHolds m.settings m.engine m.engine.shift

-- No bit of 0 is set.
pub bit_zero : (i : ℕ) → bit_of 0 i ≡ false
unfolding bit_of
bit_zero i =
    let z : 0 / 2 ^ i ≡ 0 = zero-div (2 ^ i) in
    ne_eqb (0 / 2 ^ i % 2) 1 (λ e. let f : 0 / 2 ^ i % 2 ≡ 1 = e in omega arith)

-- A latched bit fits behind those before it.
module _ (s : Settings) (most : s.length ≤ 16) (sdi : Bool) (c : Character) (short : c.edges < 2 * s.length)
    (fits : c.received < 2 ^ sampled_in (latched s.phase) c.edges) where
  abbrev latched_by : ℕ → ℕ
  latched_by k = sampled_in (latched s.phase) k

  twice : latched s.phase (c.edges + 1) ≡ true → c.received * 2 + bool_byte sdi < 2 ^ latched_by (c.edges + 1)
  twice e = rw (sampled_more (latched s.phase) c.edges e, pow-succ' 2 (latched_by c.edges)) (omega (arith, bit_most sdi))

  no_more : latched_by (c.edges + 1) ≤ 16
  no_more = omega (arith, bit_most s.phase, sampled_half s.phase (c.edges + 1))

  pub received_same : received_after s (c.edges + 1) sdi c.received
      ≡ (when latched s.phase (c.edges + 1) then c.received * 2 + bool_byte sdi else c.received)
  unfolding received_after
  received_same =
      if_both (λ (a b : ℕ). a ≡ b) (latches s.phase (c.edges + 1)) (latched s.phase (c.edges + 1)) _ _ _ _
      (sym (latches_same s.phase (c.edges + 1)))
      (λ e.
      let bound : 2 ^ latched_by (c.edges + 1) ≤ 65536 = pow-le-pow_right (omega arith) no_more in
      mod-eq_of_lt (omega (arith, twice (sym (latches_same s.phase (c.edges + 1)) ∙ e))))
      (λ e. refl)

  pub received_fits : received_after s (c.edges + 1) sdi c.received < 2 ^ latched_by (c.edges + 1)
  received_fits =
      rw received_same
      (if_keeps (λ (n : ℕ). n < 2 ^ latched_by (c.edges + 1)) (latched s.phase (c.edges + 1)) _ _ twice
      (λ e. rw (sampled_same (latched s.phase) c.edges e) fits))

-- Zeros before their first edge: phase 1 shows 0, phase 0 need not.
pub zeros_shown : (s : Settings) (sdo : Bool) → (s.phase ≡ true → sdo ≡ false) → (s.phase || ltb 0 0) ≡ true →
    sdo ≡ bit_of 0 (s.length - 1 - shown_at s.phase 0)
zeros_shown s sdo low e = low (or_rest_first s.phase _ e refl) ∙ sym (bit_zero _)

abbrev Held : Settings → Engine → Type 0
Held s n = ShiftHolds s n n.shift

-- An engine with the same character waiting and the same output, as after other levels of clock and select are seen.
like_holds : (s : Settings) (n k : Engine) (sh : Option Character) → k.waiting ≡ n.waiting → k.pins.sdo ≡ n.pins.sdo →
    ShiftHolds s n sh → ShiftHolds s k sh
like_holds s n k None e f h = (e ∙ h.0, λ p. f ∙ h.1 p)
like_holds s n k (Some c) e f h = subst (λ (b : Bool). CharacterHolds s b c) (sym f) h

pub seen_keeps : (s : Settings) (sck select : Bool) (n : Engine) → Held s n → Held s (seen sck select n)
unfolding seen
seen_keeps s sck select n h = like_holds s n (seen sck select n) n.shift refl refl h

-- Characters move.
module _ (s : Settings) (least : 1 ≤ s.length) (most : s.length ≤ 16) where
  -- What waits is loaded, and shown in phase 1.
  fresh_holds : (sdo : Bool) (bits : ℕ) → CharacterHolds s (when s.phase then bit_of bits (s.length - 1) else sdo) (fresh false bits)
  fresh_holds sdo bits =
      record {
        short = omega arith;
        received = pow_pos 0;
        begun = λ e. clash true refl (sym e);
        nought = λ e. clash true refl (sym e);
        own = λ e. refl;
        shows = λ e. first s.phase e;
      }
    where
      first : (p : Bool) → (p || ltb 0 0) ≡ true →
          (when p then bit_of bits (s.length - 1) else sdo) ≡ bit_of bits (s.length - 1 - shown_at p 0)
      first true e =
          let same : s.length - 1 ≡ s.length - 1 - shown_at true 0 = omega (arith, shown_place true 0) in
          if_true true _ _ refl ∙ ap (bit_of bits) same
      first false e = clash false e refl

  finished_holds : (received : ℕ) (n : Engine) → Held s (finished s received n)
  unfolding finished between_sdo
  finished_holds received n = go n.waiting
    where
      at : Option ℕ → Engine
      at w = record { waiting = w; shift = n.shift; unread = n.unread; pins = n.pins; overrun = n.overrun }

      go : (w : Option ℕ) → Held s (finished s received (at w))
      go None = (refl, λ p. if_true s.phase _ _ p)
      go (Some bits) = fresh_holds n.pins.sdo bits

  -- An edge of a character.
  clocked_holds : (sdi : Bool) (c : Character) (n : Engine) → (c.zeros ≡ true → c.bits ≡ 0) → (s.master ≡ true → c.zeros ≡ false) →
      c.edges < 2 * s.length → c.received < 2 ^ sampled_in (latched s.phase) c.edges →
      ((s.phase || ltb 0 c.edges) ≡ true → n.pins.sdo ≡ bit_of c.bits (s.length - 1 - shown_at s.phase c.edges)) →
      Held s (clocked s sdi c n)
  unfolding clocked shifted sdo_after
  clocked_holds sdi c n nought own short fits shows =
      if_keeps (Held s) (ltb (c.edges + 1) (2 * s.length)) _ _
      (λ e.
      record {
        short = ltb-true (c.edges + 1) (2 * s.length) e;
        received = received_fits s most sdi c short fits;
        begun = λ z. omega arith;
        nought = nought;
        own = own;
        shows = λ k.
            if_keeps (λ (b : Bool). b ≡ bit_of c.bits (s.length - 1 - shown_at s.phase (c.edges + 1)))
            (latches s.phase (c.edges + 1)) _ _
            (λ l.
            let latch : latched s.phase (c.edges + 1) ≡ true = sym (latches_same s.phase (c.edges + 1)) ∙ l in
            rw (shown_stays s.phase c.edges latch) (shows (shown_already s.phase c.edges latch)))
            (λ l. rw (shown_moves s.phase c.edges (sym (latches_same s.phase (c.edges + 1)) ∙ l)));
      })
      (λ e. finished_holds (received_after s (c.edges + 1) sdi c.received) n)

  -- An edge that counts. A master makes none with nothing to send.
  edged_holds : (sdi : Bool) (n : Engine) → (is_free n.shift ≡ true → s.master ≡ false) → Held s n → Held s (edged s sdi n)
  unfolding edged
  edged_holds sdi n slave h = go n.shift slave h
    where
      go : (sh : Option Character) → (is_free sh ≡ true → s.master ≡ false) → ShiftHolds s n sh → Held s (clocked s sdi (under_way sh) n)
      go None f k =
          clocked_holds sdi (fresh true 0) n (λ e. refl) (λ e. clash s.master e (f refl)) (omega arith) (pow_pos 0)
          (zeros_shown s n.pins.sdo k.1)
      go (Some c) f k = clocked_holds sdi c n k.nought k.own k.short k.received k.shows

  turned_holds : (sdi : Bool) (n : Engine) → is_free n.shift ≡ false → Held s n → Held s (turned s sdi n)
  unfolding turned seen
  turned_holds sdi n busy h = edged_holds sdi _ (λ e. clash (is_free n.shift) e busy) (seen_keeps s (not n.pins.sck) n.pins.select n h)

  stepped_holds : (sck sdi select : Bool) (n : Engine) → s.master ≡ false → Held s n → Held s (stepped s sck sdi select n)
  unfolding stepped
  stepped_holds sck sdi select n slave h =
      if_keeps (Held s) _ _ _ (λ e. seen_keeps s sck select n h) (λ e. edged_holds sdi _ (λ f. slave) (seen_keeps s sck select n h))

  written_holds : (bits : ℕ) (n : Engine) → Held s n → Held s (written s bits n)
  unfolding written between_sdo
  written_holds bits n h = go n.shift h
    where
      go : (sh : Option Character) → ShiftHolds s n sh → Held s (written_to s bits sh n)
      go None k = fresh_holds n.pins.sdo bits
      go (Some c) k = k

-- A module at rest.
rested_holds : (s : Settings) (polarity : Bool) → ShiftHolds s (rested_at polarity) (rested_at polarity).shift
unfolding rested_at
rested_holds s polarity = (refl, λ p. refl)

-- The overrun flag is down at rest already.
cleared_rest : (polarity : Bool) → cleared (rested_at polarity) ≡ rested_at polarity
unfolding cleared rested_at
cleared_rest polarity = refl

pub start_holds : Reached powered_up
unfolding powered_up
start_holds =
    record { least = omega arith; most = omega arith; resting = λ e. refl; shift = rested_holds _ false }

-- Every call.
abbrev After : Outcome → Type 0
After o = Reached o.after

-- Another engine out of reset.
moved : (m : Ti) (n : Engine) → Reached m → m.reset ≡ false → ShiftHolds m.settings n n.shift →
    Reached (record { reset = m.reset; settings = m.settings; engine = n })
moved m n h off k = record { least = h.least; most = h.most; resting = λ e. clash m.reset e off; shift = k }

other_mode_lem : (m : Ti) (master talk polarity phase : Bool) → Reached m → m.reset ≡ false →
    master ≡ m.settings.master →
    phase ≡ m.settings.phase →
    Reached (record { reset = false; settings = mode_of master talk polarity phase m.settings; engine = m.engine })
other_mode_lem m master talk polarity phase h off r q =
    record {
      least = h.least;
      most = h.most;
      resting = λ e. clash true refl (sym e);
      shift = rw q (go m.engine.shift h.shift);
    }
  where
    go : (sh : Option Character) → ShiftHolds m.settings m.engine sh → ShiftHolds (mode_of master talk polarity m.settings.phase m.settings) m.engine sh
    go None k = k
    go (Some c) k =
        record { short = k.short; received = k.received; begun = k.begun; nought = k.nought; own = λ e. k.own (sym r ∙ e); shows = k.shows }

-- A mode that does not change more than talk.
pub kept_mode : (master polarity phase : Bool) (s : Settings) → changes_mode master polarity phase s ≡ false →
    (master ≡ s.master) × (polarity ≡ s.polarity) × (phase ≡ s.phase)
unfolding changes_mode
kept_mode master polarity phase s e =
    let rest = or_right (not (Bool·beq master s.master)) _ e in (
      like master s.master (not-false (Bool·beq master s.master) (or_left _ _ e)),
      like polarity s.polarity (not-false (Bool·beq polarity s.polarity) (or_left _ _ rest)),
      like phase s.phase (not-false (Bool·beq phase s.phase) (or_right (not (Bool·beq polarity s.polarity)) _ rest)),
    )

pub is_length_lem : (n : ℕ) → is_length n ≡ true → (1 ≤ n) × (n ≤ 16)
unfolding is_length
is_length_lem n e =
    let some : n ≡ 0 → ⊥ = eqb-false n 0 (not-true (eqb n 0) (and_left (not (eqb n 0)) _ e)) in
    let most : n ≤ 16 = ltb-false 16 n (not-true (ltb 16 n) (and_right (not (eqb n 0)) _ e)) in
    (omega arith, most)

pub keeps : (m : Ti) (c : Call) → Reached m → Reached (perform_of m c).after
unfolding enter_of leave_of set_mode set_length write_of read_of tick_of pins_of clear_of taken cleared
keeps m Enter h =
    if_keeps Reached m.reset _ _ (λ e. h)
    (λ e. record { least = h.least; most = h.most; resting = λ e. refl; shift = rested_holds _ _ })
keeps m Leave h =
    if_keeps Reached m.reset _ _
    (λ e. record { least = h.least; most = h.most; resting = λ e. clash true refl (sym e); shift = rested_holds _ _ })
    (λ e. h)
keeps m (Mode master talk polarity phase) h =
    if_keeps After m.reset _ _
    (λ e. record { least = h.least; most = h.most; resting = λ e. refl; shift = rested_holds _ _ })
    (λ e.
    if_keeps After (changes_mode master polarity phase m.settings) _ _ (λ f. h)
    (λ f.
    let same = kept_mode master polarity phase m.settings f in
    other_mode_lem m master talk polarity phase h e same.0 same.2))
keeps m (Length n) h =
    if_keeps After (not m.reset) _ _ (λ e. h)
    (λ e.
    if_keeps After (not (is_length n)) _ _ (λ f. h)
    (λ f.
    let fit = is_length_lem n (not-false (is_length n) f) in
    record {
      least = fit.0;
      most = fit.1;
      resting = λ r. h.resting (not-false m.reset e);
      shift =
          subst (λ (x : Engine). ShiftHolds (with_length n m.settings) x x.shift) (sym (h.resting (not-false m.reset e)))
          (rested_holds _ _);
    }))
keeps m (Write v) h =
    if_keeps After m.reset _ _ (λ e. h)
    (λ e.
    if_keeps After _ _ _ (λ f. h)
    (λ f. moved m _ h e (written_holds m.settings h.least h.most (character_in m.settings v) m.engine h.shift)))
keeps m Read h =
    if_keeps After m.reset _ _ (λ e. h) (λ e. go e m.engine.unread)
  where
    go : m.reset ≡ false → (b : Option ℕ) → Reached (read_from m b).after
    go e None = h
    go e (Some c) = moved m _ h e (like_holds m.settings m.engine (taken m.engine) m.engine.shift refl refl h.shift)
keeps m (Tick sdi) h =
    if_keeps After m.reset _ _ (λ e. h)
    (λ e.
    if_keeps After (not m.settings.master) _ _ (λ f. h)
    (λ f.
    if_keeps After _ _ _ (λ g. h)
    (λ g. moved m _ h e (turned_holds m.settings h.least h.most sdi m.engine g h.shift))))
keeps m (Pin sck sdi select) h =
    if_keeps After m.reset _ _ (λ e. h)
    (λ e.
    if_keeps After m.settings.master _ _ (λ f. h)
    (λ f. moved m _ h e (stepped_holds m.settings h.least h.most sck sdi select m.engine f h.shift)))
keeps m Clear h =
    record {
      least = h.least;
      most = h.most;
      resting = λ e. ap cleared (h.resting e) ∙ cleared_rest _;
      shift = like_holds m.settings m.engine (cleared m.engine) m.engine.shift refl refl h.shift;
    }
