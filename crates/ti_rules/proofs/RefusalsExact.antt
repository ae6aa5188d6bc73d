-- A call is refused exactly as the table says, and then changes nothing.
--     refused_exactly_lem     the number is that of the first row that applies
--     refused_unchanged_lem   a refused call leaves the module as it was
--     in_kind_lem             the kinds of answer that each call may get
-- Assumes nothing.
use Rattle.std.specs.Prelude.{◌∷◌, ◌≡◌, Option, Some, None, ℕ}
use Rattle.laws.proofs.Common.{Bool, true, false, not, Bool·beq, refl, eqb, ltb, length, when◌then◌else◌, if_keeps}
use Rattle.laws.proofs.Common.{by_test}
use Rattle.ti_rules.specs.declared.Settings.{Settings}
use Rattle.ti_rules.specs.declared.Ti.{Ti}
use Rattle.ti_rules.specs.declared.Refusal.{Refusal}
use Rattle.ti_rules.specs.declared.Answer.TheVariants.{Refused}
use Rattle.ti_rules.specs.declared.Outcome.{Outcome}
use Rattle.ti_rules.specs.declared.Call.{Call}
use Rattle.ti_rules.specs.declared.Call.TheVariants.{Enter, Leave, Mode, Length, Write, Read, Tick, Pin, Clear}
use Rattle.ti_rules.specs.Settings.{is_length, changes_mode}
use Rattle.ti_rules.specs.Characters.{is_full, is_free}
use Rattle.ti_rules.specs.Refusals.{number_of, said_of}
use Rattle.ti_rules.specs.Calls.{enter_of, leave_of, set_mode, set_length, write_of, read_from, read_of, tick_of, pins_of, clear_of, perform_of}
use Rattle.ti_rules.specs.Watch.{in_buffer}
use Rattle.ti_rules.specs.RefusalTable.{rows, first_number, other_mode}
use Rattle.ti_rules.specs.Demands.{among, kinds_for}

-- Another mode, by the rule and by the table.
pub other_same : (master talk polarity phase : Bool) (s : Settings) →
    changes_mode master polarity phase s ≡ other_mode s (Mode master talk polarity phase)
unfolding changes_mode
other_same master talk polarity phase s =
    rw (turn master s.master, turn polarity s.polarity, turn phase s.phase)
  where
    turn : (a b : Bool) → not (Bool·beq a b) ≡ Bool·beq a (not b)
    turn true true = refl
    turn true false = refl
    turn false true = refl
    turn false false = refl

-- A full buffer, and a read, by the table.
full_same : (b : Option ℕ) → eqb (length (in_buffer b)) 1 ≡ is_full b
full_same None = refl
full_same (Some c) = refl

read_number : (m : Ti) (b : Option ℕ) → (said_of (read_from m b).answer).number ≡ (when eqb (length (in_buffer b)) 0 then 6 else 0)
unfolding number_of when◌then◌else◌
read_number m None = refl
read_number m (Some c) = refl

-- Test by test, in the order of the rules.
pub refused_exactly_lem : (m : Ti) (c : Call) → (said_of (perform_of m c).answer).number ≡ first_number (rows m c)
unfolding enter_of leave_of set_mode set_length is_length write_of read_of tick_of pins_of clear_of number_of when◌then◌else◌
refused_exactly_lem m Enter = by_test m.reset (λ e. rw e) (λ e. rw e)
refused_exactly_lem m Leave = by_test m.reset (λ e. rw e) (λ e. rw e)
refused_exactly_lem m (Mode master talk polarity phase) =
    by_test m.reset (λ e. rw e)
    (λ e.
    rw (e, other_same master talk polarity phase m.settings)
    (by_test (other_mode m.settings (Mode master talk polarity phase)) (λ f. rw f) (λ f. rw f)))
refused_exactly_lem m (Length n) =
    by_test m.reset
    (λ e. rw e (by_test (eqb n 0) (λ f. rw f) (λ f. rw f (by_test (ltb 16 n) (λ g. rw g) (λ g. rw g)))))
    (λ e. rw e)
refused_exactly_lem m (Write v) =
    by_test m.reset (λ e. rw e)
    (λ e. rw (e, full_same m.engine.waiting) (by_test (is_full m.engine.waiting) (λ f. rw f) (λ f. rw f)))
refused_exactly_lem m Read = by_test m.reset (λ e. rw e) (λ e. rw e (read_number _ m.engine.unread))
refused_exactly_lem m (Tick sdi) =
    by_test m.reset (λ e. rw e)
    (λ e.
    rw e
    (by_test m.settings.master (λ f. rw f (by_test (is_free m.engine.shift) (λ g. rw g) (λ g. rw g))) (λ f. rw f)))
refused_exactly_lem m (Pin sck sdi select) =
    by_test m.reset (λ e. rw e) (λ e. rw e (by_test m.settings.master (λ f. rw f) (λ f. rw f)))
refused_exactly_lem m Clear = by_test m.reset (λ e. rw e) (λ e. rw e)

-- A refusal tells the module as it was; no other answer is one. And an answer is of a kind that its call may get.
abbrev Fair : Ti → Call → Outcome → Type 0
Fair m c o =
    ((r : Refusal) → o.answer ≡ Refused r → o.after ≡ m) × (among (said_of o.answer).kind (0 ∷ kinds_for c) ≡ true)

fair : (m : Ti) (c : Call) → Fair m c (perform_of m c)
unfolding enter_of leave_of set_mode set_length write_of read_of tick_of pins_of clear_of
fair m Enter = (λ r e. cc, refl)
fair m Leave = (λ r e. cc, refl)
fair m (Mode master talk polarity phase) =
    if_keeps (Fair m (Mode master talk polarity phase)) m.reset _ _ (λ x. (λ r e. cc, refl))
    (λ x. if_keeps (Fair m (Mode master talk polarity phase)) _ _ _ (λ y. (λ r e. refl, refl)) (λ y. (λ r e. cc, refl)))
fair m (Length n) =
    if_keeps (Fair m (Length n)) (not m.reset) _ _ (λ x. (λ r e. refl, refl))
    (λ x. if_keeps (Fair m (Length n)) _ _ _ (λ y. (λ r e. refl, refl)) (λ y. (λ r e. cc, refl)))
fair m (Write v) =
    if_keeps (Fair m (Write v)) m.reset _ _ (λ x. (λ r e. refl, refl))
    (λ x. if_keeps (Fair m (Write v)) _ _ _ (λ y. (λ r e. refl, refl)) (λ y. (λ r e. cc, refl)))
fair m Read = if_keeps (Fair m Read) m.reset _ _ (λ x. (λ r e. refl, refl)) (λ x. go m.engine.unread)
  where
    go : (b : Option ℕ) → Fair m Read (read_from m b)
    go None = (λ r e. refl, refl)
    go (Some c) = (λ r e. cc, refl)
fair m (Tick sdi) =
    if_keeps (Fair m (Tick sdi)) m.reset _ _ (λ x. (λ r e. refl, refl))
    (λ x.
    if_keeps (Fair m (Tick sdi)) _ _ _ (λ y. (λ r e. refl, refl))
    (λ y. if_keeps (Fair m (Tick sdi)) _ _ _ (λ z. (λ r e. refl, refl)) (λ z. (λ r e. cc, refl))))
fair m (Pin sck sdi select) =
    if_keeps (Fair m (Pin sck sdi select)) m.reset _ _ (λ x. (λ r e. refl, refl))
    (λ x. if_keeps (Fair m (Pin sck sdi select)) _ _ _ (λ y. (λ r e. refl, refl)) (λ y. (λ r e. cc, refl)))
fair m Clear = (λ r e. cc, refl)

pub refused_unchanged_lem : (m : Ti) (c : Call) (r : Refusal) → (perform_of m c).answer ≡ Refused r → (perform_of m c).after ≡ m
refused_unchanged_lem m c = (fair m c).0

pub in_kind_lem : (m : Ti) (c : Call) → among (said_of (perform_of m c).answer).kind (0 ∷ kinds_for c) ≡ true
in_kind_lem m c = (fair m c).1
