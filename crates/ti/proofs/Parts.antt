-- What the numbers of memory tell of a module, and what single stores change of it.
--     is_free_lem, is_busy, is_waiting, has_room_lem   whether the shift register is free, and whether a character waits
--     busy_there, free_there            what is in the shift register
--     no_length                         what is no length, and what is one
--     reset_stored, mode_stored, length_stored, begun_stored, ...   what is written is read back
-- Assumes nothing.
use Rattle.std.specs.Prelude.{◌+◌, ◌-◌, ◌%◌, ◌&&◌, ◌||◌, ◌∷◌, ◌≡◌, Option, Some, None}
use Rattle.laws.proofs.Common.{ℕ, Bool, true, false, not, Bool·not-not, List, []}
use Rattle.laws.proofs.Common.{refl, sym, ap, ◌∙◌, arith, eq-eqb, ne_eqb, eqb, ltb, length, set}
use Rattle.laws.proofs.Common.{when◌then◌else◌, if_true, if_false}
use Rattle.word_order.specs.Bits.{bit_of}
use Rattle.ti_rules.specs.declared.Settings.{Settings}
use Rattle.ti_rules.specs.declared.Character.{Character}
use Rattle.ti_rules.specs.declared.Engine.{Engine}
use Rattle.ti_rules.specs.declared.Ti.{Ti}
use Rattle.ti_rules.specs.Settings.{rested_at, is_length, with_length}
use Rattle.ti_rules.specs.Characters.{is_full, is_free, between_sdo, with_sdo, taken, cleared}
use Rattle.ti_rules.specs.Edge.{seen}
use Rattle.ti_rules.specs.Calls.{clear_of}
use Rattle.ti.specs.Memory.{flag_in, length_in, character_at, place_in, ti_in, Becomes, engine_step, Steps, with_reset, with_mode}
use Rattle.ti.specs.Steps.{begun, landed, next_loaded}
use Rattle.laws.specs.Writes.{at, writes}
use Rattle.ti.proofs.Stored.{stored, stepped}
use Rattle.ti.proofs.Calls.{flag_on, flag_off, ◌then◌, alike}

-- ---- what numbers tell

free_choice : (b : Bool) (c : Character) → is_free (when b then None else Some c) ≡ b
unfolding when◌then◌else◌
free_choice true c = refl
free_choice false c = refl

free_flag : (w : List ℕ) → is_free (ti_in w).engine.shift ≡ eqb (place_in w 6) 0
unfolding ti_in
free_flag w = free_choice (eqb (place_in w 6) 0) _

full_choice : (b : Bool) (c : ℕ) → is_full (when b then None else Some c) ≡ not b
unfolding when◌then◌else◌
full_choice true c = refl
full_choice false c = refl

sck_read : (w : List ℕ) → (ti_in w).engine.pins.sck ≡ flag_in (place_in w 16)
unfolding ti_in
sck_read w = refl

pub not_free : (w : List ℕ) → is_free (ti_in w).engine.shift ≡ false → eqb (place_in w 6) 0 ≡ false
not_free w e = sym (free_flag w) ∙ e

pub is_free_lem : (w : List ℕ) → place_in w 6 ≡ 0 → is_free (ti_in w).engine.shift ≡ true
is_free_lem w e = free_flag w ∙ eq-eqb _ _ e

pub is_busy : (w : List ℕ) → (place_in w 6 ≡ 0 → ⊥) → is_free (ti_in w).engine.shift ≡ false
is_busy w h = free_flag w ∙ ne_eqb _ _ h

pub waiting_flag : (w : List ℕ) → is_full (ti_in w).engine.waiting ≡ flag_in (place_in w 11)
unfolding ti_in
waiting_flag w = full_choice (eqb (place_in w 11) 0) _

pub is_waiting : (w : List ℕ) → (place_in w 11 ≡ 0 → ⊥) → is_full (ti_in w).engine.waiting ≡ true
is_waiting w h = waiting_flag w ∙ flag_on _ h

pub has_room_lem : (w : List ℕ) → place_in w 11 ≡ 0 → is_full (ti_in w).engine.waiting ≡ false
has_room_lem w e = waiting_flag w ∙ flag_off _ e

pub unread_flag : (w : List ℕ) → is_full (ti_in w).engine.unread ≡ flag_in (place_in w 13)
unfolding ti_in
unread_flag w = full_choice (eqb (place_in w 13) 0) _

pub busy_there : (w : List ℕ) → eqb (place_in w 6) 0 ≡ false → (ti_in w).engine.shift ≡ Some (character_at (place_in w))
unfolding ti_in
busy_there w e = if_false (eqb (place_in w 6) 0) _ _ e

pub free_there : (w : List ℕ) → place_in w 6 ≡ 0 → (ti_in w).engine.shift ≡ None
unfolding ti_in
free_there w e = if_true (eqb (place_in w 6) 0) _ _ (eq-eqb _ _ e)

pub none_there : (w : List ℕ) → place_in w 11 ≡ 0 → (ti_in w).engine.waiting ≡ None
unfolding ti_in
none_there w e = if_true (eqb (place_in w 11) 0) _ _ (eq-eqb _ _ e)

pub one_there : (w : List ℕ) → (place_in w 11 ≡ 0 → ⊥) → (ti_in w).engine.waiting ≡ Some (place_in w 12)
unfolding ti_in
one_there w e = if_false (eqb (place_in w 11) 0) _ _ (ne_eqb _ _ e)

-- The test of the code: 0, or above 16.
pub no_length : (n : ℕ) {b : Bool} → (eqb n 0 || ltb 16 n) ≡ b → not (is_length n) ≡ b
unfolding is_length
no_length n e = both (eqb n 0) (ltb 16 n) ∙ e
  where
    both : (a b : Bool) → not (not a && not b) ≡ (a || b)
    both true b = refl
    both false b = Bool·not-not b

-- A clock that turns.
pub turned_level : (w : List ℕ) (v : ℕ) → flag_in v ≡ eqb (place_in w 16) 0 →
    seen (flag_in v) (ti_in w).engine.pins.select (ti_in w).engine
    ≡ seen (not (ti_in w).engine.pins.sck) (ti_in w).engine.pins.select (ti_in w).engine
turned_level w v e =
    ap (λ (b : Bool). seen b (ti_in w).engine.pins.select (ti_in w).engine) (e ∙ sym (Bool·not-not _) ∙ sym (ap not (sck_read w)))

-- ---- single stores

-- Another character in the shift register, or none, and a level of the output.
abbrev pub goes : Option Character → Bool → Settings → Engine → Engine
goes sh sdo s n = record { waiting = n.waiting; shift = sh; unread = n.unread; pins = with_sdo sdo n.pins; overrun = n.overrun }

-- The level of the output between characters, once one is loaded.
abbrev pub shows : ℕ → Settings → Engine → Engine
shows c s n =
    record {
      waiting = n.waiting;
      shift = n.shift;
      unread = n.unread;
      pins = with_sdo (between_sdo s (Some c) n.pins.sdo) n.pins;
      overrun = n.overrun;
    }

-- The character in the shift register after so many edges.
abbrev pub onwards : List ℕ → ℕ → ℕ → Option Character
onwards w edges received = Some (record { zeros = flag_in (place_in w 7); bits = place_in w 8; edges = edges; received = received })

module _ (w : List ℕ) (whole : length w ≡ 20) where
  pub reset_stored : (v : ℕ) {m : Ti} → with_reset (eqb v 0) (ti_in w) ≡ m → Becomes m (set w 0 v)
  unfolding ti_in when◌then◌else◌
  reset_stored v e = stored w (at 0 v ∷ []) whole refl e

  pub mode_stored : (a b c d : ℕ) {master talk polarity phase : Bool} → flag_in a ≡ master → flag_in b ≡ talk → flag_in c ≡ polarity →
      flag_in d ≡ phase →
      Becomes (with_mode master talk polarity phase (ti_in w)) (writes w (at 1 a ∷ at 2 b ∷ at 3 c ∷ at 4 d ∷ []))
  unfolding ti_in when◌then◌else◌
  mode_stored a b c d e f g h =
      stored w (at 1 a ∷ at 2 b ∷ at 3 c ∷ at 4 d ∷ []) whole refl (λ i. with_mode (e i) (f i) (g i) (h i) (ti_in w))

  pub clear_stored : Becomes (clear_of (ti_in w)).after (set w 15 0)
  unfolding ti_in when◌then◌else◌ clear_of cleared
  clear_stored = stored w (at 15 0 ∷ []) whole refl refl

  pub length_stored : (v : ℕ) {m : Ti} →
      record { reset = (ti_in w).reset; settings = with_length (length_in v) (ti_in w).settings; engine = (ti_in w).engine } ≡ m →
      Becomes m (set w 5 v)
  unfolding ti_in when◌then◌else◌
  length_stored v e = stored w (at 5 v ∷ []) whole refl e

  -- The module rests.
  pub rest_stored : (v : ℕ) → v ≡ place_in w 3 →
      Steps (λ s _. rested_at s.polarity) w
      (writes w (at 6 0 ∷ at 11 0 ∷ at 13 0 ∷ at 15 0 ∷ at 16 v ∷ at 17 1 ∷ at 18 0 ∷ []))
  unfolding ti_in when◌then◌else◌ rested_at
  rest_stored v e =
      stepped w (at 6 0 ∷ at 11 0 ∷ at 13 0 ∷ at 15 0 ∷ at 16 v ∷ at 17 1 ∷ at 18 0 ∷ []) whole refl
      (ap (λ (x : ℕ). engine_step (λ _ _. rested_at (flag_in x)) (ti_in w)) e)

  pub taken_stored : Steps (λ s n. taken n) w (set w 13 0)
  unfolding ti_in when◌then◌else◌ taken
  taken_stored = stepped w (at 13 0 ∷ []) whole refl refl

  pub seen_stored : (a b : ℕ) → Steps (λ s n. seen (flag_in a) (flag_in b) n) w (writes w (at 16 a ∷ at 17 b ∷ []))
  unfolding ti_in when◌then◌else◌ seen
  seen_stored a b = stepped w (at 16 a ∷ at 17 b ∷ []) whole refl refl

  pub clock_stored : (a : ℕ) → Steps (λ s n. seen (flag_in a) n.pins.select n) w (set w 16 a)
  unfolding ti_in when◌then◌else◌ seen
  clock_stored a = stepped w (at 16 a ∷ []) whole refl refl

  pub begun_stored : (zeros : Bool) (c v : ℕ) → flag_in v ≡ zeros →
      Steps (λ s n. begun zeros c n) w (writes w (at 6 1 ∷ at 7 v ∷ at 8 c ∷ at 9 0 ∷ at 10 0 ∷ []))
  unfolding ti_in when◌then◌else◌ begun
  begun_stored zeros c v e =
      stepped w (at 6 1 ∷ at 7 v ∷ at 8 c ∷ at 9 0 ∷ at 10 0 ∷ []) whole refl (λ i. engine_step (λ s n. begun (e i) c n) (ti_in w))

  sdo_read : (v : ℕ) →
      Steps (λ s n. record { waiting = n.waiting; shift = n.shift; unread = n.unread; pins = with_sdo (flag_in v) n.pins; overrun = n.overrun })
      w
      (set w 18 v)
  unfolding ti_in when◌then◌else◌
  sdo_read v = stepped w (at 18 v ∷ []) whole refl refl

  between-top : (c : ℕ) → (when flag_in (place_in w 4) then bit_of c (place_in w 5 % 16) else flag_in (place_in w 18))
      ≡ between_sdo (ti_in w).settings (Some c) (ti_in w).engine.pins.sdo
  unfolding ti_in between_sdo
  between-top c =
      let top : place_in w 5 % 16 ≡ place_in w 5 % 16 + 1 - 1 = omega arith in
      ap (λ (k : ℕ). when flag_in (place_in w 4) then bit_of c k else flag_in (place_in w 18)) top

  -- The output once a character is loaded.
  pub top_stored : (c v : ℕ) → flag_in v ≡ (when flag_in (place_in w 4) then bit_of c (place_in w 5 % 16) else flag_in (place_in w 18)) →
      Steps (shows c) w (set w 18 v)
  top_stored c v e = alike (sdo_read v) (cc (between-top c))

  -- A received character.
  land-read : (c v : ℕ) →
      Steps
      (λ s n. record { waiting = n.waiting; shift = n.shift; unread = Some c; pins = n.pins; overrun = flag_in v })
      w
      (writes w (at 15 v ∷ at 13 1 ∷ at 14 c ∷ []))
  unfolding ti_in when◌then◌else◌
  land-read c v = stepped w (at 15 v ∷ at 13 1 ∷ at 14 c ∷ []) whole refl refl

  overrun-read : (ti_in w).engine.overrun ≡ flag_in (place_in w 15)
  unfolding ti_in
  overrun-read = refl

  pub land_stored : (c v : ℕ) → flag_in v ≡ (flag_in (place_in w 15) || flag_in (place_in w 13)) →
      Steps (λ s n. landed c n) w (writes w (at 15 v ∷ at 13 1 ∷ at 14 c ∷ []))
  unfolding landed
  land_stored c v e = alike (land-read c v) (cc (overrun-read, unread_flag w))

  -- Nothing waits: the shift register is free.
  free-read : (v : ℕ) →
      Steps (goes None (flag_in v)) w (writes w (at 6 0 ∷ at 18 v ∷ []))
  unfolding ti_in when◌then◌else◌
  free-read v = stepped w (at 6 0 ∷ at 18 v ∷ []) whole refl refl

  between_none : (when flag_in (place_in w 4) then false else flag_in (place_in w 18))
      ≡ between_sdo (ti_in w).settings None (ti_in w).engine.pins.sdo
  unfolding ti_in between_sdo
  between_none = refl

  pub free_stored : (v : ℕ) → place_in w 11 ≡ 0 → flag_in v ≡ (when flag_in (place_in w 4) then false else flag_in (place_in w 18)) →
      Steps next_loaded w (writes w (at 6 0 ∷ at 18 v ∷ []))
  unfolding next_loaded
  free_stored v none e = alike (free-read v) (cc (none_there w none, between_none))

  -- What waits leaves the transmit buffer.
  pub gone_stored : Steps (λ s n. record { waiting = None; shift = n.shift; unread = n.unread; pins = n.pins; overrun = n.overrun }) w (set w 11 0)
  unfolding ti_in when◌then◌else◌
  gone_stored = stepped w (at 11 0 ∷ []) whole refl refl

  -- A character that must wait.
  pub wait_stored : (c : ℕ) →
      Steps (λ s n. record { waiting = Some c; shift = n.shift; unread = n.unread; pins = n.pins; overrun = n.overrun }) w
      (writes w (at 11 1 ∷ at 12 c ∷ []))
  unfolding ti_in when◌then◌else◌
  wait_stored c = stepped w (at 11 1 ∷ at 12 c ∷ []) whole refl refl

  -- An edge short of the last.
  pub latch_stored : (e r : ℕ) →
      Steps (goes (when eqb (place_in w 6) 0 then None else onwards w e r) (ti_in w).engine.pins.sdo) w (writes w (at 9 e ∷ at 10 r ∷ []))
  unfolding ti_in when◌then◌else◌
  latch_stored e r = stepped w (at 9 e ∷ at 10 r ∷ []) whole refl refl

  pub show_stored : (e v : ℕ) →
      Steps (goes (when eqb (place_in w 6) 0 then None else onwards w e (place_in w 10)) (flag_in v)) w (writes w (at 9 e ∷ at 18 v ∷ []))
  unfolding ti_in when◌then◌else◌
  show_stored e v = stepped w (at 9 e ∷ at 18 v ∷ []) whole refl refl
