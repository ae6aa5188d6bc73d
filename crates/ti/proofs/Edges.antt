-- Edges of the character in the shift register, by the numbers that they store.
--     latch_edge, show_edge   short of the last: the input is latched, or the output moves
--     last_edge_lem               the last one finishes
--     zeros_edge              a slave with nothing written
--     written_free, written_busy   a write, by what the shift register holds
-- Assumes nothing.
use Rattle.std.specs.Prelude.{◌+◌, ◌*◌, ◌-◌, ◌/◌, ◌%◌, ◌≤◌, ◌<◌, ◌∷◌, ◌≡◌, Option, Some, None}
use Rattle.laws.proofs.Common.{ℕ, Bool, true, false, List, [], refl, sym, ap}
use Rattle.laws.proofs.Common.{◌∙◌, arith, lt-ltb, le-ltb, eqb, ltb, length, when◌then◌else◌, if_true, if_false}
use mir.Val.{bool_byte}
use Rattle.word_order.specs.Bits.{bit_of}
use Rattle.ti_rules.specs.declared.Settings.{Settings}
use Rattle.ti_rules.specs.declared.Character.{Character}
use Rattle.ti_rules.specs.declared.Engine.{Engine}
use Rattle.ti_rules.specs.Characters.{is_free, written_to, written}
use Rattle.ti_rules.specs.Finish.{finished}
use Rattle.ti_rules.specs.Edge.{latches, received_after, sdo_after, shifted, clocked, under_way, edged}
use Rattle.ti.specs.Memory.{flag_in, length_in, place_in, ti_in, Steps}
use Rattle.ti.specs.Steps.{begun, loaded_with, next_loaded, landed}
use Rattle.laws.specs.Writes.{at, writes}
use Rattle.ti.proofs.Calls.{alike}
use Rattle.ti.proofs.Parts.{onwards, goes, shows, latch_stored, show_stored, not_free, busy_there, one_there}

-- The edge e of the character in the shift register.
module _ (w : List ℕ) (whole : length w ≡ 20) (sdi : Bool) (busy : is_free (ti_in w).engine.shift ≡ false)
    (e : ℕ) (is : e ≡ place_in w 9 + 1) where
  abbrev s : Settings
  s = (ti_in w).settings

  abbrev n : Engine
  n = (ti_in w).engine

  -- The settings, as memory has them.
  phase-is : s.phase ≡ flag_in (place_in w 4)
  unfolding ti_in
  phase-is = refl

  length_is : s.length ≡ length_in (place_in w 5)
  unfolding ti_in
  length_is = refl

  -- What the edge leaves, short of the last and at the last.
  abbrev left : ℕ → Bool → Engine
  left received sdo = goes (onwards w e received) sdo s n

  edged-is : edged s sdi n
      ≡ (when ltb e (2 * length_in (place_in w 5))
      then left (received_after s e sdi (place_in w 10)) (sdo_after s (place_in w 8) e n.pins.sdo)
      else finished s (received_after s e sdi (place_in w 10)) n)
  unfolding edged clocked shifted
  edged-is = cc (busy_there w (not_free w busy), length_is)

  short-is : {x : List ℕ} (r : ℕ) (sdo : Bool) → e < 2 * length_in (place_in w 5) → received_after s e sdi (place_in w 10) ≡ r →
      sdo_after s (place_in w 8) e n.pins.sdo ≡ sdo →
      Steps (goes (when eqb (place_in w 6) 0 then None else onwards w e r) sdo) w x → Steps (λ s n. edged s sdi n) w x
  short-is r sdo short a b h =
      alike h
      (cc (
        if_false (eqb (place_in w 6) 0) None (onwards w e r) (not_free w busy),
        edged-is,
        if_true (ltb e (2 * length_in (place_in w 5))) _ (finished s (received_after s e sdi (place_in w 10)) n) (lt-ltb e _ short),
      ))

  pub latch_edge : (r : ℕ) → e < 2 * length_in (place_in w 5) → latches (flag_in (place_in w 4)) e ≡ true →
      r ≡ (place_in w 10 * 2 + bool_byte sdi) % 65536 →
      Steps (λ s n. edged s sdi n) w (writes w (at 9 e ∷ at 10 r ∷ []))
  unfolding received_after sdo_after
  latch_edge r short latch is-r =
      let on : latches s.phase e ≡ true = cc phase-is in
      short-is r _ short (if_true _ _ _ on ∙ sym is-r) (if_true _ _ _ on) (latch_stored w whole e r)

  pub show_edge : (v : ℕ) → e < 2 * length_in (place_in w 5) → latches (flag_in (place_in w 4)) e ≡ false →
      flag_in v ≡ bit_of (place_in w 8) (place_in w 5 % 16 - e / 2) →
      Steps (λ s n. edged s sdi n) w (writes w (at 9 e ∷ at 18 v ∷ []))
  unfolding received_after sdo_after
  show_edge v short latch is-v =
      let off : latches s.phase e ≡ false = cc phase-is in
      let place : place_in w 5 % 16 - e / 2 ≡ s.length - 1 - e / 2 = omega (arith, length_is) in
      short-is _ _ short (if_false _ _ _ off) (if_false _ _ _ off ∙ sym (is-v ∙ ap (bit_of (place_in w 8)) place)) (show_stored w whole e v)

  pub last_edge_lem : (x : List ℕ) (r : ℕ) → 2 * length_in (place_in w 5) ≤ e →
      r ≡ (when latches (flag_in (place_in w 4)) e then (place_in w 10 * 2 + bool_byte sdi) % 65536 else place_in w 10) →
      Steps (λ s n. finished s r n) w x → Steps (λ s n. edged s sdi n) w x
  unfolding received_after
  last_edge_lem x r long is-r h =
      alike h (cc (phase-is, edged-is, if_false (ltb e (2 * length_in (place_in w 5))) (left _ _) _ (le-ltb e _ long)))

-- A character that is loaded, in two steps.
pub loaded_is : (s : Settings) (c : ℕ) (n : Engine) → shows c s (begun false c n) ≡ loaded_with s c n
unfolding begun loaded_with
loaded_is s c n = refl

-- The character that waits, loaded from a buffer that is then empty.
pub next_is : (w : List ℕ) → (place_in w 11 ≡ 0 → ⊥) →
    loaded_with (ti_in w).settings (place_in w 12)
    (record {
      waiting = None;
      shift = (ti_in w).engine.shift;
      unread = (ti_in w).engine.unread;
      pins = (ti_in w).engine.pins;
      overrun = (ti_in w).engine.overrun;
    })
    ≡ next_loaded (ti_in w).settings (ti_in w).engine
unfolding loaded_with next_loaded
next_is w some = cc (one_there w some)

-- The finish: the received character lands, and the one that waits is loaded.
pub finish_is : (r : ℕ) (s : Settings) (n : Engine) → next_loaded s (landed r n) ≡ finished s r n
unfolding next_loaded landed finished
finish_is r s n = refl

-- Zeros that are in the shift register are what a free one would begin.
pub zeros_edge : (s : Settings) (sdi : Bool) (n : Engine) → n.shift ≡ None → edged s sdi (begun true 0 n) ≡ edged s sdi n
unfolding edged begun clocked shifted finished
zeros_edge s sdi n e = sym (ap (λ (sh : Option Character). clocked s sdi (under_way sh) n) e)

pub written_free : (s : Settings) (c : ℕ) (n : Engine) → n.shift ≡ None → loaded_with s c n ≡ written s c n
unfolding written loaded_with
written_free s c n e = sym (ap (λ (sh : Option Character). written_to s c sh n) e)

pub written_busy : (s : Settings) (c : ℕ) (n : Engine) (x : Character) → n.shift ≡ Some x →
    record { waiting = Some c; shift = n.shift; unread = n.unread; pins = n.pins; overrun = n.overrun } ≡ written s c n
unfolding written
written_busy s c n x e = cc
