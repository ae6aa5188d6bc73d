-- Calls that are done, by the steps that they make.
--     in_reset, out_of_reset, is_master, is_slave   what the numbers settle
--     mode_in_reset, other_mode, mode_out, length-set, write_loads, write_waits, read_gives, tick_edge, pins_seen,
--     pins_edge                                     one lemma a way
--     divider_is                                    the divider, by the greater of two numbers
--     status_is, output_is                          views
-- Assumes nothing.
use Rattle.std.specs.Prelude.{max, Ok, ◌+◌, ◌-◌, ◌/◌, ◌%◌, ◌^◌, ◌≤◌, ◌&&◌, ◌||◌, ◌≡◌, Some, None}
use Rattle.laws.proofs.Common.{ℕ, Bool, true, false, not, Bool·beq}
use Rattle.laws.proofs.Common.{Bool·not-not, List, refl, sym, ap, ap₂, ◌∙◌, arith, eq-eqb, ne_eqb, eqb, length, set}
use Rattle.laws.proofs.Common.{when◌then◌else◌, if_true, if_false, if_keeps, so, not_so, eqb-false, ltb-true, ltb-false, ltb, or_left, or_right}
use Rattle.std.proofs.Math.Nat.{max-eq_left, max-eq_right}
use native.Mathlib.Nat.{le_of_lt}
use Rattle.ti_rules.specs.declared.Settings.{Settings}
use Rattle.ti_rules.specs.declared.Engine.{Engine}
use Rattle.ti_rules.specs.declared.Answer.TheVariants.{Value}
use Rattle.ti_rules.specs.declared.Output.TheVariants.{Low, High, Undriven}
use Rattle.ti_rules.specs.Settings.{rested_at, is_length, changes_mode}
use Rattle.ti_rules.specs.Characters.{character_in, is_full, is_free, written}
use Rattle.ti_rules.specs.Edge.{under_way, edged, seen, turned, leads_on, stepped}
use Rattle.ti_rules.specs.Calls.{set_mode, set_length, write_of, read_from, read_of, tick_of, pins_of, undriven, sdo_of}
use Rattle.ti.specs.Memory.{flag_in, length_in, place_in, ti_in, engine_step, Steps, mode_in, with_mode, done, ticked, Gives, weight, output_bits, status_number}
use Rattle.ti_rules.specs.Clock.{divider_of}
use Rattle.ti.specs.declared.Mode.{Mode}
use Rattle.ti.specs.Steps.{loaded_with}
use Rattle.ti.proofs.Calls.{flag_on, flag_off, changed, told, alike}
use Rattle.ti.proofs.Parts.{waiting_flag, unread_flag, busy_there, free_there, no_length, length_stored, taken_stored}
use Rattle.ti.proofs.Edges.{written_free, written_busy}

-- Equality of levels, turned about, and three such tests.
turned_about : (a b : Bool) → Bool·beq a b ≡ Bool·beq b a
turned_about true true = refl
turned_about true false = refl
turned_about false true = refl
turned_about false false = refl

three_tests : (talk a b c : Bool) → not (a && (Bool·beq talk talk && (b && c))) ≡ (not a || (not b || not c))
three_tests talk false b c = refl
three_tests true true false c = refl
three_tests false true false c = refl
three_tests true true true c = refl
three_tests false true true c = refl

differs : (p : Mode) (master polarity phase : Bool) →
    not (Bool·beq p.master master && (Bool·beq p.talk p.talk && (Bool·beq p.polarity polarity && Bool·beq p.phase phase)))
    ≡ (not (Bool·beq master p.master) || (not (Bool·beq polarity p.polarity) || not (Bool·beq phase p.phase)))
differs p master polarity phase =
    rw (turned_about master p.master, turned_about polarity p.polarity, turned_about phase p.phase) (three_tests p.talk _ _ _)

-- The divider of a clock.
pub divider_is : (spibrr m : ℕ) → m ≡ max (spibrr % 128) 3 → m + 1 ≡ divider_of spibrr
unfolding divider_of
divider_is spibrr m e =
    if_keeps (λ (d : ℕ). m + 1 ≡ d) (ltb (spibrr % 128) 3) _ _
    (λ few. let k : m ≡ 3 = e ∙ max-eq_right (le_of_lt (ltb-true _ _ few)) in ap (λ (x : ℕ). x + 1) k)
    (λ more. let k : m ≡ spibrr % 128 = e ∙ max-eq_left (ltb-false _ _ more) in ap (λ (x : ℕ). x + 1) k)

module _ (w : List ℕ) where
  pub in_reset : place_in w 0 ≡ 0 → (ti_in w).reset ≡ true
  unfolding ti_in
  in_reset e = eq-eqb _ _ e

  pub out_of_reset : (place_in w 0 ≡ 0 → ⊥) → (ti_in w).reset ≡ false
  unfolding ti_in
  out_of_reset e = ne_eqb _ _ e

  pub is_master : (place_in w 1 ≡ 0 → ⊥) → (ti_in w).settings.master ≡ true
  unfolding ti_in
  is_master e = flag_on _ e

  pub is_slave : place_in w 1 ≡ 0 → (ti_in w).settings.master ≡ false
  unfolding ti_in
  is_slave e = flag_off _ e

  pub mode_in_reset : (x : List ℕ) (master talk polarity phase : Bool) → (ti_in w).reset ≡ true →
      ti_in x ≡ engine_step (λ s _. rested_at s.polarity) (with_mode master talk polarity phase (ti_in w)) →
      Gives done (set_mode (ti_in w) master talk polarity phase) (Ok tt) w x
  unfolding set_mode
  mode_in_reset x master talk polarity phase r h = told (changed refl (cc) refl) (so (ti_in w).reset _ _ r refl)

  -- Another mode, by the test of the code: the present one with its own talk is not equal to the other with that talk.
  pub other_mode : (master polarity phase b : Bool) {p : Mode} {r : Bool} → p ≡ mode_in (ti_in w).settings →
      r ≡ not (Bool·beq p.master master && (Bool·beq p.talk p.talk && (Bool·beq p.polarity polarity && Bool·beq p.phase phase))) → r ≡ b →
      changes_mode master polarity phase (ti_in w).settings ≡ b
  unfolding changes_mode
  other_mode master polarity phase b {p = p} e f g =
      sym (f ∙ differs p master polarity phase
      ∙ ap (λ (q : Mode). not (Bool·beq master q.master) || (not (Bool·beq polarity q.polarity) || not (Bool·beq phase q.phase))) e)
      ∙ g

  pub mode_out : (x : List ℕ) (master talk polarity phase : Bool) → (ti_in w).reset ≡ false →
      changes_mode master polarity phase (ti_in w).settings ≡ false → ti_in x ≡ with_mode master talk polarity phase (ti_in w) →
      Gives done (set_mode (ti_in w) master talk polarity phase) (Ok tt) w x
  unfolding set_mode
  mode_out x master talk polarity phase r f h =
      told (changed refl (cc) refl)
      (not_so (ti_in w).reset _ _ r (not_so (changes_mode master polarity phase (ti_in w).settings) _ _ f refl))

  pub length-set : (n v : ℕ) → length w ≡ 20 → (ti_in w).reset ≡ true → (eqb n 0 || ltb 16 n) ≡ false → v ≡ n - 1 →
      Gives done (set_length (ti_in w) n) (Ok tt) w (set w 5 v)
  unfolding set_length
  length-set n v whole r fits e =
      let some : n ≡ 0 → ⊥ = eqb-false n 0 (or_left (eqb n 0) (ltb 16 n) fits) in
      let most : n ≤ 16 = ltb-false 16 n (or_right (eqb n 0) (ltb 16 n) fits) in
      let same : length_in v ≡ n = omega arith in
      told (changed refl (length_stored w whole v (cc)).holds refl)
      (not_so (not (ti_in w).reset) _ _ (ap not r) (not_so (not (is_length n)) _ _ (no_length n fits) refl))

  -- A character as the rule cuts it.
  pub cut : (c v : ℕ) → c ≡ v % 2 ^ 16 / 2 ^ (16 - length_in (place_in w 5)) → c ≡ character_in (ti_in w).settings v
  unfolding ti_in character_in
  cut c v e = e

  -- A write, by what the shift register holds.
  module _ (x : List ℕ) (v c : ℕ) (r : (ti_in w).reset ≡ false) (room : is_full (ti_in w).engine.waiting ≡ false)
      (e : c ≡ character_in (ti_in w).settings v) where
    write_done : {f : Settings → Engine → Engine} → Steps f w x →
        f (ti_in w).settings (ti_in w).engine ≡ written (ti_in w).settings c (ti_in w).engine → Gives done (write_of (ti_in w) v) (Ok tt) w x
    unfolding write_of
    write_done h k =
        told (changed refl (alike {g = λ s n. written s (character_in s v) n} h (cc)).steps refl)
        (not_so (ti_in w).reset _ _ r (not_so (is_full (ti_in w).engine.waiting) _ _ room refl))

    pub write_loads : place_in w 6 ≡ 0 → Steps (λ s n. loaded_with s c n) w x → Gives done (write_of (ti_in w) v) (Ok tt) w x
    write_loads free h = write_done h (written_free _ c _ (free_there w free))

    pub write_waits : (place_in w 6 ≡ 0 → ⊥) →
        Steps (λ s n. record { waiting = Some c; shift = n.shift; unread = n.unread; pins = n.pins; overrun = n.overrun }) w x →
        Gives done (write_of (ti_in w) v) (Ok tt) w x
    write_waits busy h = write_done h (written_busy _ c _ _ (busy_there w (ne_eqb _ _ busy)))

  -- What is unread.
  pub unread_there : (place_in w 13 ≡ 0 → ⊥) → (ti_in w).engine.unread ≡ Some (place_in w 14)
  unfolding ti_in
  unread_there e = if_false (eqb (place_in w 13) 0) _ _ (ne_eqb _ _ e)

  pub unread_none : place_in w 13 ≡ 0 → (ti_in w).engine.unread ≡ None
  unfolding ti_in
  unread_none e = if_true (eqb (place_in w 13) 0) _ _ (eq-eqb _ _ e)

  pub read_gives : (c : ℕ) → length w ≡ 20 → (ti_in w).reset ≡ false → (place_in w 13 ≡ 0 → ⊥) → c ≡ place_in w 14 →
      Gives Value (read_of (ti_in w)) (Ok c) w (set w 13 0)
  unfolding read_of
  read_gives c whole r some e =
      told {p = read_from (ti_in w) (Some (place_in w 14))}
      (changed (ap Value e) (taken_stored w whole).steps refl)
      (ap (read_from (ti_in w)) (sym (unread_there some)) ∙ not_so (ti_in w).reset _ _ r refl)

  pub tick_edge : (x : List ℕ) (sdi : Bool) → (ti_in w).reset ≡ false → (ti_in w).settings.master ≡ true → is_free (ti_in w).engine.shift ≡ false →
      Steps (λ s n. edged s sdi (seen (not n.pins.sck) n.pins.select n)) w x → Gives ticked (tick_of (ti_in w) sdi) (Ok true) w x
  unfolding tick_of turned
  tick_edge x sdi r own busy h =
      told (changed refl h.steps refl)
      (not_so (ti_in w).reset _ _ r
      (not_so (not (ti_in w).settings.master) _ _ (ap not own) (not_so (is_free (ti_in w).engine.shift) _ _ busy refl)))

  -- The pins of a slave: what only is seen, by any of three tests, and an edge.
  module _ (x : List ℕ) (sck sdi select : Bool) (r : (ti_in w).reset ≡ false) (slave : (ti_in w).settings.master ≡ false) where
    abbrev onward : Bool
    onward = leads_on (ti_in w).settings sck (under_way (ti_in w).engine.shift).edges

    pins-done : (f : Settings → Engine → Engine) → Steps f w x →
        f (ti_in w).settings (ti_in w).engine ≡ stepped (ti_in w).settings sck sdi select (ti_in w).engine →
        Gives done (pins_of (ti_in w) sck sdi select) (Ok tt) w x
    unfolding pins_of
    pins-done f h e =
        told (changed refl (alike {g = λ s n. stepped s sck sdi select n} h e).steps refl)
        (not_so (ti_in w).reset _ _ r (not_so (ti_in w).settings.master _ _ slave refl))

    -- The test of the code: the clock moved, select is low, and the edge leads on.
    counts_is : (still high on : Bool) → (still || (high || not on)) ≡ not (not still && (not high && on))
    counts_is true high on = refl
    counts_is false true on = refl
    counts_is false false on = refl

    module _ {on : Bool} (is : on ≡ onward) where
      pub pins_seen : (not (Bool·beq sck (flag_in (place_in w 16))) && (not select && on)) ≡ false → Steps (λ s n. seen sck select n) w x →
          Gives done (pins_of (ti_in w) sck sdi select) (Ok tt) w x
      unfolding stepped ti_in
      pins_seen e h = pins-done _ h (so _ _ _ (counts_is (Bool·beq sck (ti_in w).engine.pins.sck) select onward ∙ ap not (rw is at e)) refl)

      pub pins_edge : (not (Bool·beq sck (flag_in (place_in w 16))) && (not select && on)) ≡ true →
          Steps (λ s n. edged s sdi (seen sck select n)) w x → Gives done (pins_of (ti_in w) sck sdi select) (Ok tt) w x
      unfolding stepped ti_in
      pins_edge e h = pins-done _ h (not_so _ _ _ (counts_is (Bool·beq sck (ti_in w).engine.pins.sck) select onward ∙ ap not (rw is at e)) refl)

  -- Views.
  pub status_is : weight 128 (flag_in (place_in w 15)) + weight 64 (flag_in (place_in w 13)) + weight 32 (flag_in (place_in w 11))
      ≡ status_number (ti_in w)
  unfolding status_number ti_in
  status_is =
      ap₂ (λ (a b : Bool). weight 128 (ti_in w).engine.overrun + weight 64 a + weight 32 b) (sym (unread_flag w)) (sym (waiting_flag w))

  pub output_is : output_bits
      (when eqb (place_in w 0) 0 || (eqb (place_in w 2) 0 || (eqb (place_in w 1) 0 && flag_in (place_in w 17)))
      then Undriven
      else when flag_in (place_in w 18) then High
      else Low)
      ≡ output_bits (sdo_of (ti_in w))
  unfolding sdo_of undriven ti_in
  output_is = cc (Bool·not-not (eqb (place_in w 2) 0), Bool·not-not (eqb (place_in w 1) 0))
