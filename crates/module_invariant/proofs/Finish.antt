-- The finish of a word keeps the invariant: the received word, the sent word, the next word, and SDO between words.
--     noted_keeps, delivered_keeps, sent_dropped_keeps, freed_keeps   the steps before the next word loads
--     loaded_holds     once the first waiting word has loaded, if it can, the shift register holds
--     rested_holds     once SDO shows the next word, the engine holds
--     finished_holds   after the finish the engine holds
-- Assumes nothing.
use Rattle.std.specs.Prelude.{◌^◌, ◌<◌, ◌&&◌, ◌≡◌}
use Rattle.laws.proofs.Common.{ℕ, Bool, true, false, not, refl, sym, ap, ◌∙◌, eqb-true, not-true}
use Rattle.laws.proofs.Common.{not-false, if_keeps, if_true, if_false, clash, and_left, and_right, and_both, and_rest}
use mathlib.Core.Bool.{and-false}
use Rattle.module_rules.proofs.Types.{Settings, Engine, Shift, Free, Loaded, Begun, Event}
use Rattle.module_rules.specs.Settings.{width_of, cke_of, ssen_client}
use Rattle.module_rules.specs.Registers.{is_free}
use Rattle.module_rules.specs.Buffers.{empty, overrun}
use Rattle.module_rules.specs.Interrupts.{noted}
use Rattle.module_rules.specs.Loading.{word_leaves, moved, can_load, loaded, is_begun, rested, sdo_at}
use Rattle.module_rules.specs.Finish.{overflowed, word_appended, is_lost, delivered, sent_dropped, freed, finished}
use Rattle.module_rules.specs.Invariant.{ShiftHolds}
use Rattle.module_invariant.proofs.Parts.{TransmitHolds, ReceiveHolds, BuffersHold, Idle, FinishHolds, LoadHolds, EngineHolds}
use Rattle.module_invariant.proofs.BuffersKept.{appended_keeps, left_keeps, first_waiting_fits}
use Rattle.module_invariant.proofs.Shift.{shift_is, shift_same}

module _ (s : Settings) where
  -- An event moves nothing but the interrupt flag.
  pub noted_keeps : (e : Event) (n : Engine) → FinishHolds s n → FinishHolds s (noted s e n)
  unfolding noted
  noted_keeps e n h =
      record { buffers = record { transmit = h.buffers.transmit; receive = h.buffers.receive }; idle = h.idle }

  -- The received word is appended if it fits the width, or lost.
  pub delivered_keeps : (word : ℕ) (n : Engine) → word < 2 ^ width_of s → FinishHolds s n →
      FinishHolds s (delivered s word n)
  unfolding delivered overflowed overrun word_appended
  delivered_keeps word n k h =
      let t : TransmitHolds s n.transmit = h.buffers.transmit in
      let r : ReceiveHolds s n.receive = h.buffers.receive in
      if_keeps (FinishHolds s) (is_lost s n) _ _
      (λ e. record { buffers = record { transmit = t; receive = r }; idle = h.idle })
      (λ e.
      noted_keeps _ _
      (record { buffers = record { transmit = t; receive = appended_keeps s n.receive r word k }; idle = h.idle }))

  -- The sent word of an SSEN client leaves the transmit buffer.
  pub sent_dropped_keeps : (filler : Bool) (n : Engine) → FinishHolds s n → FinishHolds s (sent_dropped s filler n)
  unfolding sent_dropped word_leaves
  sent_dropped_keeps filler n h =
      let t : TransmitHolds s n.transmit = h.buffers.transmit in
      let r : ReceiveHolds s n.receive = h.buffers.receive in
      if_keeps (FinishHolds s) (ssen_client s && not filler) _ _
      (λ e.
      noted_keeps _ _
      (record { buffers = record { transmit = left_keeps s n.transmit t; receive = r }; idle = h.idle }))
      (λ e. h)

  -- The shift register is freed.
  pub freed_keeps : (n : Engine) → FinishHolds s n → FinishHolds s (freed s n)
  unfolding freed
  freed_keeps n h =
      noted_keeps _ _
      (record { buffers = record { transmit = h.buffers.transmit; receive = h.buffers.receive }; idle = h.idle })

  -- A freed shift register is free.
  pub freed_free : (n : Engine) → (freed s n).shift ≡ Free
  unfolding freed noted
  freed_free n = refl

  -- The first waiting word moves to the shift register of a module that is no SSEN client.
  moved_holds : (n : Engine) → BuffersHold s n → ssen_client s ≡ false → Idle s n → LoadHolds s (moved s n)
  unfolding moved word_leaves noted
  moved_holds n h c idle =
      record {
        buffers = record { transmit = left_keeps s n.transmit h.transmit; receive = h.receive };
        shift = (c, first_waiting_fits s n.transmit h.transmit, idle);
      }

  -- A free shift register into which nothing can load holds.
  stays-free : (n : Engine) → n.shift ≡ Free → can_load s n ≡ false → Idle s n → ShiftHolds s n n.shift
  unfolding can_load
  stays-free n e c idle =
      let waits : Bool = not (empty n.transmit.count) in
      let kept_back : (not (ssen_client s) && waits) ≡ false = and_rest (is_free n.shift) _ c (ap is_free e) in
      shift_is s n Free e (
        λ out.
            eqb-true n.transmit.count 0
            (not-false (empty n.transmit.count) (and_rest (not (ssen_client s)) waits kept_back (ap not out))),
        λ on. idle,
      )

  -- Once the first waiting word has loaded, if it can, the shift register holds.
  pub loaded_holds : (n : Engine) → BuffersHold s n → (is_free n.shift ≡ true → Idle s n) →
      (is_free n.shift ≡ false → ShiftHolds s n n.shift) → LoadHolds s (loaded s n)
  unfolding loaded can_load
  loaded_holds n h idle busy =
      if_keeps (LoadHolds s) (can_load s n) (moved s n) n
      (λ e.
      let no-client : not (ssen_client s) ≡ true = and_left (not (ssen_client s)) _ (and_right (is_free n.shift) _ e) in
      moved_holds n h (not-true (ssen_client s) no-client) (idle (and_left (is_free n.shift) _ e)))
      (λ e. record { buffers = h; shift = go e n.shift refl })
    where
      go : can_load s n ≡ false → (sh : Shift) → n.shift ≡ sh → ShiftHolds s n n.shift
      go c Free e = stays-free n e c (idle (ap is_free e))
      go c (Loaded word) e = busy (ap is_free e)
      go c (Begun p) e = busy (ap is_free e)

  -- Once SDO shows the word to be sent next, the engine holds.
  pub rested_holds : (n : Engine) → LoadHolds s n → EngineHolds s (rested s n)
  unfolding rested sdo_at
  rested_holds n h =
      let follows : Bool = cke_of s && not (is_begun n.shift) in
      record {
        buffers = record { transmit = h.buffers.transmit; receive = h.buffers.receive };
        shift =
            shift_same s n _ _ _ _ _ _ _ _ _ (λ on. on) n.shift (λ busy. if_false follows _ _ (stands busy)) h.shift;
        rest = λ on cke between. if_true follows _ _ (and_both (cke_of s) _ cke (ap not between));
      }
    where
      stands : is_begun n.shift ≡ true → (cke_of s && not (is_begun n.shift)) ≡ false
      stands busy = rw busy (and-false (cke_of s))

  -- After a finish the engine holds.
  pub finished_holds : (filler : Bool) (word : ℕ) (n : Engine) → word < 2 ^ width_of s → FinishHolds s n →
      EngineHolds s (finished s filler word n)
  unfolding finished
  finished_holds filler word n k h =
      let ended : Engine = freed s (sent_dropped s filler (delivered s word n)) in
      let f : FinishHolds s ended = freed_keeps _ (sent_dropped_keeps filler _ (delivered_keeps word n k h)) in
      let free : ended.shift ≡ Free = freed_free (sent_dropped s filler (delivered s word n)) in
      rested_holds (loaded s ended)
      (loaded_holds ended f.buffers (λ e. f.idle) (λ e. clash true refl (sym (ap is_free free) ∙ e)))
