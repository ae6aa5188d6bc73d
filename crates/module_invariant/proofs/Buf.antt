-- A word taken by a BUF read, and a word accepted by a BUF write, keep the invariant.
--     word_taken_holds     the engine after a BUF read
--     word_written_holds   the engine after a BUF write
-- Assumes nothing.
use Rattle.std.specs.Prelude.{◌^◌, ◌<◌, ◌≤◌, ◌≡◌}
use Rattle.laws.proofs.Common.{ℕ, true, false, refl, sym, ◌∙◌, arith, if_keeps, clash}
use Rattle.module_rules.proofs.Types.{Settings, Engine, Transmit, Shift, Free, Loaded, Begun, Receive}
use Rattle.module_rules.specs.Settings.{width_of, depth_of}
use Rattle.module_rules.specs.Registers.{is_free}
use Rattle.module_rules.specs.Buffers.{full, written, taken, empty}
use Rattle.module_rules.specs.Interrupts.{noted}
use Rattle.module_rules.specs.Loading.{loaded}
use Rattle.module_rules.specs.Calls.{word_taken, word_written}
use Rattle.module_rules.specs.Invariant.{ShiftHolds}
use Rattle.module_invariant.proofs.Parts.{queued, TransmitHolds, Idle, LoadHolds, EngineHolds}
use Rattle.module_invariant.proofs.BuffersKept.{written_keeps, taken_keeps, first_waiting_stays}
use Rattle.module_invariant.proofs.Shift.{shift_same, progress_with}
use Rattle.module_invariant.proofs.Finish.{loaded_holds, rested_holds}

-- The engine after a BUF read.
pub word_taken_holds : (s : Settings) (n : Engine) → EngineHolds s n → EngineHolds s (word_taken s n)
unfolding word_taken noted
word_taken_holds s n h =
    record {
      buffers = record { transmit = h.buffers.transmit; receive = taken_keeps s n.receive h.buffers.receive };
      shift = shift_same s n _ _ _ _ _ _ _ _ _ (λ on. on) n.shift (λ busy. refl) h.shift;
      rest = h.rest;
    }

module _ (s : Settings) (on : s.spien ≡ true) (n : Engine) (h : EngineHolds s n) (word : ℕ)
    (fits : word < 2 ^ width_of s) where
  -- The clock is idle while the shift register is free.
  free_idle : (sh : Shift) → ShiftHolds s n sh → is_free sh ≡ true → Idle s n
  free_idle Free k f = k.1 on
  free_idle (Loaded w) k f = clash false f refl
  free_idle (Begun p) k f = clash false f refl

  -- A buffer that is not empty is not empty after a write.
  some-wait : 1 ≤ n.transmit.count → 1 ≤ (written (depth_of s) word n.transmit).count
  unfolding written
  some-wait k =
      if_keeps (λ (t : Transmit). 1 ≤ t.count) (full (depth_of s) n.transmit.count) _ _ (λ e. k) (λ e. omega arith)

  -- A loaded or begun word stays as it is when another is written.
  queued-shift : (sh : Shift) → ShiftHolds s n sh → is_free sh ≡ false → ShiftHolds s (queued s word n) sh
  queued-shift Free k f = clash true refl f
  queued-shift (Loaded w) k f = k
  queued-shift (Begun p) k f =
      progress_with s n _ _ _ _ p refl refl k.selected
      (λ c e. (
        some-wait (k.first c e).0,
        (k.first c e).1 ∙ sym (first_waiting_stays s n.transmit h.buffers.transmit word (k.first c e).0),
      ))
      k

  -- The engine after a BUF write.
  pub word_written_holds : EngineHolds s (word_written s word n)
  unfolding word_written noted
  word_written_holds =
      let q : Engine = queued s word n in
      let t : TransmitHolds s q.transmit = written_keeps s n.transmit h.buffers.transmit word fits in
      let l : LoadHolds s (loaded s q) =
      loaded_holds s q (record { transmit = t; receive = h.buffers.receive })
      (free_idle n.shift h.shift)
      (queued-shift n.shift h.shift) in
      rested_holds s _
      (record {
        buffers = record { transmit = l.buffers.transmit; receive = l.buffers.receive };
        shift = shift_same s (loaded s q) _ _ _ _ _ _ _ _ _ (λ e. e) (loaded s q).shift (λ busy. refl) l.shift;
      })

-- A BUF read leaves the mark.
pub taken_marked : (depth : ℕ) (r : Receive) → (taken depth r).marked ≡ r.marked
unfolding taken
taken_marked depth r = if_keeps (λ (q : Receive). q.marked ≡ r.marked) (empty r.count) _ _ (λ e. refl) (λ e. refl)
