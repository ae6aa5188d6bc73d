-- The flags after a finish, after a BUF read and after a BUF write, in the page's words (specs/Flags.antt).
--     finished_flag, finished_count   the interrupt flag after a finish, and the words that then wait
--     written_flag, written_count     the same after a BUF write
-- Assumes nothing.
use mir.Val.{bool_byte}
use Rattle.std.specs.Prelude.{◌+◌, ◌<◌, ◌≤◌, ◌&&◌, ◌||◌, ◌≡◌}
use Rattle.laws.proofs.Common.{ℕ, Bool, true, false, not, or-false, refl, sym, ap, ◌∙◌}
use Rattle.laws.proofs.Common.{arith, lt-leb, eqb-false, ne_eqb, not-true, if_keeps, if_false, and_left, and_right, and_first}
use Rattle.laws.proofs.Common.{by_test}
use mathlib.Core.Bool.{and-false, and-or_distrib_right, or_assoc}
use Rattle.module_rules.proofs.Types.{Settings, Engine, Transmit, Appended, Left, Finished, Written}
use Rattle.module_rules.specs.Settings.{depth_of, ssen_client}
use Rattle.module_rules.specs.Buffers.{full, empty, departed, written}
use Rattle.module_rules.specs.Interrupts.{raises, noted}
use Rattle.module_rules.specs.Registers.{is_free}
use Rattle.module_rules.specs.Loading.{word_leaves, moved, can_load, loaded, rested, sdo_at}
use Rattle.module_rules.specs.Finish.{overflowed, word_appended, is_lost, delivered, sent_dropped, freed, finished}
use Rattle.module_rules.specs.Calls.{word_written}
use Rattle.module_invariant.proofs.Parts.{queued}
use Rattle.module_invariant.proofs.FinishWords.{delivered_elsewhere}

-- The alternatives of a finish, in another order.
sorted : (i a l f m : Bool) → ((((i || a) || l) || f) || m) ≡ (i || ((a || (l || m)) || f))
sorted true a l f m = refl
sorted false true l f m = refl
sorted false false true f m = refl
sorted false false false true true = refl
sorted false false false true false = refl
sorted false false false false m = sym (or-false m)

-- A word that leaves a transmit buffer that holds one leaves one fewer.
departed_count : (depth : ℕ) (t : Transmit) → 1 ≤ t.count → (departed depth t).count + 1 ≡ t.count
unfolding departed
departed_count depth t some =
    ap (λ (x : Transmit). x.count + 1) (if_false (empty t.count) _ _ (ne_eqb t.count 0 (omega arith)))
    ∙ omega arith

module _ (s : Settings) (n : Engine) where
  -- The flag after loading, and the words that then wait.
  loaded_flag : (loaded s n).interrupt
      ≡ (n.interrupt || (can_load s n && raises s (Left (loaded s n).transmit.count)))
  unfolding loaded moved word_leaves noted
  loaded_flag =
      if_keeps (λ (x : Engine). x.interrupt ≡ (n.interrupt || (can_load s n && raises s (Left x.transmit.count))))
      (can_load s n) _ _
      (λ e. rw e)
      (λ e. rw e (sym (or-false n.interrupt)))

  can-load-some : can_load s n ≡ true → 1 ≤ n.transmit.count
  unfolding can_load
  can-load-some e =
      let some : empty n.transmit.count ≡ false =
      not-true (empty n.transmit.count) (and_right (not (ssen_client s)) _ (and_right (is_free n.shift) _ e)) in
      let there : n.transmit.count ≡ 0 → ⊥ = eqb-false n.transmit.count 0 some in
      omega arith

  -- One fewer waits if one has loaded.
  loaded-count : (loaded s n).transmit.count + bool_byte (can_load s n) ≡ n.transmit.count
  unfolding loaded moved word_leaves noted
  loaded-count =
      if_keeps (λ (x : Engine). x.transmit.count + bool_byte (can_load s n) ≡ n.transmit.count) (can_load s n) _ _
      (λ e. rw e (departed_count (depth_of s) n.transmit (can-load-some e)))
      (λ e. rw e (omega arith))

  -- The flag after a received word.
  delivered-flag : (word : ℕ) →
      (delivered s word n).interrupt
      ≡ (n.interrupt || (not (is_lost s n) && raises s (Appended (delivered s word n).receive.count)))
  unfolding delivered overflowed word_appended noted
  delivered-flag word =
      if_keeps
      (λ (x : Engine). x.interrupt ≡ (n.interrupt || (not (is_lost s n) && raises s (Appended x.receive.count))))
      (is_lost s n) _ _
      (λ e. rw e (sym (or-false n.interrupt)))
      (λ e. rw e)

  -- The flag and the words that wait once an SSEN client has dropped the word it sent.
  dropped-flag : (filler : Bool) →
      (sent_dropped s filler n).interrupt
      ≡ (n.interrupt || ((ssen_client s && not filler) && raises s (Left (sent_dropped s filler n).transmit.count)))
  unfolding sent_dropped word_leaves noted
  dropped-flag filler =
      if_keeps
      (λ (x : Engine).
      x.interrupt ≡ (n.interrupt || ((ssen_client s && not filler) && raises s (Left x.transmit.count))))
      (ssen_client s && not filler) _ _
      (λ e. rw e)
      (λ e. rw e (sym (or-false n.interrupt)))

  dropped-count : (filler : Bool) → ((ssen_client s && not filler) ≡ true → 1 ≤ n.transmit.count) →
      (sent_dropped s filler n).transmit.count + bool_byte (ssen_client s && not filler) ≡ n.transmit.count
  unfolding sent_dropped word_leaves noted
  dropped-count filler some =
      if_keeps (λ (x : Engine). x.transmit.count + bool_byte (ssen_client s && not filler) ≡ n.transmit.count)
      (ssen_client s && not filler) _ _
      (λ e. rw e (departed_count (depth_of s) n.transmit (some e)))
      (λ e. rw e (omega arith))

module _ (s : Settings) (filler : Bool) (word : ℕ) (n : Engine)
    (some : (ssen_client s && not filler) ≡ true → 1 ≤ n.transmit.count) where
  -- The engine within a finish: the received word, the sent word.
  abbrev received : Engine
  received = delivered s word n

  abbrev spent : Engine
  spent = sent_dropped s filler (delivered s word n)

  abbrev drops : Bool
  drops = ssen_client s && not filler

  -- A word has left the transmit buffer.
  abbrev pub leaves : Bool
  leaves = drops || can_load s (freed s spent)

  received-transmit : received.transmit ≡ n.transmit
  received-transmit = (delivered_elsewhere s n word).0

  -- An SSEN client loads nothing.
  drops-loads-none : drops ≡ true → can_load s (freed s spent) ≡ false
  unfolding can_load
  drops-loads-none e = rw (and_left (ssen_client s) _ e) (and-false (is_free (freed s spent).shift))

  -- The words that wait after the finish: one fewer if one has left.
  spent-count : spent.transmit.count + bool_byte drops ≡ n.transmit.count
  spent-count =
      let same : received.transmit.count ≡ n.transmit.count = ap (λ (t : Transmit). t.count) received-transmit in
      dropped-count s received filler (λ e. omega (arith, some e, same)) ∙ same

  -- Nothing loads where one was dropped.
  loaded-same : drops ≡ true → (loaded s (freed s spent)).transmit.count ≡ (freed s spent).transmit.count
  loaded-same d = omega (arith, rw (drops-loads-none d) at (loaded-count s (freed s spent)))

  pub finished_count : (finished s filler word n).transmit.count + bool_byte leaves ≡ n.transmit.count
  unfolding finished rested sdo_at freed noted
  finished_count =
      by_test drops
      (λ d. rw d (omega (arith, loaded-same d, rw d at spent-count)))
      (λ d. rw d (omega (arith, loaded-count s (freed s spent), rw d at spent-count)))

  -- The interrupt flag after a finish.
  pub finished_flag : (finished s filler word n).interrupt
      ≡ (n.interrupt
      || (((not (is_lost s n) && raises s (Appended received.receive.count))
      || (leaves && raises s (Left (finished s filler word n).transmit.count)))
      || raises s (Finished spent.transmit.count)))
  unfolding finished rested sdo_at freed noted
  finished_flag =
      let i : Bool = n.interrupt in
      let w : ℕ = (finished s filler word n).transmit.count in
      let a : Bool = not (is_lost s n) && raises s (Appended received.receive.count) in
      let f : Bool = raises s (Finished spent.transmit.count) in
      let loads : Bool = can_load s (freed s spent) in
      let l : Bool = drops && raises s (Left spent.transmit.count) in
      let l' : Bool = drops && raises s (Left w) in
      let m : Bool = loads && raises s (Left w) in
      let same : l ≡ l' =
      by_test drops
      (λ d.
      ap (λ (k : ℕ). drops && raises s (Left k)) (sym (loaded-same d)))
      (λ d. and_first drops _ d ∙ sym (and_first drops _ d)) in
      loaded_flag s (freed s spent)
      ∙ ap (λ (x : Bool). (x || f) || m)
      (dropped-flag s received filler ∙ ap (λ (x : Bool). x || l) (delivered-flag s n word))
      ∙ sorted i a l f m
      ∙ ap (λ (x : Bool). i || ((a || (x || m)) || f)) same
      ∙ ap (λ (x : Bool). i || ((a || x) || f)) (sym (and-or_distrib_right drops loads (raises s (Left w))))

-- A word that is written waits.
queued_count : (s : Settings) (word : ℕ) (n : Engine) → n.transmit.count < depth_of s →
    (written (depth_of s) word n.transmit).count ≡ n.transmit.count + 1
unfolding written
queued_count s word n room =
    ap (λ (t : Transmit). t.count)
    (if_false (full (depth_of s) n.transmit.count) _ _ (lt-leb (depth_of s) n.transmit.count room))

module _ (s : Settings) (word : ℕ) (n : Engine) where
  -- The interrupt flag after a BUF write, and the words that then wait.
  pub written_flag : (word_written s word n).interrupt
      ≡ (n.interrupt
      || ((can_load s (queued s word n) && raises s (Left (word_written s word n).transmit.count))
      || raises s (Written (word_written s word n).transmit.count)))
  unfolding word_written rested sdo_at noted
  written_flag =
      ap (λ (x : Bool). x || raises s (Written (loaded s (queued s word n)).transmit.count))
      (loaded_flag s (queued s word n))
      ∙ or_assoc n.interrupt _ _

  pub written_count : n.transmit.count < depth_of s →
      (word_written s word n).transmit.count + bool_byte (can_load s (queued s word n)) ≡ n.transmit.count + 1
  unfolding word_written rested sdo_at noted
  written_count room = loaded-count s (queued s word n) ∙ queued_count s word n room
