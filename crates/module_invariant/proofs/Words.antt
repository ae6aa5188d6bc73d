-- What the invariant of specs/Invariant.antt says of the lists of words that the buffers hold, for every module that
-- calls reach.
--     loaded_order             loading changes nothing in the order of the words to be sent
--     buf_write_appends        a BUF write stands last among the words to be sent
--     buf_read_takes_first     a BUF read answers the first unread word and takes it
--     received_word_appended   a received word that is not lost stands last among those unread
--     begun_word_first         a begun word of an SSEN client is the first of those waiting
--     abort_keeps_waiting      an abort leaves the words that wait as they were
--     waiting_words_fit, unread_words_fit   every word in a buffer fits the width
--     disabled_waiting_none, disabled_unread_none   a disabled module holds no word
-- Assumes nothing.
use Rattle.std.specs.Prelude.{◌^◌, ◌≤◌, ◌<◌, ◌∷◌, ◌++◌, ◌≡◌}
use Rattle.laws.proofs.Common.{ℕ, Bool, true, false, not, List, [], append_assoc, refl, sym}
use Rattle.laws.proofs.Common.{ap, ◌∙◌, arith, leb-false, eqb-false, not-true, get_or, if_keeps, if_false, and_left, and_right}
use Rattle.ring.proofs.Contents.{contents_keep}
use Rattle.module_rules.proofs.Types.{Settings, Engine, Transmit, Receive, Module, Outcome, Progress, Shift, Free, Loaded}
use Rattle.module_rules.proofs.Types.{Begun, Done, Value, Read, Write, Pin}
use Rattle.module_rules.specs.Settings.{width_of, depth_of, ssen_client}
use Rattle.module_rules.specs.Registers.{is_free, spitbf, low_bits}
use Rattle.module_rules.specs.Buffers.{written, empty, first_waiting, departed, taken, waiting, unread}
use Rattle.module_rules.specs.Interrupts.{noted}
use Rattle.module_rules.specs.Loading.{word_leaves, moved, can_load, loaded, rested, sdo_at}
use Rattle.module_rules.specs.Finish.{word_appended, is_lost, delivered}
use Rattle.module_rules.specs.Calls.{answering, word_taken, word_written, perform_of}
use Rattle.module_rules.specs.Invariant.{ModuleHolds}
use Rattle.module_rules.proofs.Sizes.{depth_most, power_least, low_bits_fit}
use Rattle.module_rules.proofs.BuffersOrder.{written_appends, left_takes_first, appended_appends, taken_takes_first, none_waiting, none_unread}
use Rattle.module_invariant.proofs.Parts.{queued, loaded_word, outgoing, TransmitHolds, BuffersHold}
use Rattle.module_invariant.proofs.BuffersKept.{written_keeps}
use Rattle.module_invariant.proofs.Engine.{engine_of}
use Rattle.module_invariant.proofs.CallsWhen.{is_free_lem, buf_read_when, buf_read_is, buf_write_when, buf_write_is}
use Rattle.module_invariant.proofs.Uses.{buf_read_whole, begun_word_waits, abort_frees, disabled_nothing_waits, disabled_nothing_unread}
use Rattle.module_invariant.proofs.Losses.{kept_finds_room}

-- A count that is not zero is at least one.
some_stand : (count : ℕ) → empty count ≡ false → 1 ≤ count
some_stand count e = let there : count ≡ 0 → ⊥ = eqb-false count 0 e in omega arith

module _ (s : Settings) (n : Engine) where
  -- Loading changes nothing in the order of the words to be sent, whatever is counted of a word that has begun.
  pub loaded_order : (f : Shift → List ℕ) → f Free ≡ [] → ((word : ℕ) → f (Loaded word) ≡ word ∷ []) → BuffersHold s n →
      f (loaded s n).shift ++ waiting (depth_of s) (loaded s n).transmit ≡ f n.shift ++ waiting (depth_of s) n.transmit
  unfolding loaded moved word_leaves noted can_load
  loaded_order f none one h =
      let order : Engine → List ℕ = λ x. f x.shift ++ waiting (depth_of s) x.transmit in
      if_keeps (λ (x : Engine). order x ≡ order n) (can_load s n) _ _
      (λ e.
      let free : n.shift ≡ Free = is_free_lem n.shift (and_left (is_free n.shift) _ e) in
      let some : not (empty n.transmit.count) ≡ true =
      and_right (not (ssen_client s)) _ (and_right (is_free n.shift) _ e) in
      ap (λ (l : List ℕ). l ++ waiting (depth_of s) (departed (depth_of s) n.transmit)) (one (first_waiting n.transmit))
      ∙ sym (left_takes_first (depth_of s) n.transmit (depth_most s) h.transmit.cells h.transmit.ring
      (some_stand n.transmit.count (not-true (empty n.transmit.count) some)))
      ∙ ap (λ (l : List ℕ). l ++ waiting (depth_of s) n.transmit) (sym (ap f free ∙ none)))
      (λ e. refl)

  -- A word that is written stands last among those to be sent.
  queued-outgoing : (word : ℕ) → BuffersHold s n → n.transmit.count < depth_of s →
      outgoing s (queued s word n) ≡ outgoing s n ++ (word ∷ [])
  queued-outgoing word h k =
      ap (λ (l : List ℕ). loaded_word n.shift ++ l)
      (written_appends (depth_of s) n.transmit (depth_most s) h.transmit.cells h.transmit.ring word k)
      ∙ sym (append_assoc (loaded_word n.shift) (waiting (depth_of s) n.transmit) (word ∷ []))

module _ (m : Module) (h : ModuleHolds m) where
  -- A BUF write that is not refused stands last among the words to be sent, cut to the width.
  pub buf_write_appends : (v : ℕ) → (perform_of m (Write 3 v)).answer ≡ Done →
      outgoing m.settings (perform_of m (Write 3 v)).after.engine
      ≡ outgoing m.settings m.engine ++ (low_bits m.settings v ∷ [])
  unfolding answering word_written rested sdo_at noted spitbf
  buf_write_appends v e =
      let s : Settings = m.settings in
      let w = buf_write_when m v e in
      let b : BuffersHold s m.engine = (engine_of m h).buffers in
      let q : TransmitHolds s (written (depth_of s) (low_bits s v) m.engine.transmit) =
      written_keeps s m.engine.transmit b.transmit (low_bits s v) (low_bits_fit s v) in
      ap (λ (o : Outcome). outgoing s o.after.engine) (buf_write_is m v w.0 w.1)
      ∙ loaded_order s (queued s (low_bits s v) m.engine) loaded_word refl (λ word. refl)
      (record { transmit = q; receive = b.receive })
      ∙ queued-outgoing s m.engine (low_bits s v) b (leb-false (depth_of s) m.engine.transmit.count w.1)

  -- A BUF read that is not refused answers the first unread word, whole, and takes it.
  pub buf_read_takes_first : (v : ℕ) → (perform_of m (Read 3)).answer ≡ Value v →
      unread (depth_of m.settings) m.engine.receive
      ≡ v ∷ unread (depth_of m.settings) (perform_of m (Read 3)).after.engine.receive
  unfolding answering word_taken noted
  buf_read_takes_first v e =
      let s : Settings = m.settings in
      let r : Receive = m.engine.receive in
      let w = buf_read_when m v e in
      taken_takes_first (depth_of s) r (depth_most s) h.receive_cells h.receive (some_stand r.count w.1)
      ∙ ap (λ (x : ℕ). x ∷ unread (depth_of s) (taken (depth_of s) r)) (sym (buf_read_whole m h v e))
      ∙ ap (λ (o : Outcome). v ∷ unread (depth_of s) o.after.engine.receive) (sym (buf_read_is m w.0 w.1 w.2))

  -- A received word that is not lost stands last among those unread.
  pub received_word_appended : (word : ℕ) → is_lost m.settings m.engine ≡ false →
      unread (depth_of m.settings) (delivered m.settings word m.engine).receive
      ≡ unread (depth_of m.settings) m.engine.receive ++ (word ∷ [])
  unfolding delivered word_appended noted
  received_word_appended word e =
      let s : Settings = m.settings in
      let r : Receive = m.engine.receive in
      ap (λ (n : Engine). unread (depth_of s) n.receive) (if_false (is_lost s m.engine) _ _ e)
      ∙ appended_appends (depth_of s) r (depth_most s) h.receive_cells h.receive word
      (kept_finds_room s m.engine e)

  -- The begun word of an SSEN client is still the first of those waiting.
  pub begun_word_first : (p : Progress) → m.engine.shift ≡ Begun p → ssen_client m.settings ≡ true → p.filler ≡ false →
      waiting (depth_of m.settings) m.engine.transmit
      ≡ p.word ∷ waiting (depth_of m.settings) (departed (depth_of m.settings) m.engine.transmit)
  begun_word_first p e c f =
      let s : Settings = m.settings in
      let t : Transmit = m.engine.transmit in
      let w = begun_word_waits m h p e c f in
      left_takes_first (depth_of s) t (depth_most s) h.transmit_cells h.transmit w.0
      ∙ ap (λ (x : ℕ). x ∷ waiting (depth_of s) (departed (depth_of s) t)) (sym w.1)

  -- An abort leaves the words that wait as they were.
  pub abort_keeps_waiting : (p : Progress) → m.engine.shift ≡ Begun p → ssen_client m.settings ≡ true →
      (sck sdi : Bool) →
      waiting (depth_of m.settings) (perform_of m (Pin sck sdi true)).after.engine.transmit
      ≡ waiting (depth_of m.settings) m.engine.transmit
  abort_keeps_waiting p e c sck sdi = ap (waiting (depth_of m.settings)) (abort_frees m h p e sck sdi c).1

  -- Every waiting word fits the width.
  pub waiting_words_fit : (i : ℕ) →
      get_or (waiting (depth_of m.settings) m.engine.transmit) i 0 < 2 ^ width_of m.settings
  unfolding waiting
  waiting_words_fit i =
      contents_keep (λ (x : ℕ). x < 2 ^ width_of m.settings) 0 (depth_of m.settings) m.engine.transmit.words
      (power_least (width_of m.settings)) h.transmit_words _ _ i

  -- Every unread word fits the width.
  pub unread_words_fit : (i : ℕ) →
      get_or (unread (depth_of m.settings) m.engine.receive) i 0 < 2 ^ width_of m.settings
  unfolding unread
  unread_words_fit i =
      contents_keep (λ (x : ℕ). x < 2 ^ width_of m.settings) 0 (depth_of m.settings) m.engine.receive.words
      (power_least (width_of m.settings)) h.receive_words _ _ i

  -- In a disabled module no word waits.
  pub disabled_waiting_none : m.settings.spien ≡ false → waiting (depth_of m.settings) m.engine.transmit ≡ []
  disabled_waiting_none off = none_waiting (depth_of m.settings) m.engine.transmit (disabled_nothing_waits m h off)

  -- In a disabled module no word is unread.
  pub disabled_unread_none : m.settings.spien ≡ false → unread (depth_of m.settings) m.engine.receive ≡ []
  disabled_unread_none off = none_unread (depth_of m.settings) m.engine.receive (disabled_nothing_unread m h off)
