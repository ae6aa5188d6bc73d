-- The finish of a word, by the words that it moves: the sent word was the first of those not sent, and the received word,
-- unless it is lost, stands last among those unread.
--     sent_leaves        a finished word was the first of those unfinished and waiting, unless it was a filler
--     delivered_unread   a received word stands last among those unread, unless it is lost
--     loaded_way         loading puts no word under way
--     finished_order     the words not sent after the finish
--     finished_spares    what else the finish leaves as it was
--     finished_sdo       with CKE 0 also SDO
-- Assumes nothing.
use Rattle.std.specs.Prelude.{◌^◌, ◌<◌, ◌&&◌, ◌||◌, ◌∷◌, ◌++◌, ◌≡◌}
use Rattle.laws.proofs.Common.{ℕ, Bool, true, false, not, List, [], append-nil, refl}
use Rattle.laws.proofs.Common.{sym, ap, ◌∙◌, when◌then◌else◌, so, not_so, if_keeps, if_ap, if_false, and_left}
use Rattle.word_order.specs.Port.{idle, is_under}
use Rattle.module_rules.proofs.Types.{Settings, Engine, Transmit, Progress, Begun, Loaded, Free, Shift}
use Rattle.module_rules.specs.Settings.{width_of, depth_of, cke_of, ssen_client}
use Rattle.module_rules.specs.Registers.{is_free}
use Rattle.module_rules.specs.Buffers.{departed, waiting, unread, overrun}
use Rattle.module_rules.specs.Interrupts.{noted}
use Rattle.module_rules.specs.Loading.{word_leaves, moved, can_load, loaded, rested, sdo_at, is_begun}
use Rattle.module_rules.specs.Finish.{overflowed, word_appended, is_lost, delivered, sent_dropped, freed, finished}
use Rattle.module_rules.specs.Words.{unfinished}
use Rattle.module_rules.specs.Watch.{way_of}
use Rattle.module_rules.proofs.Sizes.{depth_most}
use Rattle.module_rules.proofs.BuffersOrder.{left_takes_first, appended_appends}
use Rattle.module_invariant.proofs.Parts.{TransmitHolds, BuffersHold, FinishHolds, WordHolds, Spared}
use Rattle.module_invariant.proofs.Finish.{delivered_keeps, sent_dropped_keeps, freed_keeps}
use Rattle.module_invariant.proofs.CallsWhen.{is_free_lem}
use Rattle.module_invariant.proofs.Words.{loaded_order}
use Rattle.module_invariant.proofs.Losses.{kept_finds_room}

-- The first of the words, unless it was a filler, is the finished one.
sent_first : (filler client : Bool) (word : ℕ) (now later : List ℕ) →
    (client ≡ true → filler ≡ false → now ≡ word ∷ later) →
    (when filler || client then [] else word ∷ []) ++ now
    ≡ (when filler then [] else word ∷ []) ++ (when client && not filler then later else now)
unfolding when◌then◌else◌
sent_first true true word now later h = refl
sent_first true false word now later h = refl
sent_first false true word now later h = h refl refl
sent_first false false word now later h = refl

module _ (s : Settings) (n : Engine) where
  -- The words that wait once an SSEN client has dropped the word it sent.
  sent_dropped_waiting : (filler : Bool) →
      waiting (depth_of s) (sent_dropped s filler n).transmit
      ≡ (when ssen_client s && not filler then waiting (depth_of s) (departed (depth_of s) n.transmit)
      else waiting (depth_of s) n.transmit)
  unfolding sent_dropped word_leaves noted
  sent_dropped_waiting filler =
      if_ap (λ (x : Engine). waiting (depth_of s) x.transmit) (ssen_client s && not filler) _ _

  -- The word that an SSEN client drops leaves the receive buffer, SCK, SS and SPIROV.
  sent-dropped-spares : (filler : Bool) → Spared n (sent_dropped s filler n)
  unfolding sent_dropped word_leaves noted
  sent-dropped-spares filler =
      if_keeps (Spared n) (ssen_client s && not filler) _ _
      (λ e. record { receive = refl; sck = refl; ss = refl; pulse = refl; spirov = refl })
      (λ e. record { receive = refl; sck = refl; ss = refl; pulse = refl; spirov = refl })

  -- Loading leaves them too.
  pub loaded_spares : Spared n (loaded s n)
  unfolding loaded moved word_leaves noted
  loaded_spares =
      if_keeps (Spared n) (can_load s n) _ _
      (λ e. record { receive = refl; sck = refl; ss = refl; pulse = refl; spirov = refl })
      (λ e. record { receive = refl; sck = refl; ss = refl; pulse = refl; spirov = refl })

module _ (s : Settings) (n : Engine) where
  -- A received word leaves the transmit buffer as it was, and the levels SCK and SS.
  pub delivered_elsewhere : (word : ℕ) →
      ((delivered s word n).transmit ≡ n.transmit) × ((delivered s word n).pins ≡ n.pins)
  unfolding delivered overflowed word_appended noted
  delivered_elsewhere word =
      if_keeps (λ (x : Engine). (x.transmit ≡ n.transmit) × (x.pins ≡ n.pins)) (is_lost s n) _ _
      (λ e. (refl, refl))
      (λ e. (refl, refl))

  -- A received word stands last among those unread, unless it is lost.
  pub delivered_unread : (word : ℕ) → BuffersHold s n →
      unread (depth_of s) (delivered s word n).receive
      ≡ unread (depth_of s) n.receive ++ (when is_lost s n then [] else word ∷ [])
  unfolding delivered overflowed overrun word_appended noted unread
  delivered_unread word b =
      let before : List ℕ = unread (depth_of s) n.receive in
      let more : List ℕ = when is_lost s n then [] else word ∷ [] in
      if_keeps (λ (x : Engine). unread (depth_of s) x.receive ≡ before ++ more) (is_lost s n) _ _
      (λ e. sym (append-nil before) ∙ ap (λ (l : List ℕ). before ++ l) (so (is_lost s n) [] (word ∷ []) e refl))
      (λ e.
      appended_appends (depth_of s) n.receive (depth_most s) b.receive.cells b.receive.ring word
      (kept_finds_room s n e)
      ∙ ap (λ (l : List ℕ). before ++ l) (not_so (is_lost s n) [] (word ∷ []) e refl))

  -- The finished word, unless it was a filler, was the first of those unfinished and waiting.
  pub sent_leaves : (word : ℕ) (p : Progress) → TransmitHolds s n.transmit → WordHolds s n p.filler p.word →
      unfinished s (Begun p) ++ waiting (depth_of s) n.transmit
      ≡ (when p.filler then [] else p.word ∷ [])
      ++ waiting (depth_of s) (sent_dropped s p.filler (delivered s word n)).transmit
  sent_leaves word p t h =
      let drops : Bool = ssen_client s && not p.filler in
      sent_first p.filler (ssen_client s) p.word _ _
      (λ c f.
      left_takes_first (depth_of s) n.transmit (depth_most s) t.cells t.ring (h.first c f).0
      ∙ ap (λ (x : ℕ). x ∷ waiting (depth_of s) (departed (depth_of s) n.transmit)) (sym (h.first c f).1))
      ∙ ap (λ (l : List ℕ). (when p.filler then [] else p.word ∷ []) ++ l)
      (ap (λ (u : Transmit). when drops then waiting (depth_of s) (departed (depth_of s) u) else waiting (depth_of s) u)
      (sym (delivered_elsewhere word).0)
      ∙ sym (sent_dropped_waiting s (delivered s word n) p.filler))

-- Loading puts no word under way.
pub loaded_way : (s : Settings) (n : Engine) → way_of (loaded s n).shift ≡ way_of n.shift
unfolding loaded moved word_leaves noted can_load
loaded_way s n =
    if_keeps (λ (x : Engine). way_of x.shift ≡ way_of n.shift) (can_load s n) _ _
    (λ e. sym (ap way_of (is_free_lem n.shift (and_left (is_free n.shift) _ e))))
    (λ e. refl)

-- After a finish none is.
pub finished_way : (s : Settings) (filler : Bool) (word : ℕ) (n : Engine) → way_of (finished s filler word n).shift ≡ idle
unfolding finished freed rested sdo_at noted
finished_way s filler word n = loaded_way s (freed s (sent_dropped s filler (delivered s word n)))

pub begun_under : (sh : Shift) → is_under (way_of sh) ≡ is_begun sh
begun_under Free = refl
begun_under (Loaded word) = refl
begun_under (Begun p) = refl

pub finished_unbegun : (s : Settings) (filler : Bool) (word : ℕ) (n : Engine) → is_begun (finished s filler word n).shift ≡ false
finished_unbegun s filler word n =
    sym (begun_under (finished s filler word n).shift) ∙ ap is_under (finished_way s filler word n)

-- The words that are not sent after a finish are those that then wait.
pub finished_order : (s : Settings) (filler : Bool) (word : ℕ) (n : Engine) → word < 2 ^ width_of s → FinishHolds s n →
    waiting (depth_of s) (sent_dropped s filler (delivered s word n)).transmit
    ≡ unfinished s (finished s filler word n).shift ++ waiting (depth_of s) (finished s filler word n).transmit
unfolding finished freed rested sdo_at noted
finished_order s filler word n k h =
    let ended : Engine = sent_dropped s filler (delivered s word n) in
    let f : FinishHolds s (freed s ended) =
    freed_keeps s ended (sent_dropped_keeps s filler _ (delivered_keeps s word n k h)) in
    sym (loaded_order s (freed s ended) (unfinished s) refl (λ w. refl) f.buffers)

-- What else the finish leaves as it was.
pub finished_spares : (s : Settings) (filler : Bool) (word : ℕ) (n : Engine) →
    Spared (delivered s word n) (finished s filler word n)
unfolding finished freed rested sdo_at noted
finished_spares s filler word n =
    let ended : Engine = sent_dropped s filler (delivered s word n) in
    let a : Spared (delivered s word n) ended = sent-dropped-spares s (delivered s word n) filler in
    let b : Spared (freed s ended) (loaded s (freed s ended)) = loaded_spares s (freed s ended) in
    record {
      receive = b.receive ∙ a.receive;
      sck = b.sck ∙ a.sck;
      ss = b.ss ∙ a.ss;
      pulse = b.pulse ∙ a.pulse;
      spirov = b.spirov ∙ a.spirov;
    }

-- With CKE 0 a finish leaves SDO.
pub finished_sdo : (s : Settings) → cke_of s ≡ false → (filler : Bool) (word : ℕ) (n : Engine) →
    (finished s filler word n).pins.sdo ≡ n.pins.sdo
unfolding finished rested sdo_at loaded moved freed sent_dropped word_leaves delivered overflowed word_appended noted
finished_sdo s cke filler word n =
    let P : Engine → Type 0 = λ x. x.pins.sdo ≡ n.pins.sdo in
    let received : P (delivered s word n) = if_keeps P (is_lost s n) _ _ (λ e. refl) (λ e. refl) in
    let dropped : P (sent_dropped s filler (delivered s word n)) =
    if_keeps P (ssen_client s && not filler) _ _ (λ e. received) (λ e. received) in
    let next : Engine = loaded s (freed s (sent_dropped s filler (delivered s word n))) in
    if_false (cke_of s && not (is_begun next.shift)) _ _ (ap (λ (b : Bool). b && not (is_begun next.shift)) cke)
    ∙ if_keeps P (can_load s (freed s (sent_dropped s filler (delivered s word n)))) _ _ (λ e. dropped) (λ e. dropped)
