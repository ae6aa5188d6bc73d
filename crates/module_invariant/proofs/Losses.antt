-- When a received word is lost, and what a loss does.
--     lost_same         a loss looks at the receive buffer only
--     lost_is           a word is lost if its buffer is full or marked
--     delivered_marked, delivered_spirov, delivered_count   the mark, SPIROV and the unread words after a received word
--     kept_finds_room   a word that is not lost finds room
-- Assumes nothing.
use mir.Val.{bool_byte}
use Rattle.std.specs.Prelude.{◌+◌, ◌<◌, ◌&&◌, ◌||◌, ◌≡◌}
use Rattle.laws.proofs.Common.{ℕ, Bool, false, not, or-true, or-false, refl, sym, ap, ◌∙◌, arith}
use Rattle.laws.proofs.Common.{leb-false, if_keeps, or_left, if_false}
use Rattle.module_rules.proofs.Types.{Settings, Engine, Receive}
use Rattle.module_rules.specs.Settings.{depth_of}
use Rattle.module_rules.specs.Buffers.{full, appended, overrun}
use Rattle.module_rules.specs.Finish.{overflowed, word_appended, is_lost, delivered}
use Rattle.module_rules.specs.Interrupts.{noted}

module _ (s : Settings) (n : Engine) where
  -- A loss looks at the receive buffer only.
  pub lost_same : (x : Engine) → x.receive ≡ n.receive → is_lost s x ≡ is_lost s n
  unfolding is_lost
  lost_same x e = ap (λ (r : Receive). full (depth_of s) r.count || r.marked) e

  -- A word is lost if its buffer is full or marked.
  pub lost_is : is_lost s n ≡ (full (depth_of s) n.receive.count || n.receive.marked)
  unfolding is_lost
  lost_is = refl

  -- A loss marks the buffer in enhanced operation.
  pub delivered_marked : (word : ℕ) →
      (delivered s word n).receive.marked ≡ (n.receive.marked || (is_lost s n && s.con2.spiben))
  unfolding delivered overflowed overrun word_appended noted appended
  delivered_marked word =
      if_keeps (λ (x : Engine). x.receive.marked ≡ (n.receive.marked || (is_lost s n && s.con2.spiben))) (is_lost s n) _ _
      (λ e. ap (λ (b : Bool). n.receive.marked || (b && s.con2.spiben)) (sym e))
      (λ e.
      if_keeps (λ (r : Receive). r.marked ≡ (n.receive.marked || (is_lost s n && s.con2.spiben))) (full (depth_of s) n.receive.count) _ _
      (λ k. sym (ap (λ (b : Bool). n.receive.marked || (b && s.con2.spiben)) e ∙ or-false n.receive.marked))
      (λ k. sym (ap (λ (b : Bool). n.receive.marked || (b && s.con2.spiben)) e ∙ or-false n.receive.marked)))

  -- A word that is not lost finds room.
  pub kept_finds_room : is_lost s n ≡ false → n.receive.count < depth_of s
  unfolding is_lost
  kept_finds_room e = leb-false (depth_of s) n.receive.count (or_left (full (depth_of s) n.receive.count) _ e)

-- SPIROV after a received word: set by a loss.
pub delivered_spirov : (s : Settings) (word : ℕ) (n : Engine) → (delivered s word n).spirov ≡ (n.spirov || is_lost s n)
unfolding delivered overflowed word_appended noted
delivered_spirov s word n =
    if_keeps (λ (x : Engine). x.spirov ≡ (n.spirov || is_lost s n)) (is_lost s n) _ _
    (λ e. sym (ap (λ (b : Bool). n.spirov || b) e ∙ or-true n.spirov))
    (λ e. sym (ap (λ (b : Bool). n.spirov || b) e ∙ or-false n.spirov))

-- The unread words after a received word.
pub delivered_count : (s : Settings) (word : ℕ) (n : Engine) →
    (delivered s word n).receive.count ≡ n.receive.count + bool_byte (not (is_lost s n))
unfolding delivered overflowed overrun word_appended noted appended is_lost
delivered_count s word n =
    if_keeps (λ (x : Engine). x.receive.count ≡ n.receive.count + bool_byte (not (is_lost s n))) (is_lost s n) _ _
    (λ e. sym (ap (λ (b : Bool). n.receive.count + bool_byte (not b)) e ∙ omega arith))
    (λ e.
    ap (λ (r : Receive). r.count)
    (if_false (full (depth_of s) n.receive.count) _ _ (or_left (full (depth_of s) n.receive.count) _ e))
    ∙ ap (λ (b : Bool). n.receive.count + bool_byte (not b)) (sym e))
