-- One end at a word's beginning: what the other end hears of it, and what it makes of what it hears.
--     first_levels, first_fits   the levels that the other end samples, value by value
--     carried, heard_first      they are what is heard of its word call
--     made_fresh                its word call with a word of no more bits than its own
-- Assumes nothing.
use Rattle.std.specs.Prelude.{◌+◌, ◌*◌, ◌-◌, ◌%◌, ◌^◌, ◌<◌, ◌≡◌}
use Rattle.laws.proofs.Common.{ℕ, Bool, true, false, ap, ◌∙◌, pow-succ', mod-lt}
use Rattle.laws.proofs.Common.{mod-eq_of_lt, arith, when◌then◌else◌, if_keeps}
use mir.Val.{bool_byte}
use Rattle.word_order.specs.Bits.{bit_of}
use Rattle.module_rules.proofs.Types.{Settings, Engine}
use Rattle.module_rules.specs.Changes.{with_sdo}
use Rattle.module_rules.specs.Settings.{width_of, cke_of}
use Rattle.module_rules.specs.Finish.{finished}
use Rattle.module_rules.proofs.Sizes.{width_least, power_least}
use Rattle.word_rules.specs.Word.{current, word_of}
use Rattle.word_rules.proofs.WordMade.{at}
use Rattle.word_begins.specs.Beginning.{levels_first}
use Rattle.word_begins.proofs.Begins.{Begins, short, shown, first_word_lem}
use Rattle.link_words.specs.LinkWords.{heard_of}
use Rattle.link_words.proofs.Heard.{Carries, carries_levels}

-- The levels of SDO where the edges sample, and zeros under DISSDO.
unfoldable pub first_levels : Settings → ℕ → Bool → ℕ
first_levels s word sdo = when s.con1.dissdo then 0 else levels_first s word sdo

pub first_fits : (s : Settings) (word : ℕ) (sdo : Bool) → first_levels s word sdo < 2 ^ width_of s
unfolding first_levels levels_first
first_fits s word sdo =
    if_keeps (λ (x : ℕ). x < 2 ^ width_of s) s.con1.dissdo _ _ (λ _. power_least (width_of s))
    (λ _.
    if_keeps (λ (x : ℕ). x < 2 ^ width_of s) (cke_of s) _ _ (λ _. half sdo)
    (λ _. mod-lt word (power_least (width_of s))))
  where
    all : 2 ^ width_of s ≡ 2 * 2 ^ (width_of s - 1)
    all = ap (λ (k : ℕ). 2 ^ k) (omega (arith, width_least s)) ∙ pow-succ' 2 (width_of s - 1)

    half : (b : Bool) → word % 2 ^ (width_of s - 1) + bool_byte b * 2 ^ (width_of s - 1) < 2 ^ width_of s
    half true = omega (arith, all, mod-lt word (power_least (width_of s - 1)))
    half false = omega (arith, all, mod-lt word (power_least (width_of s - 1)))

module _ (s : Settings) (n : Engine) (b : Begins s n false) where
  pub carried : Carries s (current s n).word (current s n).edges n.pins.sdo (heard_of (at s n))
  unfolding heard_of
  carried =
      rw (shown s n false b 0) (carries_levels s (current s n) n.pins.sdo (short s n false b))

  pub heard_first : first_levels s (current s n).word n.pins.sdo ≡ heard_of (at s n)
  unfolding first_levels heard_of
  heard_first =
      rw (first_word_lem s n false b 0)

  pub made_fresh : (word : ℕ) → word < 2 ^ width_of s →
      at s (finished s (current s n).filler word (with_sdo (bit_of (current s n).word 0) n)) ≡ (word_of (at s n) false word).after
  made_fresh word fits =
      rw (first_word_lem s n false b word, mod-eq_of_lt fits)
