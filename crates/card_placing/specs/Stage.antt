-- Where an enabled card stands between two first places, for any shape of a frame.
use Rattle.std.specs.Prelude.{ℕ, zero, suc, ◌+◌, ◌*◌, ◌-◌, ◌/◌, ◌%◌, ◌≤◌, ◌<◌, Bool, false, List, [], ◌∷◌, ◌++◌, ◌≡◌, leb, length}
use Rattle.laws.specs.Choice.{when◌then◌else◌}
use Rattle.word_order.specs.Port.{Under, Way, idle, sends}
use Rattle.card_rules.specs.Settings.{Shape}
use Rattle.card_rules.specs.Edge.{last_edge, channel_bit}

-- The clock of channel j's first place.
unfoldable pub first_place : Shape → ℕ → ℕ
first_place s j = j / 2 * s.frame + (j % 2 * s.step + s.before)

-- The clocks of a channel: a left one has `step`, a right one the rest of the frame.
abbrev pub clocks_of : Shape → ℕ → ℕ
clocks_of s zero = s.step
clocks_of s (suc k) = s.frame - s.step

-- The edge of the frame `x` edges behind its start, `x` being less than two frames.
unfoldable pub wrapped : Shape → ℕ → ℕ
wrapped s x = when leb (2 * s.frame) x then x - 2 * s.frame else x

-- The edge of the frame `e` edges behind the first place of a left or a right channel.
abbrev pub offset : Shape → ℕ → ℕ
offset s zero = 0
offset s (suc k) = s.step

abbrev pub spot : Shape → ℕ → ℕ → ℕ
spot s channel e = wrapped s (2 * (s.before + offset s channel) + e)

-- What is under way `e` edges behind a channel's first place: its sample up to the last edge, then nothing.
pub record WayAt (s : Shape) (sample e : ℕ) (way : Way) : Type 0 where
  pub sending : e < last_edge s → (u : Under) × (way ≡ sends u) × (u.edges ≡ e) × (u.word ≡ sample)
  pub ended : last_edge s ≤ e → way ≡ idle

-- After n edges: before the first channel, or `e` edges behind the first place of channel j, which took the last of the samples.
pub data Stage (s : Shape) (n place : ℕ) (way : Way) (sdo : Bool) (samples : List ℕ) : Type 0 where
  starting : samples ≡ [] → way ≡ idle → n ≡ place → place ≤ 2 * s.before → sdo ≡ false → Stage s n place way sdo samples
  running : (j e sample : ℕ) (front : List ℕ) → samples ≡ front ++ (sample ∷ []) → length front ≡ j →
      n ≡ 2 * first_place s j + e → 1 ≤ e → e ≤ 2 * clocks_of s (j % 2) → place ≡ spot s (j % 2) e → WayAt s sample e way →
      sdo ≡ channel_bit s sample ((e - 1) / 2) → Stage s n place way sdo samples
