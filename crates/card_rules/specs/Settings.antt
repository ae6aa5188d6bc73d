-- Document 02, Nine: the protocols, the lengths of data and frame, and where a frame has its samples (document 000, 4.3 and 4.5).
use Rattle.std.specs.Prelude.{ℕ, ◌-◌, ◌/◌, Bool, true, false, ◌&&◌, ◌||◌, eqb}

pub data Protocol : Type 0 where
  i2s : Protocol
  left_justified : Protocol
  right_justified : Protocol
  pcm : Protocol

-- The bits of a sample and the clocks of a frame that go together: 16 in 32; 16, 24 or 32 in 64.
unfoldable pub named : ℕ → ℕ → Bool
named bits frame =
    (eqb bits 16 && eqb frame 32) || ((eqb bits 16 || (eqb bits 24 || eqb bits 32)) && eqb frame 64)

pub record Settings : Type 0 where
  pub protocol : Protocol
  pub bits : ℕ
  pub frame : ℕ

-- Where a frame has its two samples, in clocks. A channel's first place is where its sample is taken.
pub record Shape : Type 0 where
  -- the clocks before the left channel's first place
  pub before : ℕ
  -- from there to the right channel's first place
  pub step : ℕ
  -- the open clocks from a channel's first place to its top bit
  pub lead : ℕ
  -- the bits of a sample
  pub bits : ℕ
  -- the clocks of the frame
  pub frame : ℕ
  -- the clocks at its start in which LRCK is active
  pub active : ℕ
  -- the level at which SCK idles and LRCK is inactive
  pub rest : Bool

-- I2S: LRCK is low for the left half, and the top bit stands one clock behind LRCK's edge. Left justified: LRCK is high for the left
-- half, and the top bit comes with its edge. Right justified: likewise, and the lowest bit is in the half's last clock. PCM/DSP: a pulse
-- of one clock, the left top bit in the clock behind it, and the right sample directly behind the left one.
abbrev pub shape_for : Protocol → ℕ → ℕ → Shape
shape_for i2s bits frame =
    record { before = 1; step = frame / 2; lead = 0; bits = bits; frame = frame; active = frame / 2; rest = true }
shape_for left_justified bits frame =
    record { before = 0; step = frame / 2; lead = 0; bits = bits; frame = frame; active = frame / 2; rest = false }
shape_for right_justified bits frame =
    record { before = 0; step = frame / 2; lead = frame / 2 - bits; bits = bits; frame = frame; active = frame / 2; rest = false }
shape_for pcm bits frame =
    record { before = 1; step = bits; lead = 0; bits = bits; frame = frame; active = 1; rest = false }

unfoldable pub shape_of : Settings → Shape
shape_of x = shape_for x.protocol x.bits x.frame
