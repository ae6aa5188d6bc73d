-- The settings in a number, and the frame that the code makes of them.
--     bits_16, bits_24, bits_32   the bits by the number of their length
--     sizes, bits_fit   a sample fits half a frame, and a frame is of 32 or 64 clocks
--     frame_for     the frame of a protocol, by its edges
-- Assumes nothing.
use Rattle.std.specs.Prelude.{◌+◌, ◌*◌, ◌-◌, ◌/◌, ◌%◌, ◌≤◌, ◌<◌, ◌≡◌}
use Rattle.laws.proofs.Common.{ℕ, Bool, true, false, refl, sym, arith, eqb-true, ltb-false}
use Rattle.laws.proofs.Common.{eqb, ltb, if_keeps, so_lt, not_so_lt, so_eq, not_so_eq}
use Rattle.card_rules.specs.Settings.{Protocol, i2s, left_justified, right_justified, pcm, shape_for, shape_of}
use Rattle.card.specs.declared.Frame.{Frame}
use Rattle.card.specs.Memory.{protocol_in, bits_in, frame_in, settings_from, framed}

-- A sample fits half a frame.
pub record Fit (bits frame : ℕ) : Type 0 where
  pub least : 16 ≤ bits
  pub most : bits ≤ 32
  pub fit : 2 * bits ≤ frame
  pub even : frame % 2 ≡ 0
  pub short : frame ≤ 64

pub sizes : (code : ℕ) → Fit (bits_in code) (frame_in code)
unfolding bits_in frame_in
sizes code =
    let q : ℕ = code / 4 % 4 in
    if_keeps (Fit (bits_in code)) (eqb q 0) _ _
    (λ e.
    let none : q ≡ 0 = eqb-true q 0 e in
    if_keeps (λ (b : ℕ). Fit b 32) (ltb q 2) _ _
    (λ f. record { least = omega arith; most = omega arith; fit = omega arith; even = refl; short = omega arith })
    (λ f. let many : 2 ≤ q = ltb-false q 2 f in absurd (omega arith)))
    (λ e.
    if_keeps (λ (b : ℕ). Fit b 64) (ltb q 2) _ _
    (λ f. record { least = omega arith; most = omega arith; fit = omega arith; even = refl; short = omega arith })
    (λ f.
    if_keeps (λ (b : ℕ). Fit b 64) (eqb q 2) _ _
    (λ g. record { least = omega arith; most = omega arith; fit = omega arith; even = refl; short = omega arith })
    (λ g. record { least = omega arith; most = omega arith; fit = omega arith; even = refl; short = omega arith })))

-- The bits by the number of their length.
module _ (code : ℕ) where
  pub bits_16 : code / 4 % 4 < 2 → 16 ≡ bits_in code
  unfolding bits_in
  bits_16 h = so_lt _ _ _ _ h refl

  pub bits_24 : code / 4 % 4 ≡ 2 → 24 ≡ bits_in code
  unfolding bits_in
  bits_24 e = not_so_lt _ _ _ _ (omega arith) (so_eq _ _ _ _ e refl)

  pub bits_32 : 2 < code / 4 % 4 → 32 ≡ bits_in code
  unfolding bits_in
  bits_32 h = not_so_lt _ _ _ _ (omega arith) (not_so_eq _ _ _ _ (λ e. omega arith) refl)

-- The same of numbers that are known to be those of the settings.
pub bits_fit : (code : ℕ) {bits frame : ℕ} → bits ≡ bits_in code → frame ≡ frame_in code → 2 * bits ≤ frame
bits_fit code e f = omega (arith, (sizes code).fit)

-- A frame by its numbers.
abbrev made : ℕ → ℕ → ℕ → ℕ → ℕ → ℕ → Bool → Frame
made first second lead last edges active rest =
    record { first = first; second = second; lead = lead; last = last; edges = edges; active = active; rest = rest }

same_frame : {a b c d e f a' b' c' d' e' f' : ℕ} (rest : Bool) → a ≡ a' → b ≡ b' → c ≡ c' → d ≡ d' → e ≡ e' → f ≡ f' →
    made a b c d e f rest ≡ made a' b' c' d' e' f' rest
same_frame rest p q r s t u = λ i. made (p i) (q i) (r i) (s i) (t i) (u i) rest

-- The frame of a protocol: `half` edges a half, and `sample` edges a sample.
abbrev pub frame_with : Protocol → ℕ → ℕ → Frame
frame_with i2s half sample = made 2 (2 + half) 0 sample (2 * half) half true
frame_with left_justified half sample = made 0 half 0 sample (2 * half) half false
frame_with right_justified half sample = made 0 half (half - sample) half (2 * half) half false
frame_with pcm half sample = made 2 (2 + sample) 0 sample (2 * half) 2 false

pub frame_for : (code : ℕ) (p : Protocol) {half bits : ℕ} → half ≡ frame_in code → bits ≡ bits_in code → protocol_in code ≡ p →
    frame_with p half (2 * bits) ≡ framed (shape_of (settings_from code))
unfolding framed shape_of settings_from
frame_for code p f b e = rw (f, b, e) (go p (sizes code))
  where
    go : (q : Protocol) → Fit (bits_in code) (frame_in code) →
        frame_with q (frame_in code) (2 * bits_in code) ≡ framed (shape_for q (bits_in code) (frame_in code))
    go i2s s = same_frame true refl (omega (arith, s.even)) refl (omega arith) refl (omega (arith, s.even))
    go left_justified s = same_frame false refl (omega (arith, s.even)) refl (omega arith) refl (omega (arith, s.even))
    go right_justified s =
        same_frame false refl (omega (arith, s.even)) (omega (arith, s.even)) (omega (arith, s.even, s.fit)) refl (omega (arith, s.even))
    go pcm s = same_frame false refl (omega arith) refl (omega arith) refl refl

-- The protocol in a number.
pub protocol_is : (code : ℕ) →
    (code % 4 ≡ 0 → protocol_in code ≡ i2s)
    × (code % 4 ≡ 1 → protocol_in code ≡ left_justified)
    × (code % 4 ≡ 2 → protocol_in code ≡ right_justified)
    × ((code % 4 ≡ 0 → ⊥) → (code % 4 ≡ 1 → ⊥) → (code % 4 ≡ 2 → ⊥) → protocol_in code ≡ pcm)
unfolding protocol_in
protocol_is code = (
  λ e. sym (so_eq _ _ _ _ e refl),
  λ e. sym (not_so_eq (code % 4) 0 _ _ (λ f. omega arith) (so_eq _ _ _ _ e refl)),
  λ e. sym (not_so_eq (code % 4) 0 _ _ (λ f. omega arith) (not_so_eq (code % 4) 1 _ _ (λ f. omega arith) (so_eq _ _ _ _ e refl))),
  λ e f g. sym (not_so_eq _ _ _ _ e (not_so_eq _ _ _ _ f (not_so_eq _ _ _ _ g refl))),
)
