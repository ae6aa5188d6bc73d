-- Channels by their edges.
--     first_next     the next channel's first place
--     wrapped_next   the edge of the frame that comes next
--     channel_open, channel_end   within a channel there is no first place, and at its end there is
--     spot_next, spot_turn        one edge on within a channel, and into the next one
--     one_channel    a clock lies in one channel
-- Assumes nothing.
use Rattle.std.specs.Prelude.{◌+◌, ◌*◌, ◌-◌, ◌/◌, ◌%◌, ◌≤◌, ◌<◌, ◌≡◌}
use Rattle.laws.proofs.Common.{ℕ, zero, suc, true, false, or-true, ap, ◌∙◌, add-mul}
use Rattle.laws.proofs.Common.{arith, eqb-true, eqb-false, eq-eqb, ne_eqb, ltb-true, ltb-false, lt-ltb, le-ltb, leb-true}
use Rattle.laws.proofs.Common.{leb-false, le-leb, lt-leb, ltb, leb, eqb, if_true, if_false, by_test}
use Rattle.ring.specs.Ring.{next}
use Rattle.card_rules.specs.Settings.{Shape}
use Rattle.card_rules.specs.Edge.{at_first_place, last_edge}
use Rattle.card_order.specs.Invariant.{Fits}
use Rattle.card_placing.specs.Stage.{first_place, clocks_of, wrapped, offset, spot}

pub first_next : (s : Shape) → Fits s → (j : ℕ) → first_place s (suc j) ≡ first_place s j + clocks_of s (j % 2)
unfolding first_place
first_next s f j =
    by_test (eqb (j % 2) 0)
    (λ e.
    let c : j % 2 ≡ 0 = eqb-true (j % 2) 0 e in
    let a : suc j / 2 ≡ j / 2 = omega arith in
    let b : suc j % 2 ≡ 1 = omega arith in
    rw (a, b, c) (omega arith))
    (λ e.
    let odd : j % 2 ≡ 0 → ⊥ = eqb-false (j % 2) 0 e in
    let c : j % 2 ≡ 1 = omega arith in
    let a : suc j / 2 ≡ j / 2 + 1 = omega arith in
    let b : suc j % 2 ≡ 0 = omega arith in
    rw (a, b, c) (omega (arith, f.right, add-mul (j / 2) 1 s.frame)))

-- The edge of the frame, within one frame and beyond it.
pub wrapped_in : (s : Shape) (x : ℕ) → x < 2 * s.frame → wrapped s x ≡ x
unfolding wrapped
wrapped_in s x h = if_false (leb (2 * s.frame) x) _ _ (lt-leb (2 * s.frame) x h)

pub wrapped_over : (s : Shape) (x : ℕ) → 2 * s.frame ≤ x → wrapped s x ≡ x - 2 * s.frame
unfolding wrapped
wrapped_over s x h = if_true (leb (2 * s.frame) x) _ _ (le-leb (2 * s.frame) x h)

-- One or the other.
by_wrapped : {A : Type 0} (s : Shape) (x : ℕ) → (2 * s.frame ≤ x → wrapped s x ≡ x - 2 * s.frame → A) →
    (x < 2 * s.frame → wrapped s x ≡ x → A) → A
by_wrapped s x over under =
    by_test (leb (2 * s.frame) x) (λ e. let h : 2 * s.frame ≤ x = leb-true _ _ e in over h (wrapped_over s x h))
    (λ e. let h : x < 2 * s.frame = leb-false _ _ e in under h (wrapped_in s x h))

pub wrapped_next : (s : Shape) (x : ℕ) → x + 1 < 2 * s.frame + 2 * s.frame → next (2 * s.frame) (wrapped s x) ≡ wrapped s (x + 1)
unfolding next
wrapped_next s x h =
    by_wrapped s x
    (λ over a.
    let b : wrapped s (x + 1) ≡ x + 1 - 2 * s.frame = wrapped_over s (x + 1) (omega arith) in
    if_true (ltb (wrapped s x + 1) (2 * s.frame)) _ _ (lt-ltb (wrapped s x + 1) (2 * s.frame) (omega arith)) ∙ omega arith)
    (λ under a.
    by_wrapped s (x + 1)
    (λ last b.
    if_false (ltb (wrapped s x + 1) (2 * s.frame)) _ _ (le-ltb (wrapped s x + 1) (2 * s.frame) (omega arith)) ∙ omega arith)
    (λ more b.
    if_true (ltb (wrapped s x + 1) (2 * s.frame)) _ _ (lt-ltb (wrapped s x + 1) (2 * s.frame) (omega arith)) ∙ omega arith))

-- A first place or not.
pub is_first : (s : Shape) (at : ℕ) → at ≡ 2 * s.before → at_first_place s at ≡ true
unfolding at_first_place
is_first s at e = rw (eq-eqb at (2 * s.before) e)

pub is_second : (s : Shape) (at : ℕ) → at ≡ 2 * (s.before + s.step) → at_first_place s at ≡ true
unfolding at_first_place
is_second s at e = rw (eq-eqb at (2 * (s.before + s.step)) e) (or-true (eqb at (2 * s.before)))

pub not_first : (s : Shape) (at : ℕ) → (at ≡ 2 * s.before → ⊥) → (at ≡ 2 * (s.before + s.step) → ⊥) → at_first_place s at ≡ false
unfolding at_first_place
not_first s at e f = rw (ne_eqb at (2 * s.before) e, ne_eqb at (2 * (s.before + s.step)) f)

-- Within a channel there is no first place; at its end there is.
pub channel_open : (s : Shape) → Fits s → (channel e : ℕ) → 1 ≤ e → e < 2 * clocks_of s channel → at_first_place s (spot s channel e) ≡ false
channel_open s f zero e some short =
    let a : spot s 0 e ≡ 2 * (s.before + 0) + e = wrapped_in s _ (omega (arith, f.inside)) in
    not_first s (spot s 0 e) (λ g. omega arith) (λ g. omega arith)
channel_open s f (suc k) e some short =
    by_wrapped s (2 * (s.before + s.step) + e)
    (λ over a. not_first s (spot s (suc k) e) (λ x. omega (arith, f.right)) (λ x. omega (arith, f.right)))
    (λ under a. not_first s (spot s (suc k) e) (λ x. omega arith) (λ x. omega arith))

pub channel_end : (s : Shape) → Fits s → (channel e : ℕ) → e ≡ 2 * clocks_of s channel → at_first_place s (spot s channel e) ≡ true
channel_end s f zero e end =
    let a : spot s 0 e ≡ 2 * (s.before + 0) + e = wrapped_in s _ (omega (arith, f.inside)) in
    is_second s (spot s 0 e) (omega arith)
channel_end s f (suc k) e end =
    let a : spot s (suc k) e ≡ 2 * (s.before + s.step) + e - 2 * s.frame =
    wrapped_over s _ (omega (arith, f.right)) in
    is_first s (spot s (suc k) e) (omega (arith, f.right))

-- The parity of an edge of the frame is that of the channel's edge.
pub spot_parity : (s : Shape) (channel e : ℕ) → spot s channel e % 2 ≡ e % 2
spot_parity s channel e =
    by_wrapped s (2 * (s.before + offset s channel) + e) (λ over a. omega arith) (λ under a. omega arith)

-- A sample ends within its channel, and a channel within two frames.
pub last_within : (s : Shape) → Fits s → (channel : ℕ) → last_edge s ≤ 2 * clocks_of s channel
last_within s f zero = omega (arith, f.left)
last_within s f (suc k) = omega (arith, f.right)

pub spot_bound : (s : Shape) → Fits s → (channel e : ℕ) → e ≤ 2 * clocks_of s channel →
    2 * (s.before + offset s channel) + e + 1 < 2 * s.frame + 2 * s.frame
spot_bound s f zero e h = omega (arith, f.inside)
spot_bound s f (suc k) e h = omega (arith, f.inside)

pub spot_next : (s : Shape) → Fits s → (channel e : ℕ) → e ≤ 2 * clocks_of s channel →
    next (2 * s.frame) (spot s channel e) ≡ spot s channel ((e + 1))
spot_next s f channel e h =
    let same : 2 * (s.before + offset s channel) + e + 1 ≡ 2 * (s.before + offset s channel) + (e + 1) = omega arith in
    wrapped_next s (2 * (s.before + offset s channel) + e) (spot_bound s f channel e h) ∙ ap (wrapped s) same

-- Behind a channel's last edge comes the other channel's first.
pub spot_turn : (s : Shape) → Fits s → (j e : ℕ) → e ≡ 2 * clocks_of s (j % 2) → spot s (j % 2) ((e + 1)) ≡ spot s (suc j % 2) 1
spot_turn s f j e end =
    by_test (eqb (j % 2) 0)
    (λ g.
    let a : j % 2 ≡ 0 = eqb-true (j % 2) 0 g in
    let b : suc j % 2 ≡ 1 = omega arith in
    let k : e ≡ 2 * s.step = end ∙ ap (λ (c : ℕ). 2 * clocks_of s c) a in
    let same : 2 * (s.before + 0) + (e + 1) ≡ 2 * (s.before + s.step) + 1 = omega arith in
    rw (a, b) (ap (wrapped s) same))
    (λ g.
    let odd : j % 2 ≡ 0 → ⊥ = eqb-false (j % 2) 0 g in
    let a : j % 2 ≡ 1 = omega arith in
    let b : suc j % 2 ≡ 0 = omega arith in
    let k : e ≡ 2 * (s.frame - s.step) = end ∙ ap (λ (c : ℕ). 2 * clocks_of s c) a in
    rw (
      a,
      b,
      wrapped_over s (2 * (s.before + s.step) + (e + 1)) (omega (arith, f.inside)),
      wrapped_in s (2 * (s.before + 0) + 1) (omega (arith, f.inside)),
    )
    (omega (arith, f.inside)))

pub first_zero : (s : Shape) → first_place s 0 ≡ s.before
unfolding first_place
first_zero s = omega arith

-- First places rise.
pub first_rises : (s : Shape) → Fits s → (j k : ℕ) → j ≤ k → first_place s j ≤ first_place s k
first_rises s f j zero h = let none : j ≡ 0 = omega arith in rw none (omega arith)
first_rises s f j (suc k) h =
    by_test (leb j k)
    (λ e. let ih : first_place s j ≤ first_place s k = first_rises s f j k (leb-true j k e) in omega (arith, first_next s f k))
    (λ e. let beyond : k < j = leb-false j k e in let same : j ≡ suc k = omega arith in rw same (omega arith))

-- A clock lies in one channel.
pub one_channel : (s : Shape) → Fits s → (i j n : ℕ) → first_place s i ≤ n → n < first_place s (suc i) → first_place s j ≤ n →
    n < first_place s (suc j) → i ≡ j
one_channel s f i j n a b c d =
    by_test (ltb i j) (λ e. absurd (omega (arith, first_rises s f (suc i) j (ltb-true i j e))))
    (λ e.
    by_test (ltb j i) (λ g. absurd (omega (arith, first_rises s f (suc j) i (ltb-true j i g))))
    (λ g. omega (arith, ltb-false i j e, ltb-false j i g)))
