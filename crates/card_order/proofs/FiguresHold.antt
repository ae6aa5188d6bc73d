-- The figures that judge a card are those of its rules' frame.
--     by_named          what holds of each named length and frame holds of all
--     named_fits        they fit, for each protocol
--     same_figures      the figures of a frame are its shape's
--     terms_same        the law's terms
--     frame_is, lrck_same   first places, the next channel and LRCK, by the place in the frame
--     place_next        the card's place in the frame is the count of edges, less whole frames
-- Assumes nothing.
use Rattle.std.specs.Prelude.{◌+◌, ◌*◌, ◌-◌, ◌/◌, ◌%◌, ◌≤◌, ◌<◌, ◌&&◌, ◌||◌, ◌≡◌}
use Rattle.laws.proofs.Common.{ℕ, Bool, true, false, not, or-true, refl}
use Rattle.laws.proofs.Common.{sym, ap, ◌∙◌, mod-lt, mod-eq_of_lt, arith, eqb-true, eq-eqb, ltb-true, ltb-false, lt-ltb}
use Rattle.laws.proofs.Common.{leb-true, le-leb, ltb, leb, eqb, when◌then◌else◌, if_keeps, and_left, and_right, and_both}
use native.Mathlib.Nat.{mod_self, suc-mod}
use native.Mathlib.Numerals.{add-one}
use Rattle.ring.specs.Ring.{next}
use Rattle.card_rules.specs.Settings.{Protocol, i2s, left_justified, right_justified, pcm, named, Settings, shape_for, shape_of}
use Rattle.card_rules.specs.Edge.{at_first_place, samples, lrck_at}
use Rattle.card_rules.specs.Figures.{protocol_number, ahead, apart, zeros, is_i2s, pairs, is_pair, starts_channel, right_follows, lrck_expected, card_terms}
use Rattle.card_order.specs.Invariant.{Fits, terms_of}

-- Two tests that follow from each other agree.
pub same_test : (a b : Bool) → (a ≡ true → b ≡ true) → (b ≡ true → a ≡ true) → a ≡ b
same_test true b f g = sym (f refl)
same_test false true f g = g refl
same_test false false f g = refl

or_either : {A : Type 0} (a b : Bool) → (a || b) ≡ true → (a ≡ true → A) → (b ≡ true → A) → A
or_either true b e f g = f refl
or_either false b e f g = g e

-- The four named lengths and frames.
pub by_named : (P : ℕ → ℕ → Type 0) → P 16 32 → P 16 64 → P 24 64 → P 32 64 → (bits frame : ℕ) → named bits frame ≡ true →
    P bits frame
unfolding named
by_named P a b c d bits frame e =
    or_either (eqb bits 16 && eqb frame 32) _ e
    (λ g. at 16 32 (and_left (eqb bits 16) _ g) (and_right (eqb bits 16) _ g) a)
    (λ g.
    let long : eqb frame 64 ≡ true = and_right (eqb bits 16 || (eqb bits 24 || eqb bits 32)) _ g in
    or_either (eqb bits 16) _ (and_left (eqb bits 16 || (eqb bits 24 || eqb bits 32)) _ g)
    (λ h. at 16 64 h long b)
    (λ h. or_either (eqb bits 24) _ h (λ k. at 24 64 k long c) (λ k. at 32 64 k long d)))
  where
    at : (x y : ℕ) → eqb bits x ≡ true → eqb frame y ≡ true → P x y → P bits frame
    at x y g h p = rw (eqb-true frame y h, eqb-true bits x g) p

-- The page's list of them is the rules' test.
pub pairs_same : (bits frame : ℕ) → is_pair bits frame pairs ≡ named bits frame
unfolding named
pairs_same bits frame = go (eqb bits 16) (eqb bits 24) (eqb bits 32) (eqb frame 32) (eqb frame 64)
  where
    go : (a b c f g : Bool) →
        ((a && f) || ((a && g) || ((b && g) || ((c && g) || false)))) ≡ ((a && f) || ((a || (b || c)) && g))
    go true b c true g = refl
    go true b c false true = refl
    go true true true false false = refl
    go true true false false false = refl
    go true false true false false = refl
    go true false false false false = refl
    go false true c f true = refl
    go false true true f false = refl
    go false true false f false = refl
    go false false true f true = refl
    go false false true f false = refl
    go false false false f g = refl

fits : (p : Protocol) (bits frame : ℕ) → 1 ≤ bits → bits ≤ 32 → bits ≤ frame / 2 → 16 ≤ frame / 2 → Fits (shape_for p bits frame)
fits i2s b f x m y z = record { some = x; most = m; left = omega arith; right = omega arith; inside = omega arith }
fits left_justified b f x m y z = record { some = x; most = m; left = omega arith; right = omega arith; inside = omega arith }
fits right_justified b f x m y z = record { some = x; most = m; left = omega arith; right = omega arith; inside = omega arith }
fits pcm b f x m y z = record { some = x; most = m; left = omega arith; right = omega arith; inside = omega arith }

pub named_fits : (x : Settings) → named x.bits x.frame ≡ true → Fits (shape_of x)
unfolding shape_of
named_fits x =
    by_named (λ (b f : ℕ). Fits (shape_for x.protocol b f)) (fits x.protocol 16 32 (omega arith) (omega arith) (omega arith) (omega arith))
    (fits x.protocol 16 64 (omega arith) (omega arith) (omega arith) (omega arith))
    (fits x.protocol 24 64 (omega arith) (omega arith) (omega arith) (omega arith))
    (fits x.protocol 32 64 (omega arith) (omega arith) (omega arith) (omega arith))
    x.bits x.frame

-- The figures of a frame are its shape's: once over the protocols.
pub record SameFigures (x : Settings) : Type 0 where
  pub before : ahead x ≡ (shape_of x).before
  pub step : apart x ≡ (shape_of x).step
  pub lead : zeros x ≡ (shape_of x).lead
  pub bits : x.bits ≡ (shape_of x).bits
  pub frame : x.frame ≡ (shape_of x).frame
  -- LRCK is active for half a frame, or for one clock
  pub active : (when eqb (protocol_number x.protocol) 3 then 1 else x.frame / 2) ≡ (shape_of x).active
  pub rest : is_i2s x ≡ (shape_of x).rest
  pub small : (shape_of x).before ≤ 1

pub same_figures : (x : Settings) → SameFigures x
unfolding shape_of when◌then◌else◌
same_figures x = go x.protocol
  where
    go : (p : Protocol) → SameFigures (record { protocol = p; bits = x.bits; frame = x.frame })
    go i2s =
        record { before = refl; step = refl; lead = refl; bits = refl; frame = refl; active = refl; rest = refl; small = omega arith }
    go left_justified =
        record { before = refl; step = refl; lead = refl; bits = refl; frame = refl; active = refl; rest = refl; small = omega arith }
    go right_justified =
        record { before = refl; step = refl; lead = refl; bits = refl; frame = refl; active = refl; rest = refl; small = omega arith }
    go pcm =
        record { before = refl; step = refl; lead = refl; bits = refl; frame = refl; active = refl; rest = refl; small = omega arith }

-- The law's terms.
pub terms_same : (x : Settings) → card_terms x ≡ terms_of (shape_of x)
unfolding samples
terms_same x = let s = same_figures x in rw s.lead (simp s.bits)

-- A frame of 32 or 64 clocks: its clocks by its edges. `b` clocks come before the left channel, and `k` clocks lie from there to a place.
record Halves (f : ℕ) : Type 0 where
  pub to : (b k n : ℕ) → b ≤ 1 → b + k < f → n % 2 ≡ 0 → b ≤ n / 2 → (n / 2 - b) % f ≡ k → n % (2 * f) ≡ 2 * (b + k)
  pub even : (b k n : ℕ) → b + k < f → n % (2 * f) ≡ 2 * (b + k) → n % 2 ≡ 0
  pub from : (b k n : ℕ) → b + k < f → n % (2 * f) ≡ 2 * (b + k) → b ≤ n / 2
  pub back : (b k n : ℕ) → b ≤ 1 → b + k < f → n % (2 * f) ≡ 2 * (b + k) → (n / 2 - b) % f ≡ k
  pub passed : (b k n : ℕ) → b + k < f → 2 * b < n % (2 * f) → n % (2 * f) ≤ 2 * (b + k) →
      (b < (n + 1) / 2) × (1 ≤ ((n + 1) / 2 - b) % f) × (((n + 1) / 2 - b) % f ≤ k)
  pub passed_back : (b k n : ℕ) → b ≤ 1 → b + k < f → b < (n + 1) / 2 → 1 ≤ ((n + 1) / 2 - b) % f → ((n + 1) / 2 - b) % f ≤ k →
      (2 * b < n % (2 * f)) × (n % (2 * f) ≤ 2 * (b + k))
  pub half : (n : ℕ) → n / 2 % f ≡ n % (2 * f) / 2

halves_32 : Halves 32
halves_32 =
    record {
      to = λ b k n x y z u v. omega arith;
      even = λ b k n x y. omega arith;
      from = λ b k n x y. omega arith;
      back = λ b k n x y z. omega arith;
      passed = λ b k n x y z. (omega arith, omega arith, omega arith);
      passed_back = λ b k n x y z u v. (omega arith, omega arith);
      half = λ n. omega arith;
    }

halves_64 : Halves 64
halves_64 =
    record {
      to = λ b k n x y z u v. omega arith;
      even = λ b k n x y. omega arith;
      from = λ b k n x y. omega arith;
      back = λ b k n x y z. omega arith;
      passed = λ b k n x y z. (omega arith, omega arith, omega arith);
      passed_back = λ b k n x y z u v. (omega arith, omega arith);
      half = λ n. omega arith;
    }

-- First places, and the next channel, by the place in the frame.
module _ (f : ℕ) (q : Halves f) (b k n : ℕ) (small : b ≤ 1) (inside : b + k < f) where
  starts_if : (c : ℕ) → b + c < f → n % (2 * f) ≡ 2 * (b + c) → (eqb ((n / 2 - b) % f) 0 || eqb ((n / 2 - b) % f) k) ≡ true →
      (eqb (n % 2) 0 && (leb b (n / 2) && (eqb ((n / 2 - b) % f) 0 || eqb ((n / 2 - b) % f) k))) ≡ true
  starts_if c within at z =
      and_both _ _ (eq-eqb (n % 2) 0 (q.even b c n within at)) (and_both _ _ (le-leb b (n / 2) (q.from b c n within at)) z)

  starts : (eqb (n % 2) 0 && (leb b (n / 2) && (eqb ((n / 2 - b) % f) 0 || eqb ((n / 2 - b) % f) k)))
      ≡ (eqb (n % (2 * f)) (2 * b) || eqb (n % (2 * f)) (2 * (b + k)))
  starts =
      same_test _ _
      (λ e.
      let even : n % 2 ≡ 0 = eqb-true (n % 2) 0 (and_left _ _ e) in
      let rest = and_right (eqb (n % 2) 0) _ e in
      let from : b ≤ n / 2 = leb-true b (n / 2) (and_left (leb b (n / 2)) _ rest) in
      or_either (eqb ((n / 2 - b) % f) 0) _ (and_right (leb b (n / 2)) _ rest)
      (λ g.
      let r : n % (2 * f) ≡ 2 * (b + 0) = q.to b 0 n small (omega arith) even from (eqb-true ((n / 2 - b) % f) 0 g) in
      rw (eq-eqb (n % (2 * f)) (2 * b) (omega arith)))
      (λ g. rw (eq-eqb (n % (2 * f)) (2 * (b + k)) (q.to b k n small inside even from (eqb-true ((n / 2 - b) % f) k g)), or-true)))
      (λ e.
      or_either (eqb (n % (2 * f)) (2 * b)) _ e
      (λ g.
      let z : n % (2 * f) ≡ 2 * b = eqb-true (n % (2 * f)) (2 * b) g in
      let at : n % (2 * f) ≡ 2 * (b + 0) = omega arith in
      starts_if 0 (omega arith) at (rw (eq-eqb ((n / 2 - b) % f) 0 (q.back b 0 n small (omega arith) at))))
      (λ g.
      let at : n % (2 * f) ≡ 2 * (b + k) = eqb-true (n % (2 * f)) (2 * (b + k)) g in
      starts_if k inside at (rw (eq-eqb ((n / 2 - b) % f) k (q.back b k n small inside at), or-true))))

  follows : (ltb b ((n + 1) / 2) && (leb 1 (((n + 1) / 2 - b) % f) && leb (((n + 1) / 2 - b) % f) k))
      ≡ (ltb (2 * b) (n % (2 * f)) && leb (n % (2 * f)) (2 * (b + k)))
  follows =
      same_test _ _
      (λ e.
      let rest = and_right (ltb b ((n + 1) / 2)) _ e in
      let r = q.passed_back b k n small inside (ltb-true _ _ (and_left (ltb b ((n + 1) / 2)) _ e))
      (leb-true _ _ (and_left (leb 1 (((n + 1) / 2 - b) % f)) _ rest))
      (leb-true _ _ (and_right (leb 1 (((n + 1) / 2 - b) % f)) _ rest)) in
      and_both _ _ (lt-ltb _ _ r.0) (le-leb _ _ r.1))
      (λ e.
      let r = q.passed b k n inside (ltb-true _ _ (and_left (ltb (2 * b) (n % (2 * f))) _ e))
      (leb-true _ _ (and_right (ltb (2 * b) (n % (2 * f))) _ e)) in
      and_both _ _ (lt-ltb _ _ r.0) (and_both _ _ (le-leb _ _ r.1) (le-leb _ _ r.2)))

-- So much of a card's frame.
pub record FrameIs (x : Settings) (n : ℕ) : Type 0 where
  pub starts : starts_channel x n ≡ at_first_place (shape_of x) (n % (2 * x.frame))
  pub follows : right_follows x n
      ≡ (ltb (2 * (shape_of x).before) (n % (2 * x.frame)) && leb (n % (2 * x.frame)) (2 * ((shape_of x).before + (shape_of x).step)))
  pub half : n / 2 % x.frame ≡ n % (2 * x.frame) / 2

pub frame_is : (x : Settings) → named x.bits x.frame ≡ true → (n : ℕ) → FrameIs x n
unfolding at_first_place
frame_is x e n =
    let s = same_figures x in
    let q : Halves x.frame = by_named (λ (b f : ℕ). Halves f) halves_32 halves_64 halves_64 halves_64 x.bits x.frame e in
    let inside : (shape_of x).before + (shape_of x).step < x.frame = omega (arith, (named_fits x e).inside, s.frame) in
    record {
      starts = rw (s.before, s.step) (starts x.frame q _ _ n s.small inside);
      follows = rw (s.before, s.step) (follows x.frame q _ _ n s.small inside);
      half = q.half n;
    }

-- The card's place in the frame is the count of edges, less whole frames.
pub place_next : (f n k : ℕ) → 1 ≤ f → k ≡ n % (2 * f) → next (2 * f) k ≡ (n + 1) % (2 * f)
unfolding next
place_next f n k some e =
    let m : ℕ = 2 * f in
    let below : n % m < m = mod-lt n (omega arith) in
    rw (add-one n, suc-mod n m, ← e, ← add-one k)
    (if_keeps (λ (r : ℕ). r ≡ (k + 1) % m) (ltb (k + 1) m) _ _
    (λ short. sym (mod-eq_of_lt (ltb-true (k + 1) m short)))
    (λ last.
    let there : m ≤ k + 1 = ltb-false (k + 1) m last in
    let same : k + 1 ≡ m = omega arith in
    sym (ap (λ (r : ℕ). r % m) same ∙ mod_self m)))

-- LRCK after an edge.
lrck_half : (r a : ℕ) → ltb r (2 * a) ≡ ltb (r / 2) a
lrck_half r a =
    same_test _ _ (λ e. let x : r < 2 * a = ltb-true r (2 * a) e in lt-ltb (r / 2) a (omega arith))
    (λ e. let x : r / 2 < a = ltb-true (r / 2) a e in lt-ltb r (2 * a) (omega arith))

-- the clock before the last edge lies in LRCK's active part
pub lrck_same : (x : Settings) → named x.bits x.frame ≡ true → (n : ℕ) →
    lrck_at (shape_of x) (n % (2 * x.frame)) ≡ lrck_expected x (n + 1)
unfolding lrck_at when◌then◌else◌
lrck_same x e n =
    let s = same_figures x in
    let same : n + 1 - 1 ≡ n = omega arith in
    rw (s.active, s.rest, le-leb 1 (n + 1) (omega arith), same, (frame_is x e n).half, ← lrck_half)
    (turn (shape_of x).rest (ltb (n % (2 * x.frame)) (2 * (shape_of x).active)))
  where
    turn : (r t : Bool) → (when t then not r else r) ≡ (when r then not t else t)
    turn true true = refl
    turn true false = refl
    turn false true = refl
    turn false false = refl
