-- The positions of a ring, for any depth: they stay within the depth, and the write position stays the count of words
-- ahead of the read position.
--     next_within, after_within     positions lie within the depth
--     after_none, after_apart       the write position of an empty ring, and of one that is neither empty nor full
--     push_apart, pop_apart         the distance after a push and after a pop
--     ring_empty, ring_push, ring_pop   RingHolds of the empty ring, and after a push and a pop
-- Assumes nothing.
use Rattle.std.specs.Prelude.{◌+◌, ◌-◌, ◌<◌, ◌≤◌, ◌≡◌}
use Rattle.laws.proofs.Common.{ℕ, sym, ◌∙◌, arith, ltb-true, ltb-false, ltb, so_lt, not_so_lt}
use Rattle.laws.proofs.Common.{if_keeps}
use mathlib.Core.Logic.{◌≢◌}
use Rattle.ring.specs.Ring.{next, after, RingHolds}

-- The next position lies within the depth.
pub next_within : (depth at : ℕ) → 0 < depth → next depth at < depth
unfolding next
next_within depth at h =
    if_keeps (λ (x : ℕ). x < depth) (ltb (at + 1) depth) (at + 1) 0 (λ e. ltb-true (at + 1) depth e) (λ e. h)

-- The position that lies the count after another lies within the depth.
pub after_within : (depth at count : ℕ) → at < depth → count ≤ depth → after depth at count < depth
unfolding after
after_within depth at count h k =
    if_keeps (λ (x : ℕ). x < depth) (ltb (at + count) depth) (at + count) (at + count - depth)
    (λ e. ltb-true (at + count) depth e)
    (λ e. omega (arith, ltb-false (at + count) depth e))

-- An empty ring is written where it is read.
pub after_none : (depth at : ℕ) → at < depth → after depth at 0 ≡ at
unfolding after
after_none depth at h = sym (so_lt (at + 0) depth (at + 0) (at + 0 - depth) (omega arith) (omega arith))

-- A ring that is neither empty nor full is written elsewhere than it is read.
pub after_apart : (depth at count : ℕ) → at < depth → 1 ≤ count → count < depth → after depth at count ≢ at
unfolding after
after_apart depth at count h k l =
    if_keeps (λ (x : ℕ). x ≢ at) (ltb (at + count) depth) (at + count) (at + count - depth)
    (λ e. omega arith)
    (λ e. omega (arith, ltb-false (at + count) depth e))

-- After a push the write position lies one further.
pub push_apart : (depth at count : ℕ) → at < depth → count < depth →
    next depth (after depth at count) ≡ after depth at (count + 1)
unfolding next after
push_apart depth at count h k =
    let far : ℕ = at + (count + 1) in
    if_keeps (λ (x : ℕ). next depth x ≡ after depth at (count + 1)) (ltb (at + count) depth) _ _
    (λ e.
    let short : at + count < depth = ltb-true (at + count) depth e in
    if_keeps (λ (x : ℕ). x ≡ after depth at (count + 1)) (ltb (at + count + 1) depth) _ _
    (λ f.
    let shorter : at + count + 1 < depth = ltb-true (at + count + 1) depth f in
    so_lt far depth far (far - depth) (omega arith) (omega arith))
    (λ f.
    let there : depth ≤ at + count + 1 = ltb-false (at + count + 1) depth f in
    not_so_lt far depth far (far - depth) (omega arith) (omega arith)))
    (λ e.
    let round : depth ≤ at + count = ltb-false (at + count) depth e in
    let back : ℕ = at + count - depth + 1 in
    not_so_lt far depth far (far - depth) (omega arith) (sym (so_lt back depth back 0 (omega arith) (omega arith))))

-- After a pop the write position lies one less ahead of the read position, which has moved.
pub pop_apart : (depth at count : ℕ) → at < depth → 1 ≤ count → count ≤ depth →
    after depth (next depth at) (count - 1) ≡ after depth at count
unfolding next after
pop_apart depth at count h k l =
    let near : ℕ = at + 1 + (count - 1) in
    let first : ℕ = 0 + (count - 1) in
    if_keeps (λ (x : ℕ). after depth x (count - 1) ≡ after depth at count) (ltb (at + 1) depth) _ _
    (λ e.
    if_keeps (λ (x : ℕ). after depth (at + 1) (count - 1) ≡ x) (ltb (at + count) depth) _ _
    (λ f.
    let short : at + count < depth = ltb-true (at + count) depth f in
    sym (so_lt near depth near (near - depth) (omega arith) (omega arith)))
    (λ f.
    let round : depth ≤ at + count = ltb-false (at + count) depth f in
    sym (not_so_lt near depth near (near - depth) (omega arith) (omega arith))))
    (λ e.
    let last : depth ≤ at + 1 = ltb-false (at + 1) depth e in
    sym (so_lt first depth first (first - depth) (omega arith)
    (sym (not_so_lt (at + count) depth (at + count) (at + count - depth) (omega arith) (omega arith)))))

-- The empty ring of any depth turns within it.
pub ring_empty : (depth : ℕ) → 0 < depth → RingHolds depth 0 0 0
ring_empty depth h = record { within = h; fits = omega arith; apart = sym (after_none depth 0 h) }

module _ (depth write read count : ℕ) (ring : RingHolds depth write read count) where
  -- The write position lies within the depth.
  pub write_within : write < depth
  write_within = rw ring.apart (after_within depth read count ring.within ring.fits)

  -- A ring that is not full turns within its depth after a push.
  pub ring_push : count < depth → RingHolds depth (next depth write) read (count + 1)
  ring_push k =
      record {
        within = ring.within;
        fits = omega arith;
        apart = rw ring.apart (push_apart depth read count ring.within k);
      }

  -- A ring that is not empty turns within its depth after a pop.
  pub ring_pop : 1 ≤ count → RingHolds depth write (next depth read) (count - 1)
  ring_pop k =
      record {
        within = next_within depth read (omega arith);
        fits = omega arith;
        apart = ring.apart ∙ sym (pop_apart depth read count ring.within k ring.fits);
      }
