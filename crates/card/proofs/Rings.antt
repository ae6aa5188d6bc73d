-- The two rings of a card in memory, on the laws of rings.
--     below_8                      what holds of each number below 8
--     samples_none, samples_full, samples_room   a ring by its count
--     samples_push, samples_pop    a sample more, and the first one taken
-- Assumes nothing.
use Rattle.std.specs.Prelude.{◌+◌, ◌-◌, ◌%◌, ◌≤◌, ◌<◌, ◌∷◌, ◌++◌, ◌≡◌}
use Rattle.laws.proofs.Common.{ℕ, zero, suc, min, true, false, [], refl, sym, ◌∙◌, arith}
use Rattle.laws.proofs.Common.{le-leb, lt-leb, ltb-true, ltb-false, ltb, length, get_or, set, so_lt, not_so_lt, if_keeps}
use Rattle.laws.proofs.Common.{by_test}
use Rattle.ring.specs.Ring.{next}
use Rattle.ring.specs.Ring as ring
use Rattle.ring.proofs.Contents.{contents_length, contents_none, push_appends, pop_takes_first}
use Rattle.card_rules.specs.Edge.{is_full}
use Rattle.card.specs.Memory.{cells_at, count_in, samples_at}

pub below_8 : (P : ℕ → Type 0) → P 0 → P 1 → P 2 → P 3 → P 4 → P 5 → P 6 → P 7 → (i : ℕ) → i < 8 → P i
below_8 P a b c d e f g h zero small = a
below_8 P a b c d e f g h (suc zero) small = b
below_8 P a b c d e f g h (suc (suc zero)) small = c
below_8 P a b c d e f g h (suc (suc (suc zero))) small = d
below_8 P a b c d e f g h (suc (suc (suc (suc zero)))) small = e
below_8 P a b c d e f g h (suc (suc (suc (suc (suc zero))))) small = f
below_8 P a b c d e f g h (suc (suc (suc (suc (suc (suc zero)))))) small = g
below_8 P a b c d e f g h (suc (suc (suc (suc (suc (suc (suc zero))))))) small = h
below_8 P a b c d e f g h (suc (suc (suc (suc (suc (suc (suc (suc i)))))))) small = absurd (omega arith)

-- The count.
pub count_small : (c : ℕ) → c < 8 → count_in c ≡ c
unfolding count_in
count_small c h = sym (so_lt c 8 c 8 h refl)

pub count_most : (c : ℕ) → count_in c ≤ 8
unfolding count_in
count_most c = if_keeps (λ (n : ℕ). n ≤ 8) (ltb c 8) _ _ (λ e. omega (arith, ltb-true c 8 e)) (λ e. omega arith)

pub count_is : (c : ℕ) → min c 8 ≡ count_in c
unfolding count_in
count_is c = if_keeps (λ (n : ℕ). min c 8 ≡ n) (ltb c 8) _ _ (λ e. omega (arith, ltb-true c 8 e)) (λ e. omega (arith, ltb-false c 8 e))

pub count_many : (c : ℕ) → 8 ≤ c → count_in c ≡ 8
unfolding count_in
count_many c h = sym (not_so_lt c 8 c 8 h refl)

-- A ring by its count.
module _ (read count : ℕ) (place : ℕ → ℕ) where
  pub samples_length : length (samples_at read count place) ≡ count_in count
  unfolding samples_at
  samples_length = contents_length 0 8 (cells_at place) (read % 8) (count_in count)

  pub samples_none : count_in count ≡ 0 → samples_at read count place ≡ []
  unfolding samples_at
  samples_none e = contents_none 0 8 (cells_at place) (read % 8) (count_in count) e

  pub samples_full : 8 ≤ count → is_full (samples_at read count place) ≡ true
  unfolding is_full
  samples_full h = le-leb 8 (length (samples_at read count place)) (omega (arith, samples_length, count_many count h))

  pub samples_room : count < 8 → is_full (samples_at read count place) ≡ false
  unfolding is_full
  samples_room h = lt-leb 8 (length (samples_at read count place)) (omega (arith, samples_length, count_small count h))

  -- The first one, and the rest.
  pub samples_pop : 1 ≤ count_in count →
      samples_at read count place ≡ get_or (cells_at place) (read % 8) 0 ∷ samples_at ((read % 8 + 1) % 8) (count_in count - 1) place
  unfolding samples_at next
  samples_pop some =
      rw (← (next-round (read % 8) (omega arith)), count_small (count_in count - 1) (omega (arith, count_most count)))
      (pop_takes_first 0 8 (cells_at place) (ring.after 8 (read % 8) (count_in count)) (read % 8) (count_in count)
      (record { within = omega arith; fits = count_most count; apart = refl }) some)
    where
      next-round : (r : ℕ) → r < 8 → next 8 r ≡ (r + 1) % 8 % 8
      next-round r h =
          if_keeps (λ (n : ℕ). n ≡ (r + 1) % 8 % 8) (ltb (r + 1) 8) _ _ (λ e. omega (arith, ltb-true (r + 1) 8 e))
          (λ e. omega (arith, ltb-false (r + 1) 8 e))

-- A sample more, behind the others.
pub samples_push : (read count v : ℕ) (place later : ℕ → ℕ) → count < 8 →
    cells_at later ≡ set (cells_at place) ((read % 8 + count) % 8) v →
    samples_at read (count + 1) later ≡ samples_at read count place ++ (v ∷ [])
unfolding samples_at ring.after
samples_push read count v place later room cells =
    let at : ℕ = (read % 8 + count) % 8 in
    let apart : at ≡ ring.after 8 (read % 8) count = round (read % 8) (omega arith) in
    rw (cells, more, count_small count room)
    (push_appends 0 8 (cells_at place) at (read % 8) count (record { within = omega arith; fits = omega arith; apart = apart }) v
    (omega arith) room)
  where
    round : (r : ℕ) → r < 8 → (r + count) % 8 ≡ ring.after 8 r count
    round r h =
        if_keeps (λ (n : ℕ). (r + count) % 8 ≡ n) (ltb (r + count) 8) _ _ (λ e. omega (arith, ltb-true (r + count) 8 e))
        (λ e. omega (arith, ltb-false (r + count) 8 e))

    more : count_in (count + 1) ≡ count + 1
    more = by_test (ltb (count + 1) 8) (λ e. count_small (count + 1) (ltb-true (count + 1) 8 e))
        (λ e. let least : 8 ≤ count + 1 = ltb-false (count + 1) 8 e in count_many (count + 1) least ∙ omega arith)
