-- A table of numbers after one place of it was set: what holds of the number put there and of the others holds of each.
-- Assumes nothing.
use Rattle.std.specs.Prelude.{◌<◌, ◌≡◌}
use Rattle.laws.proofs.Common.{ℕ, List, sym, subst, eqb-true, eqb-false, eqb, length, get_or, set, get_or-set_same}
use Rattle.laws.proofs.Common.{get_or-set_other, by_test}

pub set_each : (P : ℕ → ℕ → Type 0) (l : List ℕ) (k v : ℕ) → P k v → ((j : ℕ) → (j ≡ k → ⊥) → P j (get_or l j 0)) →
    (j : ℕ) → j < length l → P j (get_or (set l k v) j 0)
set_each P l k v here others j h =
    by_test (eqb j k)
    (λ same. subst (λ (i : ℕ). P i (get_or (set l k v) i 0)) (sym (eqb-true j k same))
    (subst (P k) (sym (get_or-set_same l k v 0 (subst (λ (i : ℕ). i < length l) (eqb-true j k same) h))) here))
    (λ other. subst (P j) (sym (get_or-set_other l k j v 0 (eqb-false j k other))) (others j (eqb-false j k other)))
