-- Each arm is a value of the choice.
use Rattle.std.specs.Prelude.{◌≡◌, ◌&&◌, None}
use Rattle.laws.proofs.Common.{ℕ, refl, arith, eqb, eqb-true, and_left, and_right, when◌then◌else◌, by_test, so, not_so, not_so_eq}
use Rattle.card.specs.Memory.{length_number}
use Rattle.card.proofs.length_number.Goals as goal

-- None is named.
none : (bits frame : ℕ) → (frame ≡ 32 → bits ≡ 16 → ⊥) → (frame ≡ 64 → (bits ≡ 16 → ⊥) × (bits ≡ 24 → ⊥) × (bits ≡ 32 → ⊥)) →
    None ≡ length_number bits frame
unfolding length_number
none bits frame short long =
    by_test (eqb bits 16 && eqb frame 32)
    (λ e. absurd (short (eqb-true frame 32 (and_right (eqb bits 16) _ e)) (eqb-true bits 16 (and_left (eqb bits 16) _ e))))
    (λ e.
    not_so _ _ _ e
    (by_test (eqb frame 64)
    (λ f.
    let no = long (eqb-true frame 64 f) in
    so _ _ _ f (not_so_eq bits 16 _ _ no.0 (not_so_eq bits 24 _ _ no.1 (not_so_eq bits 32 _ _ no.2 refl))))
    (λ f. not_so _ _ _ f refl)))

pub returns-in-16-eq32 : goal.returns-in-16-eq32
unfolding length_number when◌then◌else◌
returns-in-16-eq32 c = rw (c.in-16-eq32.is-0, c.in-16-eq32.is-1)

pub returns-in-16-eq64 : goal.returns-in-16-eq64
unfolding length_number when◌then◌else◌
returns-in-16-eq64 c = rw (c.in-16-eq64.is-0, c.in-16-eq64.is-1)

pub returns-in-24-eq64 : goal.returns-in-24-eq64
unfolding length_number when◌then◌else◌
returns-in-24-eq64 c = rw (c.in-24-eq64.is-0, c.in-24-eq64.is-1)

pub returns-in-32-eq64 : goal.returns-in-32-eq64
unfolding length_number when◌then◌else◌
returns-in-32-eq64 c = rw (c.in-32-eq64.is-0, c.in-32-eq64.is-1)

pub returns-in_default : goal.returns-in_default
returns-in_default c = none _ _ (λ e f. omega arith) (λ e. ((λ f. omega arith), (λ f. omega arith), (λ f. omega arith)))

pub returns-in_default-2 : goal.returns-in_default-2
returns-in_default-2 c = none _ _ (λ e f. omega arith) (λ e. ((λ f. omega arith), (λ f. omega arith), (λ f. omega arith)))

pub returns-in_default-3 : goal.returns-in_default-3
returns-in_default-3 c = none _ _ (λ e f. omega arith) (λ e. ((λ f. omega arith), (λ f. omega arith), (λ f. omega arith)))

pub returns-in_default-4 : goal.returns-in_default-4
returns-in_default-4 c = none _ _ (λ e f. omega arith) (λ e. ((λ f. omega arith), (λ f. omega arith), (λ f. omega arith)))
