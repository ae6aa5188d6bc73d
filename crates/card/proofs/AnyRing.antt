-- Any number stands for one of the two rings: 0 for those waiting, and any other for those unread.
-- Assumes nothing.
use Rattle.std.specs.Prelude.{ℕ, zero, suc, ◌<◌, ◌≡◌, List, Result, Ok, Err, Option, Some, None, min}
use Rattle.laws.proofs.Common.{arith, subst, ◌∙◌}
use Rattle.card.specs.declared.Full.{Full}
use Rattle.card.specs.Rings.{Pushes, Pops}

one : (n : ℕ) → min (suc n) 1 ≡ 1
one n = omega arith

none : min 0 1 ≡ 0
none = omega arith

pub one_of_two : (n : ℕ) {r : ℕ} → r ≡ min n 1 → r < 2
one_of_two n e = omega (arith, e)

pub pushes_any : (n sample : ℕ) {r : ℕ} (before after : List ℕ) (answer : Result (Unit {0}) Full) → r ≡ min n 1 →
    Pushes r sample before answer after → Pushes n sample before answer after
pushes_any zero sample before after answer e h = subst (λ (k : ℕ). Pushes k sample before answer after) (e ∙ none) h
pushes_any (suc n) sample before after (Ok x) e h = subst (λ (k : ℕ). Pushes k sample before (Ok x) after) (e ∙ one n) h
pushes_any (suc n) sample before after (Err full) e h = subst (λ (k : ℕ). Pushes k sample before (Err full) after) (e ∙ one n) h

pub pops_any : (n : ℕ) {r : ℕ} (before after : List ℕ) (answer : Option ℕ) → r ≡ min n 1 → Pops r before answer after → Pops n before answer after
pops_any zero before after answer e h = subst (λ (k : ℕ). Pops k before answer after) (e ∙ none) h
pops_any (suc n) before after (Some x) e h = subst (λ (k : ℕ). Pops k before (Some x) after) (e ∙ one n) h
pops_any (suc n) before after None e h = subst (λ (k : ℕ). Pops k before None after) (e ∙ one n) h
