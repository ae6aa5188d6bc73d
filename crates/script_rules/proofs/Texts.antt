-- Texts in a buffer.
--     put_then         two texts put one behind the other are put as one
--     put_length       the buffer stays as long as it is
--     written_none     no byte is written
--     written_then     two texts one behind the other, by what functions say that they wrote
--     written_case     a text that a case gives is that of what is known to be the case
-- Assumes nothing.
use Rattle.std.specs.Prelude.{◌+◌, ◌∷◌, ◌++◌, ◌≡◌}
use Rattle.laws.proofs.Common.{ℕ, List, [], refl, ap, ◌∙◌, arith, length, set, length-append, length-set}
use Rattle.script_rules.specs.Texts.{put, Written}

pub put_then : (buffer : List ℕ) (place : ℕ) (xs ys : List ℕ) →
    put (put buffer place xs) (place + length xs) ys ≡ put buffer place (xs ++ ys)
unfolding put
put_then buffer place [] ys = ap (λ (k : ℕ). put buffer k ys) (omega arith)
put_then buffer place (x ∷ xs) ys =
    ap (λ (k : ℕ). put (put (set buffer place x) (place + 1) xs) k ys) (omega arith)
    ∙ put_then (set buffer place x) (place + 1) xs ys

pub put_length : (buffer : List ℕ) (place : ℕ) (text : List ℕ) → length (put buffer place text) ≡ length buffer
unfolding put
put_length buffer place [] = refl
put_length buffer place (b ∷ text) = put_length (set buffer place b) (place + 1) text ∙ length-set buffer place b

pub written_none : (out : List ℕ) (at : ℕ) → Written [] out at out at
unfolding put
written_none out at = record { buffer = refl; behind = omega arith }

pub written_then : {xs ys b₀ b₁ b₂ : List ℕ} {p q r : ℕ} → Written xs b₀ p b₁ q → Written ys b₁ q b₂ r →
    Written (xs ++ ys) b₀ p b₂ r
written_then {xs} {ys} {b₀} {b₁} {b₂} {p} {q} {r} h k =
    record {
      buffer = cc (put_then b₀ p xs ys, h.buffer, k.buffer, h.behind);
      behind = omega (arith, length-append xs ys, h.behind, k.behind);
    }

-- A text that is known by its case.
pub written_case : {A : Type 0} (text : A → List ℕ) {x y : A} {before after : List ℕ} {place next : ℕ} → x ≡ y →
    Written (text y) before place after next → Written (text x) before place after next
written_case text e h = record { buffer = cc (ap text e, h.buffer); behind = cc (ap text e, h.behind) }
