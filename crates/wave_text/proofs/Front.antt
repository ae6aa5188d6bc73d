-- What is written from the start of a buffer on is what then stands at its start.
use Rattle.std.specs.Prelude.{◌+◌, ◌≤◌, ◌∷◌, ◌++◌, ◌≡◌, take}
use Rattle.std.proofs.Common.{append_assoc, rules, Result, Ok, Err, IfOk}
use Rattle.std.proofs.lemmas.List.{take_more_set}
use Rattle.laws.proofs.Common.{ℕ, List, [], ap, ◌∙◌, arith, length, set, length-set}
use Rattle.script_rules.specs.Texts.{put, Written}

-- from any place on: what stood before it stays
put_front : (buffer : List ℕ) (place : ℕ) (text : List ℕ) → place + length text ≤ length buffer →
    take (place + length text) (put buffer place text) ≡ take place buffer ++ text
unfolding put
put_front buffer place [] within = search rules
put_front buffer place (b ∷ text) within =
    let rest = put_front (set buffer place b) (place + 1) text (omega (arith, length-set buffer place b, within)) in
    ap (λ (n : ℕ). take n (put (set buffer place b) (place + 1) text)) (omega arith)
    ∙ rest
    ∙ ap (λ (l : List ℕ). l ++ text) (take_more_set buffer place b (omega (arith, within)))
    ∙ append_assoc (take place buffer) (b ∷ []) text

pub written_front : {text before after : List ℕ} {next : ℕ} → Written text before 0 after next → next ≤ length before → take next after ≡ text
written_front {text} {before} {after} {next} h within =
    cc (put_front before 0 text (omega (arith, h.behind, within)), h.buffer, h.behind)

-- What holds of a good answer gives what follows from it.
pub on_ok : {A E : Type 0} {P Q : A → Type 0} (r : Result A E) → IfOk r P → ((a : A) → P a → Q a) → IfOk r Q
on_ok (Ok a) h f = f a h
on_ok (Err e) h f = tt
