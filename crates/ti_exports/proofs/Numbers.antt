-- How an answer becomes one number.
--     numbered    a call that tells its answer by a Result tells it by the number of that answer
--     by_result   the number of a Result, by what each of its two sides gives
--     edge_number   the edges of a tick
-- Assumes nothing.
use Rattle.std.specs.Prelude.{◌≡◌, Result, Ok, Err, MatchResult}
use Rattle.laws.proofs.Common.{ℕ, Bool, true, false, refl, List, ap, ◌∙◌}
use Rattle.ti_rules.specs.declared.Refusal.{Refusal}
use Rattle.ti_rules.specs.declared.Answer.{Answer}
use Rattle.ti_rules.specs.declared.Outcome.{Outcome}
use Rattle.ti_rules.specs.declared.Answer.TheVariants.{Refused}
use mir.Val.{bool_byte}
use Rattle.ti.specs.Memory.{ticked, answer_number, answer_of, Gives, Tells}

pub numbered : {A : Type 0} {value : A → Answer} {o : Outcome} {r : Result A Refusal} {n : ℕ} {a b : List ℕ} → Gives value o r a b →
    n ≡ answer_number (answer_of value r) → Tells o n a b
numbered h e = record { number = e ∙ ap answer_number h.answer; holds = h.holds; untouched = h.untouched }

pub by_result : {A : Type 0} (value : A → Answer) {n : ℕ} {P : A → Type 0} {Q : Refusal → Type 0} (r : Result A Refusal) → MatchResult r P Q →
    ((x : A) → P x → n ≡ answer_number (value x)) → ((e : Refusal) → Q e → n ≡ answer_number (Refused e)) → n ≡ answer_number (answer_of value r)
unfolding answer_number
by_result value (Ok x) m ok err = ok x m
by_result value (Err e) m ok err = err e m

pub edge_number : (b : Bool) → bool_byte b ≡ answer_number (ticked b)
unfolding answer_number
edge_number true = refl
edge_number false = refl
