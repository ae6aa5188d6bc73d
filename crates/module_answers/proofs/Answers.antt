-- What calls on a module in memory come to.
--     kept, changed   a call that leaves memory alone, and one whose answer allows that it does not
--     likewise        a call that answers as another does
--     edge-told       a tick that answers for a clock step
--     answered        the outcome of a step of the engine
--     set, then-set   the outcome of other settings, and of a step and then other settings
-- Assumes nothing.
use Rattle.std.specs.Prelude.{◌≡◌}
use Rattle.laws.proofs.Common.{ℕ, true, false, List, refl, sym, ap, ◌∙◌, clash}
use Rattle.module_rules.proofs.Types.{Settings, Engine, Outcome, Answer, Refused, Done, Value, NoEdge, Edge}
use Rattle.module_rules.specs.Calls.{answering, edge_for, edge_told}
use Rattle.module_memory.specs.Memory.{settings_in, engine_in, module_in, Steps, Sets}
use Rattle.module_answers.specs.Answered.{outcome_in, untouching, Answers}

pub kept : {o : Outcome} {x : Answer} {a : List ℕ} → outcome_in x a ≡ o → Answers o x a a
kept e = record { outcome = e; untouched = λ _. refl }

pub changed : {o : Outcome} {x : Answer} {a b : List ℕ} → untouching x ≡ false → outcome_in x b ≡ o → Answers o x a b
changed {x = x} k e = record { outcome = e; untouched = λ t. clash (untouching x) t k }

pub likewise : {o p : Outcome} {x : Answer} {a b : List ℕ} → Answers o x a b → o ≡ p → Answers p x a b
likewise h e = record { outcome = h.outcome ∙ e; untouched = h.untouched }

-- A clock step leaves memory alone wherever the tick that answers for it tells so.
untouching-for : (x : Answer) → untouching (edge_for x) ≡ true → untouching x ≡ true
untouching-for (Refused r) e = refl
untouching-for Done e = clash false e refl
untouching-for (Value v) e = e
untouching-for NoEdge e = refl
untouching-for Edge e = e

pub edge-told : {o : Outcome} {x y : Answer} {a b : List ℕ} → Answers o x a b → y ≡ edge_for x → Answers (edge_told o) y a b
unfolding edge_told
edge-told {x = x} {b = b} h e =
    record {
      outcome = ap (λ (z : Answer). outcome_in z b) e ∙ ap edge_told h.outcome;
      untouched = λ t. h.untouched (untouching-for x (sym (ap untouching e) ∙ t));
    }

pub answered : (x : Answer) {f : Settings → Engine → Engine} {a b : List ℕ} {n : Engine} → Steps f a b →
    f (settings_in a) (engine_in a) ≡ n → outcome_in x b ≡ answering (module_in a) x n
unfolding answering
answered x h e = cc

pub set : (x : Answer) {f : Settings → Settings} {a b : List ℕ} {s : Settings} → Sets f a b → f (settings_in a) ≡ s →
    outcome_in x b ≡ record { answer = x; after = record { settings = s; engine = engine_in a } }
set x h e = cc

pub then-set : (x : Answer) {f : Settings → Settings} {g : Settings → Engine → Engine} {a b c : List ℕ} {s : Settings}
    {n : Engine} → Steps g a b → Sets f b c → f (settings_in a) ≡ s → g (settings_in a) (engine_in a) ≡ n →
    outcome_in x c ≡ record { answer = x; after = record { settings = s; engine = n } }
then-set x h k e d = cc
