-- What calls on a module in memory come to, and how its numbers settle tests.
--     flag_on, flag_off   a number as a flag
--     flag_of             a flag that is stored
--     refused             a call that is refused
--     kept, changed       a call that leaves memory alone, and one whose answer allows that it does not
--     told                a call that answers as another does
--     _then_, alike       two steps of the engine, one after the other, and a step that is another
-- Assumes nothing.
use Rattle.std.specs.Prelude.{◌≡◌, Bool, Result, Err}
use mir.Val.{bool_byte}
use Rattle.laws.proofs.Common.{ℕ, true, false, not, List, refl, ap, subst, ◌∙◌, eq-eqb, ne_eqb, clash}
use Rattle.ti_rules.specs.declared.Settings.{Settings}
use Rattle.ti_rules.specs.declared.Engine.{Engine}
use Rattle.ti_rules.specs.declared.Ti.{Ti}
use Rattle.ti_rules.specs.declared.Refusal.{Refusal}
use Rattle.ti_rules.specs.declared.Answer.{Answer}
use Rattle.ti_rules.specs.declared.Outcome.{Outcome}
use Rattle.ti_rules.specs.Calls.{refuse}
use Rattle.ti.specs.Memory.{flag_in, ti_in, engine_step, Steps, answer_of, untouching, Gives}

pub flag_on : (x : ℕ) → (x ≡ 0 → ⊥) → flag_in x ≡ true
flag_on x h = ap not (ne_eqb x 0 h)

pub flag_off : (x : ℕ) → x ≡ 0 → flag_in x ≡ false
flag_off x e = ap not (eq-eqb x 0 e)

flag_byte : (b : Bool) → flag_in (bool_byte b) ≡ b
flag_byte true = refl
flag_byte false = refl

pub flag_of : {x : ℕ} {b : Bool} → x ≡ bool_byte b → flag_in x ≡ b
flag_of {b = b} e = ap flag_in e ∙ flag_byte b

module _ {A : Type 0} {value : A → Answer} where
  pub kept : {o : Outcome} {r : Result A Refusal} {w : List ℕ} → answer_of value r ≡ o.answer → ti_in w ≡ o.after → Gives value o r w w
  kept n h = record { answer = n; holds = h; untouched = λ _. refl }

  pub changed : {o : Outcome} {r : Result A Refusal} {a b : List ℕ} → answer_of value r ≡ o.answer → ti_in b ≡ o.after →
      untouching o.answer ≡ false → Gives value o r a b
  changed {o = o} n h u = record { answer = n; holds = h; untouched = λ t. clash (untouching o.answer) t u }

  pub told : {o p : Outcome} {r : Result A Refusal} {a b : List ℕ} → Gives value p r a b → p ≡ o → Gives value o r a b
  told {r = r} {a = a} {b = b} h e = subst (λ (x : Outcome). Gives value x r a b) e h

  pub refused : {o : Outcome} {r : Refusal} {w : List ℕ} → refuse (ti_in w) r ≡ o → Gives value o (Err r) w w
  refused {o = o} {r = r} {w = w} e = told (kept refl refl) e

infixl 5 ◌then◌
pub ◌then◌ : {f g : Settings → Engine → Engine} {a b d : List ℕ} → Steps f a b → Steps g b d → Steps (λ s n. g s (f s n)) a d
◌then◌ {g = g} h k = record { steps = k.steps ∙ ap (engine_step g) h.steps }

-- A step that is another at this module.
pub alike : {f g : Settings → Engine → Engine} {a b : List ℕ} → Steps f a b →
    f (ti_in a).settings (ti_in a).engine ≡ g (ti_in a).settings (ti_in a).engine → Steps g a b
alike {a = a} h e =
    record {
      steps =
          h.steps
          ∙ ap (λ (n : Engine). let m : Ti = record { reset = (ti_in a).reset; settings = (ti_in a).settings; engine = n } in m) e;
    }
